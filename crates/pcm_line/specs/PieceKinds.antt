-- The kinds of pieces as the code names them, and the words of a kind that has few. This project's own.
use Rattle.std.specs.Prelude.{ℕ, List, [], map}
use Rattle.pcm_line.specs.declared.piece_kind.PieceKind.{PieceKind}
use Rattle.pcm_line.specs.declared.piece_kind.PieceKind.TheVariants as piece
use Rattle.pcm_line.specs.Kinds.{Kind, OfNumber, OfClient, OfSub, OfMode, OfDir, OfModel, OfAccess, OfFormat, OfHex, OfName}
use Rattle.pcm_line.specs.Tables.{modes, dirs, models, accesses, formats}

abbrev pub kind_of : PieceKind → Kind
kind_of piece.Number = OfNumber
kind_of piece.Client = OfClient
kind_of piece.Sub = OfSub
kind_of piece.Mode = OfMode
kind_of piece.Dir = OfDir
kind_of piece.Model = OfModel
kind_of piece.Access = OfAccess
kind_of piece.Format = OfFormat
kind_of piece.Hex = OfHex
kind_of piece.Name = OfName

-- the words of the kind's table
abbrev pub words_of : Kind → List (List ℕ)
words_of OfMode = map (λ entry. entry.0) modes
words_of OfDir = map (λ entry. entry.0) dirs
words_of OfModel = map (λ entry. entry.0) models
words_of OfAccess = map (λ entry. entry.0) accesses
words_of OfFormat = map (λ entry. entry.0) formats
words_of _ = []
