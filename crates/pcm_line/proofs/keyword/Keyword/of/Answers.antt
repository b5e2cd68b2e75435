use Rattle.std.proofs.Common.{◌≡◌, ℕ, List, IfNone, IfSome, Option, None, Some, ap, sym, ◌∙◌}
use Rattle.pcm_line.specs.declared.keyword.Keyword.{Keyword}
use Rattle.pcm_line.specs.Grammar.{IsNoKeyword}
use Rattle.pcm_line.specs.Keywords.{text_of}
use Rattle.pcm_line.specs.Tables.{keyword_for}
use Rattle.pcm_line.proofs.KeywordLaws.{keyword-again, keyword_for-is}
use Rattle.pcm_line.proofs.keyword.Keyword.of.Goals as goal

found-is : (piece : List ℕ) (o : Option Keyword) → o ≡ keyword_for piece → IfSome o (λ k. piece ≡ text_of k)
found-is piece None e = tt
found-is piece (Some k) e = keyword_for-is piece k (sym e)

none-is : (piece : List ℕ) (o : Option Keyword) → o ≡ keyword_for piece → IfNone o (IsNoKeyword piece)
none-is piece None e = λ k same.
    let clash : None ≡ Some k = e ∙ (ap keyword_for same ∙ (keyword-again k).1) in
    absurd cc
none-is piece (Some k) e = tt

pub returns-clause-some : goal.returns-clause-some
returns-clause-some c = found-is c.args.piece.now c.keyword_of.result c.keyword_of.ensures

pub returns-clause-none : goal.returns-clause-none
returns-clause-none c = none-is c.args.piece.now c.keyword_of.result c.keyword_of.ensures
