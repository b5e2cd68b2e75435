-- What a script has come to. This project's own.
use Rattle.std.specs.Prelude.{ℕ, List, []}
use Rattle.std.specs.declared.option.Option.{Option}
use Rattle.std.specs.declared.option.Option.TheVariants.{Some, None}
use Rattle.pcm_base.specs.model.World.{World, empty}
use Rattle.pcm_io.specs.Shelf.{Files, Stay, OthersStay}

-- The world, the files where the shelf tells them, the name of a file whose store failed, the version of the script, and the text so far.
pub record Session : Type 0 where
  pub world : World
  pub files : Option Files
  pub lost : Option (List ℕ)
  pub version : ℕ
  pub text : List ℕ

-- before the first line
abbrev pub begin : Option Files → Session
begin files = record { world = empty; files = files; lost = None; version = 1; text = [] }

-- the files of the shelf are those of the session, but for a file whose store failed
abbrev pub AreFilesBut : Option (List ℕ) → Option Files → Option Files → Type 0
AreFilesBut None files now = Stay files now
AreFilesBut (Some name) files now = OthersStay files now name

abbrev pub AreFiles : Session → Option Files → Type 0
AreFiles s now = AreFilesBut s.lost s.files now
