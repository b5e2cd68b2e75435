-- What a source remembers, where it does. This project's own.
use Rattle.std.specs.Prelude.{◌≤◌, ℕ, ◌+◌, List, length, min, ⊤}
use Rattle.std.specs.declared.option.Option.{Option}
use Rattle.std.specs.declared.option.Option.TheVariants.{Some, None}
use Rattle.pcm_help.specs.Recent.{Kept, Holds}
use Rattle.pcm_help.specs.declared.recent.TheConstants.{KEPT}

-- it remembers the last of all bytes
abbrev pub Remembers : Option Kept → List ℕ → Type 0
Remembers None all = ⊤
Remembers (Some kept) all = Holds kept all

-- it goes on remembering, and has as many of the last bytes as it keeps, where so many more have come
abbrev pub GoesOn : Option Kept → Option Kept → ℕ → Type 0
GoesOn None new more = ⊤
GoesOn (Some old) None more = ⊥
GoesOn (Some old) (Some new) more = min (length old.bytes + more) KEPT ≤ length new.bytes
