-- The last bytes of all that went by. This project's own.
use Rattle.std.specs.Prelude.{◌≡◌, ◌⊎◌, ℕ, ◌+◌, Bool, true, List, [], ◌++◌, if◌then◌else◌}
use Rattle.pcm_help.specs.Lines.{begins_after, feeds_in, IsLineEnd}

-- the bytes kept, the line feeds before them, and whether they begin a line
pub record Kept : Type 0 where
  pub bytes : List ℕ
  pub feeds : ℕ
  pub begins : Bool

-- of all bytes the last are kept
pub record Holds (kept : Kept) (all : List ℕ) : Type 0 where
  pub gone : List ℕ
  pub cut : all ≡ gone ++ kept.bytes
  pub feeds : kept.feeds ≡ feeds_in gone
  pub begins : kept.begins ≡ begins_after true gone

-- these are the bytes from the begin of the line of this number on, counted from 1
pub record IsFrom (number : ℕ) (all rest : List ℕ) : Type 0 where
  pub front : List ℕ
  pub cut : all ≡ front ++ rest
  pub place : number ≡ feeds_in front + 1
  pub begins : begins_after true front ≡ true

-- the bytes up to a line feed, or all
pub record IsFirstLine (bytes line : List ℕ) : Type 0 where
  pub behind : List ℕ
  pub cut : bytes ≡ line ++ behind
  pub plain : feeds_in line ≡ 0
  pub end : IsLineEnd behind

-- the number of the first line whose begin is kept
abbrev pub first_whole : Kept → ℕ
first_whole kept = kept.feeds + (if kept.begins then 1 else 2)

-- the number of the last line
abbrev pub last_begun : Kept → ℕ
last_begun kept = kept.feeds + feeds_in kept.bytes + 1

-- the bytes behind so many line feeds
pub record IsBehind (feeds : ℕ) (bytes rest : List ℕ) : Type 0 where
  pub front : List ℕ
  pub cut : bytes ≡ front ++ rest
  pub count : feeds_in front ≡ feeds
  pub begins : (front ≡ []) ⊎ ((b : Bool) → begins_after b front ≡ true)
