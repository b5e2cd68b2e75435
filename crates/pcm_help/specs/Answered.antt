-- The number of the last whole line of a text. This project's own.
use Rattle.std.specs.Prelude.{◌≡◌, ℕ, ◌+◌, ◌*◌, ◌-◌, ◌^◌, ◌==◌, ◌&&◌, min, Bool, true, false, List, [], ◌∷◌, ◌++◌, if◌then◌else◌}
use Rattle.std.specs.Char.{is_ascii_digit}
use Rattle.pcm_help.specs.Lines.{begins_after, feeds_in}
use Rattle.pcm_help.specs.declared.answered.Answered.{Answered}

-- one digit more, up to the last number of 64 bits
abbrev pub with_digit : ℕ → ℕ → ℕ
with_digit n b = min (min (n * 10) (2 ^ 64 - 1) + (b - 48)) (2 ^ 64 - 1)

-- what the digits come to with which a line begins, behind digits that come to n
abbrev pub leading_on : ℕ → List ℕ → ℕ
leading_on n [] = n
leading_on n (b ∷ bytes) = if is_ascii_digit b then leading_on (with_digit n b) bytes else n

abbrev pub leading : List ℕ → ℕ
leading line = leading_on 0 line

abbrev pub all_digits : List ℕ → Bool
all_digits [] = true
all_digits (b ∷ bytes) = is_ascii_digit b && all_digits bytes

-- behind a byte, which is a line feed or not, and a further digit of the line's number or not
abbrev pub after_by : Bool → Bool → Answered → ℕ → Answered
after_by true digit a b = record { last = a.begun; begun = 0; counting = true }
after_by false true a b = record a { begun = with_digit a.begun b }
after_by false false a b = record a { counting = false }

abbrev pub after : Answered → ℕ → Answered
after a b = after_by (b == 10) (a.counting && is_ascii_digit b) a b

-- the last of these whole lines begins with this number; 0 where there is none
pub data EndsIn : List ℕ → ℕ → Type 0 where
  nothing : EndsIn [] 0
  line : (before whole : List ℕ) → begins_after true before ≡ true → feeds_in whole ≡ 0 → EndsIn (before ++ whole ++ 10 ∷ []) (leading whole)

-- it tells the number of the last whole line of all that was written
pub record Tells (a : Answered) (all : List ℕ) : Type 0 where
  pub whole : List ℕ
  pub line : List ℕ
  pub cut : all ≡ whole ++ line
  pub begins : begins_after true whole ≡ true
  pub plain : feeds_in line ≡ 0
  pub last : EndsIn whole a.last
  pub begun : a.begun ≡ leading line
  pub counting : a.counting ≡ all_digits line
