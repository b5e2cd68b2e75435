-- What is read of a source ahead of its use, and its lines. This project's own.
use Rattle.std.specs.Prelude.{◌≡◌, ◌⊎◌, ℕ, ◌+◌, ◌<◌, ◌==◌, Bool, true, false, List, [], ◌∷◌, ◌++◌, length}
use Rattle.std.specs.List.{list_any}
use Rattle.std.specs.declared.option.Option.{Option}
use Rattle.std.specs.Io.KnownBytes.{Consumes, IsAtEnd}

-- the bytes that were read and not yet given, how many more may be read, and whether the source was at its end
pub record Ahead : Type 0 where
  pub bytes : List ℕ
  pub room : ℕ
  pub ended : Bool

-- the line that was given last, and what is read ahead behind it
pub record LineState : Type 0 where
  pub line : List ℕ
  pub ahead : Ahead

-- a line feed is among the bytes
abbrev pub has_feed : List ℕ → Bool
has_feed bytes = list_any (λ b. b == 10) bytes

-- nothing more is read: the source was at its end, or no more bytes may be read
abbrev pub IsDone : Ahead → Type 0
IsDone a = (a.ended ≡ true) ⊎ (a.room ≡ 0)

-- the source gave these bytes; its end is known where it was seen, and then it is not read again
pub record HasRead (old new : Ahead) (left left_now : Option (List ℕ)) (bytes : List ℕ) : Type 0 where
  pub consumed : Consumes left left_now bytes
  pub room : length bytes + new.room ≡ old.room
  pub known : old.ended ≡ true → new.ended ≡ true
  pub ended : new.ended ≡ true → ((old.ended ≡ true) × (left_now ≡ left)) ⊎ IsAtEnd left_now

-- bytes may have been read behind those that are there: none are there only where nothing more is read
pub record HasTopped (old new : Ahead) (left left_now : Option (List ℕ)) : Type 0 where
  pub bytes : List ℕ
  pub read : HasRead old new left left_now bytes
  pub ahead : new.bytes ≡ old.bytes ++ bytes
  pub done : new.bytes ≡ [] → IsDone new

-- the line is given up, and bytes may be read ahead: none are there only where nothing more is read
pub record IsMore (old new : LineState) (left left_now : Option (List ℕ)) : Type 0 where
  pub bytes : List ℕ
  pub read : HasRead old.ahead new.ahead left left_now bytes
  pub line : new.line ≡ []
  pub ahead : new.ahead.bytes ≡ old.ahead.bytes ++ bytes
  pub done : new.ahead.bytes ≡ [] → IsDone new.ahead

-- the line has no line feed in it, and behind it stands one, or the end
pub record IsNextLine (old new : LineState) (left left_now : Option (List ℕ)) : Type 0 where
  pub bytes : List ℕ
  pub read : HasRead old.ahead new.ahead left left_now bytes
  pub plain : has_feed new.line ≡ false
  pub cut : (old.ahead.bytes ++ bytes ≡ new.line ++ 10 ∷ new.ahead.bytes)
      ⊎ ((old.ahead.bytes ++ bytes ≡ new.line) × (new.ahead.bytes ≡ []) × IsDone new.ahead)

-- the source failed before its end, and the line holds what came of it: it has no line feed
pub record IsBroken (old new : LineState) (left left_now : Option (List ℕ)) : Type 0 where
  pub bytes : List ℕ
  pub read : HasRead old.ahead new.ahead left left_now bytes
  pub plain : has_feed new.line ≡ false
  pub part : old.ahead.bytes ++ bytes ≡ new.line
  pub none : new.ahead.bytes ≡ []
  pub before_end : old.ahead.ended ≡ false

-- a line feed stands there, and none before it
pub record IsFeedAt (bytes front behind : List ℕ) : Type 0 where
  pub plain : has_feed front ≡ false
  pub cut : bytes ≡ front ++ 10 ∷ behind
