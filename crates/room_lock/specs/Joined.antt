-- What a rec of a room gains. This project's own.
use Rattle.std.specs.Prelude.{◌≡◌, ℕ, ◌+◌, ◌≤◌, List, ◌++◌, length, slice_get, slice_set}
use Rattle.std.specs.declared.option.Option.TheVariants.{Some}
use Rattle.floor_rule.specs.declared.entry.Entry.{Entry}
use Rattle.floor_rule.specs.declared.entry.Entry.TheVariants as entry
use Rattle.floor_rule.specs.declared.entry.Joint.{Joint}
use Rattle.floor_rule.specs.declared.rule.Marked.{Marked}
use Rattle.room_parts.specs.Recs.{RecView}

-- a fact of the one at a place
abbrev pub HoldsAt : {A : Type 0} → (A → Type 0) → ℕ → List A → Type 0
HoldsAt {A} P i xs = (a : A) → slice_get xs i ≡ Some a → P a

-- there is room for so many entries more
abbrev pub HasRoom : ℕ → RecView → Type 0
HasRoom n r = (n ≤ r.spare) × (length r.knows.log + n ≤ 16777215)

-- the log of r has gained these entries in s
pub record IsJoined (r s : RecView) (more : List Marked) : Type 0 where
  pub log : s.knows.log ≡ r.knows.log ++ more
  pub sub : s.knows.sub ≡ r.knows.sub
  pub place : s.knows.place ≡ r.knows.place
  pub spare : s.spare + length more ≡ r.spare

-- the rec at a place has gained these entries, and no other has changed
abbrev pub Gains : List RecView → List RecView → ℕ → List Marked → Type 0
Gains old new i more = (r : RecView) → slice_get old i ≡ Some r → (s : RecView) × (new ≡ slice_set old i s) × IsJoined r s more

-- an own entry with these joints
abbrev pub IsOwnWith : List Joint → Entry → Type 0
IsOwnWith js (entry.Own event bytes joints r s) = joints ≡ js
IsOwnWith js e = ⊥

-- at this place of the log of sub stands an own entry with these joints
abbrev pub HasOwn : ℕ → ℕ → List Joint → RecView → Type 0
HasOwn sub place js r = (r.knows.sub ≡ sub) × ((c : Marked) × (slice_get r.knows.log place ≡ Some c) × IsOwnWith js c.entry)

-- The rec r at place i has gained so many entries, and with these to come all of them.
pub record GainedSoFar (old now : List RecView) (i : ℕ) (n : ℕ) (rest all : List Marked) (r : RecView) : Type 0 where
  pub rec : RecView
  pub gained : List Marked
  pub items : now ≡ slice_set old i rec
  pub joined : IsJoined r rec gained
  pub told : gained ++ rest ≡ all
  pub count : length gained ≡ n
