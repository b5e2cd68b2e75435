-- Whether the recs of a room have room for an event. This project's own.
use Rattle.std.specs.Prelude.{◌≡◌, ℕ, ◌<◌, ◌≤◌, List, length, map, slice_get}
use Rattle.std.specs.declared.option.Option.TheVariants.{Some}
use Rattle.floor_rule.specs.declared.rule.RecKnows.{RecKnows}
use Rattle.room_parts.specs.Recs.{RecView}
use Rattle.room_lock.specs.Joined.{HoldsAt}

abbrev pub knows_of : List RecView → List RecKnows
knows_of rs = map (λ r. r.knows) rs

-- each of the first k has room in memory for three entries more, and in its log

abbrev pub SpareTo : ℕ → List RecView → Type 0
SpareTo k rs = (i : ℕ) (r : RecView) → i < k → slice_get rs i ≡ Some r → 3 ≤ r.spare

abbrev pub ShortTo : ℕ → List RecView → Type 0
ShortTo k rs = (i : ℕ) (r : RecView) → i < k → slice_get rs i ≡ Some r → length r.knows.log ≤ 16777212

-- the rec at place k is the first whose log has no three entries free
pub record IsFull (k : ℕ) (rs : List RecView) : Type 0 where
  pub there : k < length rs
  pub full : HoldsAt (λ r. 16777212 < length r.knows.log) k rs
  pub before : ShortTo k rs
