-- What all recs of a room but one gain by an event of that one. This project's own.
use Rattle.std.specs.Prelude.{◌≡◌, ◌≢◌, ℕ, ◌<◌, ◌≤◌, List, length, slice_get}
use Rattle.std.specs.declared.option.Option.TheVariants.{Some}
use Rattle.pcm_base.specs.declared.ids.SubId.{SubId}
use Rattle.pcm_base.specs.declared.votes.Acted.{Acted}
use Rattle.pcm_base.specs.model.Group.{stream_of}
use Rattle.pcm_base.specs.model.Stream.{Member, shown}
use Rattle.floor_rule.specs.declared.rule.Marked.{Marked}
use Rattle.room_parts.specs.Recs.{RecView, sub_of}
use Rattle.room_lock.specs.Joined.{HasRoom, IsJoined}
use Rattle.room_lock.specs.Joints.{shared_at}

-- what the rec at a place gains, where the members then stand for these
abbrev pub shared_by : List Member → ℕ → ℕ → List Acted → SubId → ℕ → ℕ → RecView → List Marked
shared_by xs number serial acts sub at i r =
    shared_at i number serial acts (stream_of (sub_of r) xs).state (shown (stream_of (sub_of r) xs) (stream_of (sub_of r) xs).at.hw) sub at

-- the first k recs have gained that, but the own one
abbrev pub SharedTo : ℕ → ℕ → (ℕ → RecView → List Marked) → List RecView → List RecView → Type 0
SharedTo k own gain old now = (i : ℕ) (r : RecView) → i < k → i ≢ own → slice_get old i ≡ Some r → (s : RecView) × (slice_get now i ≡ Some s) × IsJoined r s (gain i r)

-- the own rec is as before, and so are those from k on
pub record Untouched (k own : ℕ) (old now : List RecView) : Type 0 where
  pub own_same : slice_get now own ≡ slice_get old own
  pub after : (i : ℕ) → k ≤ i → slice_get now i ≡ slice_get old i
  pub size : length now ≡ length old

-- each rec but one has room
abbrev pub OthersHaveRoom : ℕ → List RecView → Type 0
OthersHaveRoom own rs = (i : ℕ) (r : RecView) → i ≢ own → slice_get rs i ≡ Some r → HasRoom 3 r
