-- The device that plays or records: a group of one substream. This project's own.
use Rattle.std.specs.Prelude.{◌≡◌, ℕ, true, List, [], ◌∷◌, map, ◌≤◌}
use Rattle.pcm_base.specs.declared.card.Card.{Ghosts}
use Rattle.pcm_base.specs.declared.ids.SubId.{SubId}
use Rattle.pcm_base.specs.declared.state.Dir.{Dir}
use Rattle.pcm_base.specs.declared.state.State.TheVariants as state
use Rattle.pcm_base.specs.model.Frame.{bytes_of}
use Rattle.pcm_base.specs.model.Stream.{Stream, Member as ModelMember, no_plan}
use Rattle.card_emul.specs.Limits.{duplex}
use Rattle.pcm_stream.specs.declared.members.Member.{Member}
use Rattle.pcm_stream.specs.MembersStand.{AllStandFor}
use Rattle.pcm_stream.specs.StandsFor.{card_of}
use Rattle.group_trigger.specs.Votes.{all_tell}
use Rattle.pcm_group.specs.Stepped.{all_true}
use Rattle.play_record.specs.Stages.{lone, long_max}

-- The stream is open, over a card of the model duplex with no entry of its fault plan set, and nobody waits on it.
pub record IsOpen (d : Dir) (s : Stream) : Type 0 where
  pub state : s.state ≡ state.Opened
  pub dir : s.dir ≡ d
  pub model : s.model ≡ duplex
  pub long_max : s.long_max ≡ long_max
  pub plan : s.card.plan ≡ no_plan
  pub calls : s.sleepers ≡ []

-- One substream, which is open, and whose card tells its fault plan.
pub record IsDevice {C : Type 0} {g : Ghosts C} (d : Dir) (ms : List (Member C g)) : Type 0 where
  pub member : ModelMember
  pub stands : AllStandFor ms (member ∷ [])
  pub is_open : IsOpen d member.stream
  pub tells : all_true (all_tell ms) ≡ true

-- The device is member k alone, which stands for this stream and on which nobody waits.
pub record IsAt {C : Type 0} {g : Ghosts C} (k : SubId) (s : Stream) (ms : List (Member C g)) : Type 0 where
  pub stands : AllStandFor ms (lone k s ∷ [])
  pub tells : all_true (all_tell ms) ≡ true
  pub calls : s.sleepers ≡ []

-- what the card of each member has taken, as bytes
abbrev pub taken_by : {C : Type 0} {g : Ghosts C} → List (Member C g) → List (List ℕ)
taken_by ms = map (λ m. (card_of m.stream).taken) ms

-- There is one substream, and its card has moved at least n frames since the last hw_params.
pub record HasMoved {C : Type 0} {g : Ghosts C} (n : ℕ) (ms : List (Member C g)) : Type 0 where
  pub member : ModelMember
  pub stands : AllStandFor ms (member ∷ [])
  pub moved : n ≤ member.stream.moved

-- There is one substream, and its card has taken these bytes.
pub record HasTaken {C : Type 0} {g : Ghosts C} (bytes : List ℕ) (ms : List (Member C g)) : Type 0 where
  pub member : ModelMember
  pub stands : AllStandFor ms (member ∷ [])
  pub taken : bytes_of member.stream.card.taken ≡ bytes
