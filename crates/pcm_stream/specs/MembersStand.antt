-- The members of the model that the members of a group stand for.
use Rattle.std.specs.Prelude.{◌≡◌, true, List, [], ◌∷◌, ◌+◌, ◌*◌, ◌^◌, ◌<◌}
use Rattle.std.specs.Option.{is_some}
use Rattle.pcm_base.specs.declared.call.Mode.TheVariants as mode
use Rattle.pcm_base.specs.declared.card.Card.{Ghosts}
use Rattle.pcm_base.specs.declared.ids.SubId.{SubId}
use Rattle.pcm_base.specs.declared.sleeper.Sleeper.{Sleeper}
use Rattle.pcm_base.specs.declared.sleeper.Task.{Task}
use Rattle.pcm_base.specs.declared.sleeper.Task.TheVariants as task
use Rattle.pcm_base.specs.declared.sleeper.Xfer.{Xfer}
use Rattle.pcm_base.specs.model.Stream.{Stream, Waiting, Member as ModelMember}
use Rattle.pcm_base.specs.model.Transfer.{fits}
use Rattle.pcm_base.specs.model.Words.{is_playback}
use Rattle.sleepers.specs.Clients.{AreApart}
use Rattle.sleepers.specs.Marks.{waiting, AreMarks}
use Rattle.pcm_stream.specs.declared.members.Member.{Member}
use Rattle.pcm_stream.specs.StandsFor.{StandsFor}

-- A transfer that waits on the stream: it goes the stream's way, its layout fits the access, it may wait, frames are left, and its bytes can be counted.
pub record IsTransferOn (s : Stream) (x : Xfer) : Type 0 where
  pub writing : x.writing ≡ is_playback s.dir
  pub layout : fits x.layout s.setup.config ≡ true
  pub mode : x.mode ≡ mode.Block
  pub rest : 0 < x.rest
  pub bytes : (x.moved + x.rest) * s.setup.frame_bytes < 2 ^ 64

-- a call in progress fits the stream on which it waits
abbrev pub TaskFits : Stream → Task → Type 0
TaskFits s (task.Transfer x wanted) = IsTransferOn s x
TaskFits s task.Drain = is_some s.setup.config ≡ true

abbrev pub CallsFit : Stream → List Waiting → Type 0
CallsFit s [] = Unit {0}
CallsFit s (p ∷ ps) = TaskFits s p.task × CallsFit s ps

-- The number is the member's; the calls in progress are of distinct clients, numbered from 0 to 15, are those of the stream, and fit it; those that are asleep have the member's marks.
pub record IsMember (sub : SubId) (sleepers : List Sleeper) (x : ModelMember) : Type 0 where
  pub number : sub ≡ x.sub
  pub apart : AreApart sleepers
  pub calls : waiting sleepers ≡ x.stream.sleepers
  pub marks : AreMarks x.asleep sleepers
  pub fit : CallsFit x.stream x.stream.sleepers

-- The member stands for the model's.
pub record MemberStandsFor {C : Type 0} {g : Ghosts C} (m : Member C g) (x : ModelMember) : Type 0 where
  pub member : IsMember m.sub m.sleepers x
  pub stream : StandsFor m.stream x.stream

-- each stands for the one in its place
abbrev pub AllStandFor : {C : Type 0} {g : Ghosts C} → List (Member C g) → List ModelMember → Type 0
AllStandFor [] [] = Unit {0}
AllStandFor [] (x ∷ xs) = ⊥
AllStandFor (m ∷ ms) [] = ⊥
AllStandFor (m ∷ ms) (x ∷ xs) = MemberStandsFor m x × AllStandFor ms xs

-- calls in progress, and so members, fit by a stream's direction and set-up alone
abbrev pub CallsFitBySetup : Type 0
CallsFitBySetup = (s t : Stream) (ps : List Waiting) → t.dir ≡ s.dir → t.setup ≡ s.setup → CallsFit s ps → CallsFit t ps

abbrev pub MembersFitBySetup : Type 0
MembersFitBySetup = (sub : SubId) (calls : List Sleeper) (x : ModelMember) (t : Stream) → t.dir ≡ x.stream.dir → t.setup ≡ x.stream.setup → t.sleepers ≡ x.stream.sleepers
    → IsMember sub calls x → IsMember sub calls (record x { stream = t })
