-- What an event ends with, where the frames of its answer may be none of its call's.
use Rattle.std.specs.Prelude.{◌≡◌, ℕ, Bool, List, []}
use Rattle.pcm_base.specs.declared.call.Call.{Call}
use Rattle.pcm_base.specs.declared.card.Card.{Ghosts}
use Rattle.pcm_base.specs.declared.ids.ClientId.{ClientId}
use Rattle.pcm_base.specs.declared.ids.SubId.{SubId}
use Rattle.pcm_base.specs.declared.reply.Reply.{Reply}
use Rattle.pcm_base.specs.declared.votes.Acted.{Acted}
use Rattle.pcm_base.specs.model.Program.{Program}
use Rattle.pcm_base.specs.model.Stream.{Stream, Member as ModelMember}
use Rattle.pcm_stream.specs.declared.members.Member.{Member}
use Rattle.pcm_stream.specs.declared.substream.Substream.{Substream}
use Rattle.pcm_group.specs.Ended.{IsEnded, IsEndedBy, IsOwnEnd}
use Rattle.pcm_group.specs.Turn.{frames_moved}

-- In these definitions the event answered r, and moved n frames of its call from the f-th on.

-- on one stream
pub record IsOwnCarried {C : Type 0} {g : Ghosts C} (e : Call) (s : Stream) (p : Program) (r : Reply) (f n : ℕ) (sub : Substream C g) : Type 0 where
  pub frames : ℕ
  pub moved : n ≡ frames_moved e frames
  pub ends : IsOwnEnd s p r f frames sub

-- in a group
pub record IsCarried {C : Type 0} {g : Ghosts C} (e : Call) (tells : List Bool) (p : Program) (k : SubId) (xs : List ModelMember) (old new : List Acted) (r : Reply) (f n : ℕ) (ms : List (Member C g)) : Type 0 where
  pub frames : ℕ
  pub moved : n ≡ frames_moved e frames
  pub ends : IsEnded tells p k xs old new r f frames ms

-- where the call of client c may fall asleep
pub record IsCarriedBy {C : Type 0} {g : Ghosts C} (e : Call) (c : ClientId) (tells : List Bool) (p : Program) (k : SubId) (xs : List ModelMember) (new : List Acted) (r : Reply) (f n : ℕ) (ms : List (Member C g)) : Type 0 where
  pub frames : ℕ
  pub moved : n ≡ frames_moved e frames
  pub ends : IsEndedBy c tells p k xs [] new r f frames ms
