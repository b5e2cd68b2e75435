-- A step of a group, its acts made as the members decide them.
use Rattle.std.specs.Prelude.{◌≡◌, ℕ, Bool, true, false, ◌&&◌, List, [], ◌∷◌, length, nat_lt}
use Rattle.pcm_base.specs.declared.call.Call.{Call}
use Rattle.pcm_base.specs.declared.card.Card.{Ghosts}
use Rattle.pcm_base.specs.declared.ids.ClientId.{ClientId}
use Rattle.pcm_base.specs.declared.ids.SubId.{SubId}
use Rattle.pcm_base.specs.model.Events.{program}
use Rattle.pcm_base.specs.model.Group.{GroupStep, mark, stream_of}
use Rattle.pcm_base.specs.model.Program.{Answer}
use Rattle.pcm_base.specs.model.Sleep.{mask_of, wake, woken}
use Rattle.pcm_base.specs.model.Stream.{Member as ModelMember}
use Rattle.pcm_stream.specs.declared.members.Member.{Member}
use Rattle.pcm_stream.specs.MembersStand.{AllStandFor}
use Rattle.pcm_group.specs.declared.turn.Turn.{Turn}
use Rattle.pcm_group.specs.Bytes.{bytes_left}
use Rattle.pcm_group.specs.Lent.{is_lent_call}
use Rattle.pcm_group.specs.Ended.{RunsTo}
use Rattle.pcm_group.specs.Turn.{frames_moved}

-- each card tells its fault plan
abbrev pub all_true : List Bool → Bool
all_true [] = true
all_true (b ∷ bs) = b && all_true bs

-- The step of this event ends so, and its members stand for those that it leaves; tells says whose card tells its fault plan. The bytes were io and are now others.
pub record IsStep {C : Type 0} {g : Ghosts C} (tells : List Bool) (e : Call) (c : ClientId) (k : SubId) (io now : List ℕ) (xs : List ModelMember) (turn : Turn) (ms : List (Member C g)) : Type 0 where
  pub answer : Answer
  pub left : List ModelMember
  pub runs : RunsTo tells (program e c (nat_lt 1 (length xs)) io (stream_of k xs)) k xs turn.acts answer left
  pub reply : turn.reply ≡ answer.reply
  pub first : turn.first ≡ answer.first
  pub moved : turn.moved ≡ frames_moved e (length answer.frames)
  pub woken : turn.woken ≡ mask_of (woken (mark k answer.reply c left))
  pub stands : AllStandFor ms (wake (mark k answer.reply c left))
  pub bytes : is_lent_call e ≡ false → now ≡ bytes_left e c (stream_of k xs) answer io

-- The model's step tells the same.
pub record IsTurn (e : Call) (d : GroupStep) (turn : Turn) : Type 0 where
  pub reply : turn.reply ≡ d.answer.reply
  pub woken : turn.woken ≡ mask_of d.woken
  pub acts : turn.acts ≡ d.acts
  pub first : turn.first ≡ d.answer.first
  pub moved : turn.moved ≡ frames_moved e (length d.answer.frames)

-- Nothing was done: no act, and no frame moved.
pub record IsIdle (turn : Turn) : Type 0 where
  pub acts : turn.acts ≡ []
  pub first : turn.first ≡ 0
  pub moved : turn.moved ≡ 0
