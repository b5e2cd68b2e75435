-- What a step of a room's group tells and leaves. This project's own.
use Rattle.std.specs.Prelude.{List, ℕ}
use Rattle.card_emul.specs.declared.any_card.AnyCard.{AnyCard}
use Rattle.card_emul.specs.contracts.any_card.AnyCardCard.TheImpl.{ghosts}
use Rattle.pcm_base.specs.declared.call.Event.{Event}
use Rattle.pcm_base.specs.model.Group.{stream_of}
use Rattle.pcm_base.specs.model.Stream.{Member as ModelMember}
use Rattle.pcm_stream.specs.declared.members.Member.{Member}
use Rattle.pcm_stream.specs.MembersStand.{AllStandFor}
use Rattle.pcm_group.specs.Stepped.{IsTurn}
use Rattle.pcm_group.specs.declared.turn.Turn.{Turn}
use Rattle.room_book.specs.Laws.{step_of}
use Rattle.room_book.specs.Logs.{client_of}
use Rattle.room_lock.specs.Shaped.{IsLeft}

-- The step is the model's, its members stand for those that it leaves, and so do the bytes.
pub record IsGroupStep (e : Event) (io now : List ℕ) (xs : List ModelMember) (turn : Turn) (ms : List (Member AnyCard ghosts)) : Type 0 where
  pub turn_is : IsTurn e.call (step_of e io xs) turn
  pub members : AllStandFor ms (step_of e io xs).members
  pub left : IsLeft e.call (client_of e.client) (stream_of e.sub xs) (step_of e io xs).answer io now
