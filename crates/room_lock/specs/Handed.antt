-- The bytes that a call was handed, and those that its entry has of them. This project's own.
use Rattle.std.specs.Prelude.{◌≡◌, ℕ, List, take, slice_get}
use Rattle.std.specs.declared.option.Option.TheVariants.{Some}
use Rattle.pcm_base.specs.declared.call.Event.{Event}
use Rattle.pcm_base.specs.declared.config.CardModel.{CardModel}
use Rattle.pcm_base.specs.declared.ids.SubId.{SubId}
use Rattle.pcm_base.specs.declared.reply.Reply.{Reply}
use Rattle.pcm_base.specs.declared.state.Dir.{Dir}
use Rattle.pcm_base.specs.declared.state.State.{State}
use Rattle.pcm_base.specs.model.Replay.{reading_length}
use Rattle.floor_rule.specs.declared.entry.Entry.TheVariants as entry
use Rattle.floor_rule.specs.declared.entry.EntryMark.{EntryMark}
use Rattle.floor_rule.specs.declared.entry.Joint.{Joint}
use Rattle.floor_rule.specs.declared.rule.Marked.{Marked}
use Rattle.floor_rule.specs.Marks.{count_of}
use Rattle.room_book.specs.Logs.{OwnStep, PlaysLog, Replayed, client_of}
use Rattle.room_book.specs.Rooms.{fresh_streams, start}
use Rattle.room_lock.specs.Answers.{front}

-- The entry at this place of the log of j is an event's own. It plays from what the entries before it come to, and its event is lent these bytes, of which one that reads has the front of its own length.
pub record IsHanded (cards : List (CardModel × Dir)) (long_max : ℕ) (j : SubId) (log : List Marked) (place : ℕ) (io : List ℕ) : Type 0 where
  pub event : Event
  pub bytes : List ℕ
  pub joints : List Joint
  pub reply : Reply
  pub state : State
  pub mark : EntryMark
  pub at : slice_get log place ≡ Some (record { entry = entry.Own event bytes joints reply state; mark = mark })
  pub before : Replayed
  pub after : Replayed
  pub plays : PlaysLog j (start (fresh_streams cards long_max) j) (take place log) before
  pub step : OwnStep j before event bytes joints reply state (count_of mark) after
  pub lent : step.plays.io ≡ front (reading_length event.call (client_of event.client) before.stream) io
