-- A worker's call, and what it leaves of the pass. This project's own.
use Rattle.std.specs.Prelude.{◌≡◌, ◌<◌, ◌≤◌, ℕ, List, [], ◌∷◌, false, length}
use Rattle.std.specs.declared.option.Option.TheVariants.{Some}
use Rattle.pcm_base.specs.declared.call.Call.{Call as CoreCall}
use Rattle.pcm_base.specs.declared.call.Event.{Event}
use Rattle.pcm_base.specs.declared.config.CardModel.{CardModel}
use Rattle.pcm_base.specs.declared.ids.ClientId.{ClientId}
use Rattle.pcm_base.specs.declared.ids.SubId.{SubId}
use Rattle.pcm_base.specs.declared.reply.Reply.{Reply}
use Rattle.pcm_base.specs.declared.state.Dir.{Dir}
use Rattle.pcm_group.specs.Turn.{is_card_event}
use Rattle.room_parts.specs.Passes.{PassView, asleep_on, client_of}
use Rattle.room_lock.specs.declared.answer.Answer.{Answer}
use Rattle.room_lock.specs.declared.answer.Answer.TheVariants.{Done, LogFull, Memory}
use Rattle.live_work.specs.Called.{HasCalled, WasAnswered}

-- a call of a caller on a substream
abbrev pub call_by : PassView → SubId → CoreCall → Event
call_by p k c = record { client = client_of p.caller; sub = k; call = c }

-- a call of this client on one of so many cards
pub record IsOwnCall (cards : ℕ) (client : ClientId) (e : Event) : Type 0 where
  pub by : e.client ≡ Some client
  pub few : client.0 ≤ 15
  pub card : e.sub.0 < cards
  pub kind : is_card_event e.call ≡ false

-- The pass has made this call, which was answered so, and is busy on its substream where that was Asleep, and else on none.
pub record HasMade (cards : List (CardModel × Dir)) (long_max : ℕ) (e : Event) (io : List ℕ) (reply : Reply) (p q : PassView) : Type 0 where
  pub called : HasCalled cards long_max (record { event = e; io = io } ∷ []) p q
  pub answered : WasAnswered (length p.knows.calls) (record { event = e; io = io }) reply q.knows
  pub busy : q.busy ≡ asleep_on e.sub reply

-- The pass has made no call, and is as busy as it was.
pub record HasMadeNone (cards : List (CardModel × Dir)) (long_max : ℕ) (p q : PassView) : Type 0 where
  pub called : HasCalled cards long_max [] p q
  pub busy : q.busy ≡ p.busy

-- a call that was answered was made, with its bytes, and one that was refused was not
abbrev pub IsMadeIfDone : List (CardModel × Dir) → ℕ → Answer → Event → List ℕ → PassView → PassView → Type 0
IsMadeIfDone cards long_max (Done reply receipt woken) e io p q = HasMade cards long_max e io reply p q
IsMadeIfDone cards long_max (LogFull sub full) e io p q = HasMadeNone cards long_max p q
IsMadeIfDone cards long_max Memory e io p q = HasMadeNone cards long_max p q
