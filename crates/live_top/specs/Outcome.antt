-- What a run comes to. This project's own.
use Rattle.std.specs.Prelude.{◌≡◌, ◌<◌, ℕ, true, ◌+◌, List, length, map, slice_get, take}
use Rattle.std.specs.declared.option.Option.{Option}
use Rattle.std.specs.declared.option.Option.TheVariants.{Some}
use Rattle.std.specs.Io.KnownBytes.{Appends}
use mathlib.Core.List.{IsPrefix}
use Rattle.pcm_base.specs.declared.config.CardModel.{CardModel}
use Rattle.pcm_base.specs.declared.state.Dir.{Dir}
use Rattle.pcm_base.specs.model.Stream.{Stream}
use Rattle.pcm_io.specs.Shelf.{Files, Stay}
use Rattle.pcm_line.specs.declared.line.Line.{Line}
use Rattle.floor_rule.specs.declared.entry.Entry.{Entry}
use Rattle.floor_rule.specs.Causes.{At}
use Rattle.floor_rule.specs.Marks.{is_call}
use Rattle.floor_rule.specs.declared.rule.Marked.{Marked}
use Rattle.room_book.specs.Logs.{PlaysLog, Replayed, nothing}
use Rattle.room_book.specs.Rooms.{fresh_streams, start}
use Rattle.room_parts.specs.Recs.{entries_of}
use Rattle.room_lock.specs.Handed.{IsHanded}
use Rattle.room_lock.specs.InRoom.{RoomView}
use Rattle.room_lock.specs.Known.{IsEntryOf}
use Rattle.live_plan.specs.declared.plan.Plan.{Plan}
use Rattle.live_floor.specs.Cards.{limits}
use Rattle.live_floor.specs.Rooms.{AreRooms}
use Rattle.live_gather.specs.Gathered.{AreCalls, HasCall, HasCause}
use Rattle.live_work.specs.Called.{Call, MovesBytes, as_made}
use Rattle.live_top.specs.Callers.{Answered, IsClientRun, IsClientStart, answered_for, asked, card_events, is_of_card, is_of_client}
use Rattle.live_top.specs.Ends.{IsFirstFull, texts, whole_text}
use Rattle.live_top.specs.Files.{saved}
use Rattle.live_top.specs.Setup.{IsSetupOf, at_first}
use Rattle.live_top.specs.declared.told.Stage.{Stage}

abbrev pub cards_of : Plan → List (CardModel × Dir)
cards_of plan = map limits plan.cards.items

abbrev pub card_count : Plan → ℕ
card_count plan = length plan.cards.items

-- The marked log of each card plays, from the card's new stream, to this, and no move must follow. Each joint and each move has its cause, and the logs are those of rooms that fit.
pub record Played (plan : Plan) : Type 0 where
  pub logs : ℕ → List Marked
  pub ends : ℕ → Replayed
  pub plays : (j : ℕ) → j < card_count plan → PlaysLog (record { 0 = j }) (start (fresh_streams (cards_of plan) plan.long_max) (record { 0 = j })) (logs j) (ends j)
  pub settled : (j : ℕ) → j < card_count plan → (ends j).due ≡ nothing
  pub caused : (j i : ℕ) (e : Marked) → At logs j i e → HasCause (card_count plan) logs j e.entry e.mark
  pub rooms : List RoomView
  pub stood : AreRooms (cards_of plan) plan.long_max logs rooms

-- the entries of each log, and the stream to which it plays

abbrev pub entries_by : (ℕ → List Marked) → ℕ → List Entry
entries_by logs j = entries_of (logs j)

abbrev pub streams_by : (ℕ → Replayed) → ℕ → Stream
streams_by ends j = (ends j).stream

-- The entries of a caller in the logs are exactly these calls, and each that moves bytes was handed its own where its entry stands.
pub record AreMadeBy (plan : Plan) (logs : ℕ → List Marked) (caller : ℕ) (calls : List Call) : Type 0 where
  pub made : AreCalls (card_count plan) logs caller (map as_made calls)
  pub handed : (k : ℕ) (c : Call) → slice_get calls k ≡ Some c → MovesBytes c.event.call
      → (place : ℕ) × HasCall logs caller k (as_made c) c.event.sub.0 place × IsHanded (cards_of plan) plan.long_max c.event.sub (logs c.event.sub.0) place c.io

-- The entry of this call of the caller, in the log of its substream, has this reply.
pub record HasReply (logs : ℕ → List Marked) (caller number : ℕ) (a : Answered) : Type 0 where
  pub place : ℕ
  pub entry : Marked
  pub at : At logs a.call.event.sub.0 place entry
  pub call : is_call caller number entry.mark ≡ true
  pub tells : IsEntryOf a.call.event a.reply entry.entry

-- the first calls of a caller have these replies in the logs
abbrev pub HaveReplies : (ℕ → List Marked) → ℕ → List Answered → Type 0
HaveReplies logs caller answered = (k : ℕ) (a : Answered) → slice_get answered k ≡ Some a → HasReply logs caller k a

-- these are the calls of lines of a plan's setup, with their replies
abbrev pub IsSetupBy : Plan → Option Files → List Line → List Answered → Type 0
IsSetupBy plan files lines answered = (now : List Stage) × (let b = at_first plan.cards.items files in IsSetupOf b.dirs b.files b.told lines answered now)

-- Of a run that came to its end: the setup's calls are those of its lines, with their replies; each client called what the setup has of it and then its lines; and each card made its events. Client c is the caller of its number, and card k that of 16 + k.
pub record IsRun (plan : Plan) (files : Option Files) (logs : ℕ → List Marked) : Type 0 where
  pub setup : List Answered
  pub set_up : IsSetupBy plan files plan.setup.items setup
  pub clients : (c : ℕ) → c < 16 → (calls : List Call) × IsClientRun plan (map asked setup) c calls × AreMadeBy plan logs c calls
  pub cards : (k : ℕ) → k < card_count plan → AreMadeBy plan logs (16 + k) (card_events plan (map asked setup) k)
  pub client_replies : (c : ℕ) → c < 16 → HaveReplies logs c (answered_for (is_of_client c) setup)
  pub card_replies : (k : ℕ) → k < card_count plan → HaveReplies logs (16 + k) (answered_for (is_of_card k) setup)

-- Of a run that a full log stopped: the same, but of the first lines and events.
pub record IsRunStart (plan : Plan) (files : Option Files) (logs : ℕ → List Marked) : Type 0 where
  pub setup : List Answered
  pub lines : ℕ
  pub set_up : IsSetupBy plan files (take lines plan.setup.items) setup
  pub clients : (c : ℕ) → c < 16 → (calls : List Call) × IsClientStart plan (map asked setup) c calls × AreMadeBy plan logs c calls
  pub cards : (k : ℕ) → k < card_count plan → (calls : List Call) × IsPrefix calls (card_events plan (map asked setup) k) × AreMadeBy plan logs (16 + k) calls
  pub client_replies : (c : ℕ) → c < 16 → HaveReplies logs c (answered_for (is_of_client c) setup)
  pub card_replies : (k : ℕ) → k < card_count plan → HaveReplies logs (16 + k) (answered_for (is_of_card k) setup)

-- The logs of a whole run and its `end` lines were written, and its files stored.
pub record IsWhole (plan : Plan) (files files_now : Option Files) (before now : Option (List ℕ)) : Type 0 where
  pub played : Played plan
  pub run : IsRun plan files played.logs
  pub written : Appends before now (whole_text (card_count plan) (streams_by played.ends) (entries_by played.logs))
  pub stored : Stay (saved (streams_by played.ends) plan.saves.items files) files_now

-- The logs of a run that a full log stopped were written, and no file stored.
pub record IsStopped (plan : Plan) (files files_now : Option Files) (before now : Option (List ℕ)) (value : ℕ) : Type 0 where
  pub played : Played plan
  pub run : IsRunStart plan files played.logs
  pub full : IsFirstFull (card_count plan) (entries_by played.logs) value
  pub written : Appends before now (texts (card_count plan) (streams_by played.ends) (entries_by played.logs))
  pub stored : Stay files files_now
