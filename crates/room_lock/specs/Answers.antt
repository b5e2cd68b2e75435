-- What a call on a room answers and leaves. This project's own.
use Rattle.std.specs.Prelude.{ℕ, List, length, take}
use Rattle.std.specs.declared.option.Option.{Option}
use Rattle.std.specs.declared.option.Option.TheVariants.{Some, None}
use Rattle.pcm_base.specs.declared.call.Event.{Event}
use Rattle.pcm_base.specs.declared.ids.SubId.{SubId}
use Rattle.pcm_base.specs.declared.reply.Reply.{Reply}
use Rattle.pcm_base.specs.model.Acts.{subs}
use Rattle.pcm_base.specs.model.Group.{GroupStep, stream_of}
use Rattle.pcm_base.specs.model.Replay.{parts_of, reading_length}
use Rattle.pcm_base.specs.model.Stream.{Member, Stream, shown}
use Rattle.floor_rule.specs.declared.entry.EntryMark.{EntryMark}
use Rattle.floor_rule.specs.declared.entry.EntryMark.TheVariants as mark
use Rattle.floor_rule.specs.declared.rule.Marked.{Marked}
use Rattle.floor_rule.specs.declared.rule.PassKnows.{PassKnows}
use Rattle.room_book.specs.Laws.{own_entry, step_of}
use Rattle.room_book.specs.Logs.{client_of}
use Rattle.room_book.specs.Rooms.{acts_in, grown, log_of}
use Rattle.room_book.specs.declared.book.BookEntry.{BookEntry}
use Rattle.room_parts.specs.Recs.{RecView, subs_of}
use Rattle.room_lock.specs.declared.answer.Answer.{Answer}
use Rattle.room_lock.specs.declared.answer.Answer.TheVariants.{Done, LogFull, Memory}
use Rattle.room_lock.specs.declared.recording.Receipt.{Receipt}
use Rattle.room_lock.specs.Between.{marks_by}
use Rattle.room_lock.specs.Turning.{logs_of}

-- a fact of an answer of each kind

abbrev pub OnDone : Answer → (Reply → Receipt → ℕ → Type 0) → Type 0
OnDone (Done reply receipt woken) P = P reply receipt woken
OnDone _ P = Unit {0}

abbrev pub OnFull : Answer → (SubId → ℕ → Type 0) → Type 0
OnFull (LogFull sub count) P = P sub count
OnFull _ P = Unit {0}

abbrev pub OnMemory : Answer → Type 0 → Type 0
OnMemory Memory P = P
OnMemory _ P = Unit {0}

-- the bytes that an event is lent, of those handed in: a call that reads the front of its own length, any other all

abbrev pub front : Option ℕ → List ℕ → List ℕ
front None io = io
front (Some n) io = take n io

abbrev pub lent_of : Event → List Member → List ℕ → List ℕ
lent_of e xs io = front (reading_length e.call (client_of e.client) (stream_of e.sub xs)) io

-- the model's step of an event that was handed these bytes
abbrev pub turn_of : Event → List ℕ → List Member → GroupStep
turn_of e io xs = step_of e (lent_of e xs io) xs

-- the mark of the entry of a pass's next call, and those of the entries of its acts in the logs of other members

abbrev pub own_mark : Event → List ℕ → List Member → PassKnows → EntryMark
own_mark e io xs p =
    let s : Stream = stream_of e.sub (turn_of e io xs).members in
    mark.Called s.state (shown s s.at.hw) p.number (length p.calls) (length io)

abbrev pub other_marks : Event → List ℕ → List Member → ℕ → SubId → List EntryMark
other_marks e io xs place j =
    let s : Stream = stream_of j (turn_of e io xs).members in
    marks_by (parts_of j (subs xs) (turn_of e io xs).acts) s.state (shown s s.at.hw) e.sub place

-- the own entry of the event in a room with this number and book
abbrev pub entry_of : Event → List ℕ → List Member → ℕ → List BookEntry → PassKnows → Marked
entry_of e io xs number book p = own_entry e (lent_of e xs io) xs number book (own_mark e io xs p)

-- the log of a substream among these recs
abbrev pub log_in : SubId → List RecView → List Marked
log_in k rs = log_of k (subs_of rs) (logs_of rs)

-- The logs of the members after an event, in link order: that of the substream has gained its own entry, each other one shared entry for each act.
abbrev pub logs_after : Event → List ℕ → List Member → ℕ → List BookEntry → PassKnows → List (List Marked) → List (List Marked)
logs_after e io xs number book p logs =
    grown e.sub (entry_of e io xs number book p) (other_marks e io xs (length (log_of e.sub (subs xs) logs))) number (acts_in book) (subs xs) (turn_of e io xs).acts (subs xs) logs
