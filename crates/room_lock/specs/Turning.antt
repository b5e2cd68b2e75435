-- That what an event leaves in a room fits there. This project's own.
use Rattle.std.specs.Prelude.{◌≡◌, ℕ, false, List, ◌++◌, length, map, slice_get}
use Rattle.std.specs.declared.option.Option.TheVariants.{Some}
use Rattle.pcm_base.specs.declared.call.Event.{Event}
use Rattle.pcm_base.specs.declared.ids.SubId.{SubId}
use Rattle.pcm_base.specs.model.Acts.{subs}
use Rattle.pcm_base.specs.model.Group.{stream_of}
use Rattle.pcm_base.specs.model.Replay.{IsLent, bytes_by, is_link, layout_of, reading_length}
use Rattle.pcm_base.specs.model.Stream.{Stream, Member}
use Rattle.pcm_base.specs.model.Sleep.{group_drains}
use Rattle.pcm_laws.specs.Waiting.{EachMayWait}
use Rattle.floor_rule.specs.declared.rule.Marked.{Marked}
use Rattle.room_book.specs.declared.book.BookEntry.{BookEntry}
use Rattle.room_book.specs.declared.book.BookEntry.TheVariants.{Act}
use Rattle.room_book.specs.Laws.{step_of}
use Rattle.room_book.specs.Logs.{client_of, due_own, nothing}
use Rattle.room_book.specs.Rooms.{RoomFits, acts_in}
use Rattle.room_parts.specs.Passes.{PassView}
use Rattle.room_parts.specs.Recs.{RecView, sub_of, subs_of}
use Rattle.room_lock.specs.Recorded.{IsRecorded}

abbrev pub logs_of : List RecView → List (List Marked)
logs_of rs = map (λ r. r.knows.log) rs

-- the bytes of the own entry of an event
abbrev pub bytes_in : Event → List ℕ → List Member → List ℕ
bytes_in e io xs = bytes_by (layout_of e.call (client_of e.client) (stream_of e.sub xs)) (stream_of e.sub xs) (step_of e io xs).answer.frames

-- An event of a member, lent these bytes, whose entries are recorded: the room fits as before.
abbrev pub RecordsFit : Type 0
RecordsFit = (origin : SubId → Stream) (number own count : ℕ) (xs : List Member) (book : List BookEntry) (e : Event) (io : List ℕ) (r : RecView) (old now : List RecView) (p q : PassView)
    → RoomFits origin number xs (logs_of old) book → subs_of old ≡ subs xs → slice_get old own ≡ Some r → sub_of r ≡ e.sub
    → is_link e.call ≡ false → due_own e.call (step_of e io xs).answer.reply ≡ nothing
    → IsLent (reading_length e.call (client_of e.client) (stream_of e.sub xs)) count (length io)
    → EachMayWait (group_drains (step_of e io xs).members) (step_of e io xs).members
    → IsRecorded (step_of e io xs).members own e count (bytes_in e io xs) (step_of e io xs).answer.reply (step_of e io xs).acts number (acts_in book) r old now p q
    → RoomFits origin number (step_of e io xs).members (logs_of now) (book ++ map Act (step_of e io xs).acts)
