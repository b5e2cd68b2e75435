-- What keeps that a room fits. This project's own.
use Rattle.std.specs.Prelude.{◌≡◌, ℕ, true, false, nat_eq, List, [], ◌∷◌, ◌++◌, length, map}
use Rattle.pcm_base.specs.declared.call.Event.{Event}
use Rattle.pcm_base.specs.declared.ids.SubId.{SubId}
use Rattle.pcm_base.specs.model.Acts.{subs}
use Rattle.pcm_base.specs.model.Group.{GroupStep, group_step, stream_of}
use Rattle.pcm_base.specs.model.Replay.{IsLent, bytes_by, is_link, is_member, layout_of, parts_of, reading_length}
use Rattle.pcm_base.specs.model.Stream.{Stream, Member}
use Rattle.pcm_base.specs.model.Sleep.{group_drains, wake}
use Rattle.pcm_base.specs.model.Words.{is_closed}
use Rattle.pcm_base.specs.model.World.{World, is_linked, link_refusal, state_in, without_member}
use Rattle.pcm_laws.specs.Waiting.{EachMayWait}
use Rattle.floor_rule.specs.declared.entry.Entry.TheVariants as entry
use Rattle.floor_rule.specs.declared.entry.EntryMark.{EntryMark}
use Rattle.floor_rule.specs.declared.rule.Marked.{Marked}
use Rattle.room_book.specs.declared.book.BookEntry.{BookEntry}
use Rattle.room_book.specs.declared.book.BookEntry.TheVariants.{In, Out, Act}
use Rattle.floor_rule.specs.Marks.{count_of}
use Rattle.room_book.specs.Logs.{IsShown, IsStep, MayMove, PlaysLog, Replayed, answered, client_of, due_own, link_reply, nothing}
use Rattle.room_book.specs.Rooms.{BookFits, LogFits, RoomFits, ShowsEach, acts_in, grown, joints_of, log_of, start, with_log, without_log}

abbrev pub step_of : Event → List ℕ → List Member → GroupStep
step_of e io ms = group_step e.call (client_of e.client) e.sub io ms

-- the own entry of an event, with this mark
abbrev pub own_entry : Event → List ℕ → List Member → ℕ → List BookEntry → EntryMark → Marked
own_entry e io ms number book m =
    let g = step_of e io ms in
    let s = stream_of e.sub ms in
    record {
      entry = entry.Own e (bytes_by (layout_of e.call (client_of e.client) s) s g.answer.frames) (joints_of e.sub number (acts_in book) (subs ms) g.acts) g.answer.reply (stream_of e.sub g.members).state;
      mark = m;
    }

-- After an event of a member that is answered otherwise than an unlink that is done, the room fits: the own log has its entry, each other its shared ones, and the book the acts. The event was lent the bytes that its mark's count allows, and the group keeps that whoever is marked asleep may wait.
abbrev pub TurnsKeep : Type 0
TurnsKeep = (origin : SubId → Stream) (number : ℕ) (ms : List Member) (logs : List (List Marked)) (book : List BookEntry) (e : Event) (io : List ℕ) (m : EntryMark) (marks : SubId → List EntryMark)
    → RoomFits origin number ms logs book → is_member e.sub (subs ms) ≡ true
    → due_own e.call (step_of e io ms).answer.reply ≡ nothing
    → is_link e.call ≡ false → IsLent (reading_length e.call (client_of e.client) (stream_of e.sub ms)) (count_of m) (length io)
    → IsShown m (stream_of e.sub (step_of e io ms).members)
    → ((j : SubId) → nat_eq j.0 e.sub.0 ≡ false → is_member j (subs ms) ≡ true → ShowsEach (stream_of j ms) (parts_of j (subs ms) (step_of e io ms).acts) (marks j))
    → EachMayWait (group_drains (step_of e io ms).members) (step_of e io ms).members
    → RoomFits origin number (step_of e io ms).members
    (grown e.sub (own_entry e io ms number book m) marks number (acts_in book) (subs ms) (step_of e io ms).acts (subs ms) logs)
    (book ++ map Act (step_of e io ms).acts)

-- one entry more of a log
abbrev pub EntriesFollow : Type 0
EntriesFollow = (j : SubId) (p : Replayed) (log : List Marked) (q : Replayed) (e : Marked) (r : Replayed) → PlaysLog j p log q → IsStep j q e.entry (count_of e.mark) r → IsShown e.mark r.stream → PlaysLog j p (log ++ e ∷ []) r

-- A member comes in: its log leads to its stream, and may go on with a move to this room.
abbrev pub ComingIn : Type 0
ComingIn = (origin : SubId → Stream) (number : ℕ) (ms : List Member) (logs : List (List Marked)) (book : List BookEntry) (m : Member) (log : List Marked) (p : Replayed) (mark : EntryMark)
    → BookFits origin number ms logs book → is_member m.sub (subs ms) ≡ false
    → PlaysLog m.sub (start origin m.sub) log p → p.stream ≡ m.stream → MayMove m.sub.0 p.due p.room number → IsShown mark m.stream
    → BookFits origin number (ms ++ m ∷ []) (logs ++ (log ++ record { entry = entry.Moved number; mark = mark } ∷ []) ∷ []) (book ++ In m.sub ∷ [])

-- A member goes out, and takes its log along.
abbrev pub GoingOut : Type 0
GoingOut = (origin : SubId → Stream) (number : ℕ) (ms : List Member) (logs : List (List Marked)) (book : List BookEntry) (x : SubId)
    → BookFits origin number ms logs book → is_member x (subs ms) ≡ true
    → BookFits origin number (without_member x ms) (without_log x (subs ms) logs) (book ++ Out x ∷ [])

abbrev pub LogOfMember : Type 0
LogOfMember = (origin : SubId → Stream) (number : ℕ) (ms : List Member) (logs : List (List Marked)) (book : List BookEntry) (x : SubId)
    → BookFits origin number ms logs book → is_member x (subs ms) ≡ true
    → LogFits origin number book x (log_of x (subs ms) logs) (stream_of x ms)

-- a member's log that goes on and still fits, as with a link that moves nobody
abbrev pub OneLogChanges : Type 0
OneLogChanges = (origin : SubId → Stream) (number : ℕ) (ms : List Member) (logs : List (List Marked)) (book : List BookEntry) (x : SubId) (log : List Marked)
    → BookFits origin number ms logs book → LogFits origin number book x log (stream_of x ms)
    → BookFits origin number ms (with_log x log (subs ms) logs) book

-- members with the same streams, as after a wake check
abbrev pub SameStreamsFit : Type 0
SameStreamsFit = (origin : SubId → Stream) (number : ℕ) (ms ns : List Member) (logs : List (List Marked)) (book : List BookEntry)
    → subs ns ≡ subs ms → ((j : SubId) → stream_of j ns ≡ stream_of j ms) → BookFits origin number ms logs book → BookFits origin number ns logs book

-- a wake check leaves the members' numbers and streams
abbrev pub WakesKeep : Type 0
WakesKeep = (ms : List Member) → (subs (wake ms) ≡ subs ms) × ((j : SubId) → stream_of j (wake ms) ≡ stream_of j ms)

-- the reply that a link's entry tells is the world's, where the first is open
abbrev pub LinkRepliesAgree : Type 0
LinkRepliesAgree = (k j : SubId) (w : World) → is_closed (state_in k w) ≡ false → link_reply k.0 j.0 (state_in k w) (state_in j w) (is_linked j w) ≡ answered (link_refusal k j w)
