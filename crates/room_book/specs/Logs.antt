-- The replay of one substream's marked log: its own events, its joints, the links that name it and its moves. This project's own.
use Rattle.std.specs.Prelude.{◌≡◌, ◌⊎◌, ℕ, Bool, true, false, not, ◌≤◌, nat_eq, nat_le, nat_lt, List, [], ◌∷◌, ◌++◌, map, if◌then◌else◌}
use Rattle.std.specs.declared.option.Option.{Option}
use Rattle.std.specs.declared.option.Option.TheVariants.{Some, None}
use Rattle.pcm_base.specs.declared.call.Call.{Call}
use Rattle.pcm_base.specs.declared.call.Call.TheVariants as call
use Rattle.pcm_base.specs.declared.call.CallKind.TheVariants as kind
use Rattle.pcm_base.specs.declared.call.Event.{Event}
use Rattle.pcm_base.specs.declared.ids.ClientId.{ClientId}
use Rattle.pcm_base.specs.declared.ids.SubId.{SubId}
use Rattle.pcm_base.specs.declared.reply.Reply.{Reply}
use Rattle.pcm_base.specs.declared.reply.Reply.TheVariants as reply
use Rattle.pcm_base.specs.declared.state.Dir.TheVariants as dir
use Rattle.pcm_base.specs.declared.state.Errno.{Errno}
use Rattle.pcm_base.specs.declared.state.Errno.TheVariants as errno
use Rattle.pcm_base.specs.declared.state.State.{State}
use Rattle.pcm_base.specs.model.Permit.{permit}
use Rattle.pcm_base.specs.model.Replay.{Fits, Part, PlaysOwn, joined}
use Rattle.pcm_base.specs.model.Stream.{Stream, shown}
use Rattle.pcm_base.specs.model.Words.{when, ◌then◌, is_closed, same_state}
use Rattle.pcm_base.specs.model.World.{nobody}
use Rattle.floor_rule.specs.declared.entry.Entry.{Entry}
use Rattle.floor_rule.specs.declared.entry.Entry.TheVariants as entry
use Rattle.floor_rule.specs.declared.entry.EntryMark.{EntryMark}
use Rattle.floor_rule.specs.declared.entry.Joint.{Joint}
use Rattle.floor_rule.specs.declared.rule.Marked.{Marked}
use Rattle.floor_rule.specs.Marks.{count_of, shown_of}

-- the move that must follow
pub data Due : Type 0 where
  nothing : Due
  to_group : Due
  home : Due

-- what a log comes to: the stream, its room, the joints since the last move, and the move that must follow
pub record Replayed : Type 0 where
  pub stream : Stream
  pub room : ℕ
  pub since : List Joint
  pub due : Due

abbrev pub part : Joint → Part
part x = record { act = x.act; vote = x.vote; outcome = x.outcome }

abbrev pub AllIn : ℕ → List Joint → Type 0
AllIn room [] = Unit {0}
AllIn room (x ∷ xs) = (x.room ≡ room) × AllIn room xs

abbrev pub client_of : Option ClientId → ClientId
client_of (Some c) = c
client_of None = nobody

-- the mark is what a page shows of this stream
abbrev pub IsShown : EntryMark → Stream → Type 0
IsShown m s = ((shown_of m).state ≡ s.state) × ((shown_of m).hw ≡ shown s s.at.hw)

abbrev pub is_ok : Reply → Bool
is_ok reply.Ok = true
is_ok _ = false

-- an unlink that was answered Ok sends its substream to its own room
abbrev pub due_own : Call → Reply → Due
due_own call.Unlink r = if is_ok r then home else nothing
due_own _ r = nothing

-- a link that was answered Ok sends a lone substream to a group's room
abbrev pub due_link : Reply → ℕ → Due
due_link r room = if is_ok r then (if nat_lt room 16 then to_group else nothing) else nothing

abbrev pub answered : Option Errno → Reply
answered (Some e) = reply.Err e
answered None = reply.Ok

-- the reply of a link by what its entry tells: the two, their states, and whether the second is linked
abbrev pub link_reply : ℕ → ℕ → State → State → Bool → Reply
link_reply first second s t linked =
    answered (when (is_closed s) errno.Enxio
    then (when (is_closed t) errno.Enxio
    then (when (nat_eq second first) errno.Einval
    then (permit kind.Link s dir.Playback
    then (when (not (same_state t s)) errno.Ebadfd
    then when linked errno.Ealready)))))

-- an event of this substream: the stream's own program with its joints
pub record OwnStep (j : SubId) (p : Replayed) (event : Event) (bytes : List ℕ) (joints : List Joint) (r : Reply) (state : State) (count : ℕ) (q : Replayed) : Type 0 where
  pub own : event.sub.0 ≡ j.0
  pub plays : PlaysOwn j event.call (client_of event.client) (nat_le 16 p.room) count bytes (map part joints) r p.stream q.stream
  pub here : AllIn p.room joints
  pub state_is : state ≡ q.stream.state
  pub none_due : p.due ≡ nothing
  pub room : q.room ≡ p.room
  pub since : q.since ≡ p.since ++ joints
  pub due : q.due ≡ due_own event.call r

-- a link that names j as the first, as the second, or as both
pub record LinkStep (j : SubId) (p : Replayed) (first second : SubId) (s t : State) (linked : Bool) (r : Reply) (q : Replayed) : Type 0 where
  pub names : (first.0 ≡ j.0) ⊎ (second.0 ≡ j.0)
  pub reply_is : r ≡ link_reply first.0 second.0 s t linked
  pub first_is : first.0 ≡ j.0 → s ≡ p.stream.state
  pub second_is : second.0 ≡ j.0 → (t ≡ p.stream.state) × (linked ≡ nat_le 16 p.room)
  pub none_due : p.due ≡ nothing
  pub after : q ≡ record p { due = due_link r p.room }

-- the move that is due; else only from a group's room to the own one
abbrev pub MayMove : ℕ → Due → ℕ → ℕ → Type 0
MayMove j to_group from to = 16 ≤ to
MayMove j home from to = to ≡ j
MayMove j nothing from to = (16 ≤ from) × (to ≡ j)

abbrev pub IsStep : SubId → Replayed → Entry → ℕ → Replayed → Type 0
IsStep j p (entry.Own event bytes joints r state) count q = OwnStep j p event bytes joints r state count q
IsStep j p (entry.Shared x) count q = Fits j p.stream x.act x.vote x.outcome × (x.room ≡ p.room) × (p.due ≡ nothing) × (q ≡ record { stream = joined (part x) p.stream; room = p.room; since = p.since ++ x ∷ []; due = nothing })
IsStep j p (entry.Linkage client first second s t linked r) count q = LinkStep j p first second s t linked r q
IsStep j p (entry.Moved room) count q = MayMove j.0 p.due p.room room × (q ≡ record { stream = p.stream; room = room; since = []; due = nothing })

-- the log leads from one to the other, and each mark is what is shown
abbrev pub PlaysLog : SubId → Replayed → List Marked → Replayed → Type 0
PlaysLog j p [] q = p ≡ q
PlaysLog j p (e ∷ es) q = (m : Replayed) × IsStep j p e.entry (count_of e.mark) m × IsShown e.mark m.stream × PlaysLog j m es q
