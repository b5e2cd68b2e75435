-- The acts that one event makes one after another, and what a member shows between them. This project's own.
use Rattle.std.specs.Prelude.{◌≡◌, ℕ, Bool, true, false, not, ◌&&◌, ◌||◌, List, [], ◌∷◌, if◌then◌else◌}
use Rattle.pcm_base.specs.declared.act.Act.{Act}
use Rattle.pcm_base.specs.declared.act.Act.TheVariants as act
use Rattle.pcm_base.specs.declared.act.Outcome.{Outcome}
use Rattle.pcm_base.specs.declared.act.Outcome.TheVariants as outcome
use Rattle.pcm_base.specs.declared.call.Call.{Call}
use Rattle.pcm_base.specs.declared.ids.ClientId.{ClientId}
use Rattle.pcm_base.specs.declared.ids.SubId.{SubId}
use Rattle.pcm_base.specs.declared.state.State.{State}
use Rattle.pcm_base.specs.declared.state.State.TheVariants as state
use Rattle.pcm_base.specs.model.Acts.{subs}
use Rattle.pcm_base.specs.model.Group.{group_step}
use Rattle.pcm_base.specs.model.Program.{Program, Ends, Makes}
use Rattle.pcm_base.specs.model.Replay.{Distinct, Joins, Part, is_member, parts_of}
use Rattle.pcm_base.specs.model.Stream.{Stream, Member, shown}
use Rattle.floor_rule.specs.declared.entry.EntryMark.{EntryMark}
use Rattle.floor_rule.specs.declared.entry.EntryMark.TheVariants as mark
use Rattle.room_book.specs.Rooms.{ShowsEach}

abbrev pub is_watch : Act → Bool
is_watch act.Watch = true
is_watch _ = false

-- a member that makes it runs
abbrev pub sets_running : Act → Bool
sets_running act.Start = true
sets_running act.Release = true
sets_running _ = false

-- it leaves the reported hardware position
abbrev pub stays_at : Act → Bool
stays_at (act.Prepare first) = false
stays_at _ = true

abbrev pub is_done : Outcome → Bool
is_done outcome.Done = true
is_done _ = false

-- Act b may be made after act a with this outcome: nothing follows a watch, and what follows any other act is a watch, or the first set its members running and the other is no prepare.
abbrev pub may_follow : Act → Outcome → Act → Bool
may_follow a o b = not (is_watch a) && (is_watch b || (sets_running a && (is_done o && stays_at b)))

abbrev pub goes_before : Part → List Part → Bool
goes_before p [] = true
goes_before p (q ∷ ps) = may_follow p.act p.outcome q.act

abbrev pub follow : List Part → Bool
follow [] = true
follow (p ∷ ps) = goes_before p ps && follow ps

-- and so in a program, whatever its acts come to

abbrev pub MayFollow : Act → Outcome → Program → Type 0
MayFollow a o (Ends b s) = Unit {0}
MayFollow a o (Makes b s f) = may_follow a o b ≡ true

abbrev pub Follows : Program → Type 0
Follows (Ends b s) = Unit {0}
Follows (Makes a s f) = (o : Outcome) (t : Stream) → MayFollow a o (f o t) × Follows (f o t)

-- what is shown after an act that these follow, where the state is t after the last of them
abbrev pub state_then : List Part → State → State
state_then [] t = t
state_then (q ∷ ps) t = if is_watch q.act then t else state.Running

-- the marks of the entries of an act, whose cause stands at place n of log k, by the state and the shown hardware position after the last
abbrev pub marks_by : List Part → State → ℕ → SubId → ℕ → List EntryMark
marks_by [] t h k n = []
marks_by (p ∷ ps) t h k n = mark.Caused (state_then ps t) h k n ∷ marks_by ps t h k n

-- the acts of every event follow each other so
abbrev pub EventActsFollow : Type 0
EventActsFollow = (e : Call) (c : ClientId) (k : SubId) (io : List ℕ) (ms : List Member) → Distinct (subs ms) → is_member k (subs ms) ≡ true
    → (j : SubId) → follow (parts_of j (subs ms) (group_step e c k io ms).acts) ≡ true

-- so the page after the last act tells what a member shows after each
abbrev pub MarksShow : Type 0
MarksShow = (j : SubId) (s : Stream) (ps : List Part) (t : Stream) (k : SubId) (n : ℕ) → follow ps ≡ true → Joins j s ps t → ShowsEach s ps (marks_by ps t.state (shown t t.at.hw) k n)
