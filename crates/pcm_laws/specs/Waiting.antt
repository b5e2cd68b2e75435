-- Who is left asleep after a wake check (the wait loop of pcm_lib.c): who was asleep and may wait.
use Rattle.std.specs.Prelude.{◌≡◌, ℕ, Bool, true, false, not, ◌&&◌, List, [], ◌∷◌}
use Rattle.std.specs.declared.option.Option.{Option}
use Rattle.std.specs.declared.option.Option.TheVariants.{Some, None}
use Rattle.pcm_base.specs.declared.call.Call.{Call}
use Rattle.pcm_base.specs.declared.ids.ClientId.{ClientId}
use Rattle.pcm_base.specs.declared.ids.SubId.{SubId}
use Rattle.pcm_base.specs.declared.sleeper.Task.{Task}
use Rattle.pcm_base.specs.model.Events.{waiting_of}
use Rattle.pcm_base.specs.model.Acts.{subs}
use Rattle.pcm_base.specs.model.Group.{stream_of, group_step}
use Rattle.pcm_base.specs.model.Replay.{is_member}
use Rattle.pcm_base.specs.model.World.{is_go}
use Rattle.pcm_base.specs.model.Sleep.{may_wait, is_among, sleepers_that, group_drains, wake}
use Rattle.pcm_base.specs.model.Stream.{Waiting, Stream, Member}

-- the calls in progress on a stream are of distinct clients
abbrev pub HaveDistinctClients : List Waiting → Type 0
HaveDistinctClients [] = Unit {0}
HaveDistinctClients (p ∷ ps) = (waiting_of p.client ps ≡ None) × HaveDistinctClients ps

-- and so on every stream of a group
abbrev pub AllHaveDistinctClients : List Member → Type 0
AllHaveDistinctClients [] = Unit {0}
AllHaveDistinctClients (m ∷ ms) = HaveDistinctClients m.stream.sleepers × AllHaveDistinctClients ms

-- there is such a call, and it may wait; g tells whether the group drains
abbrev pub waits : Bool → Stream → Option Task → Bool
waits g s None = false
waits g s (Some t) = may_wait g s t

-- there is such a call, and it may not
abbrev pub wakes : Bool → Stream → Option Task → Bool
wakes g s None = false
wakes g s (Some t) = not (may_wait g s t)

-- A client is left asleep exactly where it was marked so and its call may wait.
abbrev pub AsleepMayWait : Type 0
AsleepMayWait = (g : Bool) (s : Stream) (marks : List ClientId) (ps : List Waiting) (c : ClientId) → HaveDistinctClients ps
    → is_among c (sleepers_that true g s marks ps) ≡ (is_among c marks && waits g s (waiting_of c ps))

-- It is marked awake exactly where it was marked asleep and its call may not wait.
abbrev pub WokenMayNotWait : Type 0
WokenMayNotWait = (g : Bool) (s : Stream) (marks : List ClientId) (ps : List Waiting) (c : ClientId) → HaveDistinctClients ps
    → is_among c (sleepers_that false g s marks ps) ≡ (is_among c marks && wakes g s (waiting_of c ps))

-- each client that is marked asleep has a call in progress that may wait, where g tells whether the group drains
abbrev pub EachMayWait : Bool → List Member → Type 0
EachMayWait g [] = Unit {0}
EachMayWait g (m ∷ ms) = ((c : ClientId) → is_among c m.asleep ≡ true → waits g m.stream (waiting_of c m.stream.sleepers) ≡ true) × EachMayWait g ms

-- The client of an event may enter it: it goes on with its call, or has none in progress on the stream.
abbrev pub MayEnter : Call → ClientId → Stream → Type 0
MayEnter e c s = is_go e ≡ false → waiting_of c s.sleepers ≡ None

-- so a step keeps the calls of distinct clients
abbrev pub StepsKeepDistinctClients : Type 0
StepsKeepDistinctClients = (e : Call) (c : ClientId) (k : SubId) (io : List ℕ) (ms : List Member) → is_member k (subs ms) ≡ true → MayEnter e c (stream_of k ms)
    → AllHaveDistinctClients ms → AllHaveDistinctClients (group_step e c k io ms).members

-- after a wake check, and so after a step, whoever is marked asleep may wait
abbrev pub WakeLeavesWaiting : Type 0
WakeLeavesWaiting = (ms : List Member) → AllHaveDistinctClients ms → EachMayWait (group_drains (wake ms)) (wake ms)

abbrev pub StepsLeaveWaiting : Type 0
StepsLeaveWaiting = (e : Call) (c : ClientId) (k : SubId) (io : List ℕ) (ms : List Member) → is_member k (subs ms) ≡ true → MayEnter e c (stream_of k ms)
    → AllHaveDistinctClients ms → EachMayWait (group_drains (group_step e c k io ms).members) (group_step e c k io ms).members
