-- Who may wait, and who is woken (the wait loop of pcm_lib.c). The marks stand with the member, as the clients that are asleep. That one check at the end of a step wakes them is this project's own.
use Rattle.std.specs.Prelude.{ℕ, Bool, true, false, not, ◌&&◌, ◌||◌, nat_eq, nat_lt, List, [], ◌∷◌, ◌++◌, ◌^◌, if◌then◌else◌, bit_or}
use Rattle.pcm_base.specs.declared.ids.ClientId.{ClientId}
use Rattle.pcm_base.specs.declared.sleeper.Task.{Task}
use Rattle.pcm_base.specs.declared.sleeper.Task.TheVariants as task
use Rattle.pcm_base.specs.declared.state.State.{State}
use Rattle.pcm_base.specs.declared.state.State.TheVariants as state
use Rattle.pcm_base.specs.model.Acts.{drains}
use Rattle.pcm_base.specs.model.Stream.{Waiting, Stream, Member, avail}
use Rattle.pcm_base.specs.model.Words.{◌then◌, is_disconnected}

-- a transfer may wait in these states
abbrev pub waits_in : State → Bool
waits_in state.Prepared = true
waits_in state.Running = true
waits_in state.Paused = true
waits_in _ = false

-- a playback member drains
abbrev pub group_drains : List Member → Bool
group_drains [] = false
group_drains (m ∷ ms) = drains m.stream || group_drains ms

-- the task may wait on this stream, where the test says whether its group drains; a drain waits on no card that is gone
abbrev pub may_wait : Bool → Stream → Task → Bool
may_wait g s (task.Transfer x wanted) = waits_in s.state && nat_lt (avail s) wanted
may_wait g s task.Drain = g && not (is_disconnected s.state)

abbrev pub is_among : ClientId → List ClientId → Bool
is_among c [] = false
is_among c (d ∷ ds) = nat_eq d.0 c.0 || is_among c ds

abbrev pub without_client : ClientId → List ClientId → List ClientId
without_client c [] = []
without_client c (d ∷ ds) = if nat_eq d.0 c.0 then without_client c ds else d ∷ without_client c ds

-- those of the waiting calls that are marked asleep, and may wait or not
abbrev pub sleepers_that : Bool → Bool → Stream → List ClientId → List Waiting → List ClientId
sleepers_that may g s marks [] = []
sleepers_that may g s marks (p ∷ ps) =
    let others = sleepers_that may g s marks ps in
    if is_among p.client marks && (if may then may_wait g s p.task else not (may_wait g s p.task)) then p.client ∷ others else others

abbrev pub wake_members : Bool → List Member → List Member
wake_members g [] = []
wake_members g (m ∷ ms) = record m { asleep = sleepers_that true g m.stream m.asleep m.stream.sleepers } ∷ wake_members g ms

-- the members with only those marked asleep that may wait
abbrev pub wake : List Member → List Member
wake ms = wake_members (group_drains ms) ms

abbrev pub woken_in : Bool → List Member → List ClientId
woken_in g [] = []
woken_in g (m ∷ ms) = sleepers_that false g m.stream m.asleep m.stream.sleepers ++ woken_in g ms

-- the clients that the check marks awake
abbrev pub woken : List Member → List ClientId
woken ms = woken_in (group_drains ms) ms

-- client i as bit i
abbrev pub mask_of : List ClientId → ℕ
mask_of [] = 0
mask_of (c ∷ cs) = bit_or (2 ^ c.0) (mask_of cs)
