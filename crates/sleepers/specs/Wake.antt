-- Who may wait on a substream, and who is woken (wait_for_avail and snd_pcm_drain of sound/core).
use Rattle.std.specs.Prelude.{ℕ, Bool, not, ◌&&◌, nat_lt, List, map, filter, if◌then◌else◌}
use Rattle.pcm_base.specs.declared.ids.ClientId.{ClientId}
use Rattle.pcm_base.specs.declared.sleeper.Sleeper.{Sleeper}
use Rattle.pcm_base.specs.declared.sleeper.Task.{Task}
use Rattle.pcm_base.specs.declared.sleeper.Task.TheVariants as task
use Rattle.pcm_base.specs.declared.state.State.{State}
use Rattle.pcm_base.specs.model.Sleep.{waits_in}
use Rattle.pcm_base.specs.model.Words.{is_disconnected}
use Rattle.sleepers.specs.Clients.{is_of}

-- The task may wait in this state, with so many frames available, where the test says whether the group drains.
abbrev pub may_wait_on : State → ℕ → Bool → Task → Bool
may_wait_on s available group_drains (task.Transfer x wanted) = waits_in s && nat_lt available wanted
may_wait_on s available group_drains task.Drain = group_drains && not (is_disconnected s)

-- a sleeper that is asleep and may no longer wait
abbrev pub wakes : State → ℕ → Bool → Sleeper → Bool
wakes s available group_drains x = x.asleep && not (may_wait_on s available group_drains x.task)

-- those that a check wakes
abbrev pub woken_sleepers : State → ℕ → Bool → List Sleeper → List Sleeper
woken_sleepers s available group_drains xs = filter (wakes s available group_drains) xs

-- all of them after a check: one stays asleep exactly where it may wait
abbrev pub checked : State → ℕ → Bool → Sleeper → Sleeper
checked s available group_drains x = record x { asleep = x.asleep && may_wait_on s available group_drains x.task }

abbrev pub after_check : State → ℕ → Bool → List Sleeper → List Sleeper
after_check s available group_drains xs = map (checked s available group_drains) xs

abbrev pub clients_of : List Sleeper → List ClientId
clients_of xs = map (λ x. x.client) xs

-- the client's call is asleep or awake as it is told, and each other as it was
abbrev pub marked : ClientId → Bool → Sleeper → Sleeper
marked c asleep x = record x { asleep = if is_of c x then asleep else x.asleep }

abbrev pub with_mark : ClientId → Bool → List Sleeper → List Sleeper
with_mark c asleep xs = map (marked c asleep) xs
