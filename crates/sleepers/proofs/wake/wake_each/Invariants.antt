use Rattle.std.proofs.Common.{◌≡◌, ◌++◌, take, drop}
use Rattle.pcm_base.specs.model.Sleep.{mask_of}
use Rattle.sleepers.specs.Wake.{after_check, clients_of, woken_sleepers}
use Rattle.sleepers.proofs.wake.wake_each.Given as goal

-- the places before the index are checked, and those from it on are as they were
abbrev pub invariant-loop-place : goal.invariant-loop-place
invariant-loop-place l =
    (l.places ≡ after_check l.state l.avail l.group_drains (take l.place-index l.initial.places) ++ drop l.place-index l.initial.places)
    × (l.woken ≡ mask_of (clients_of (woken_sleepers l.state l.avail l.group_drains (take l.place-index l.initial.places))))
