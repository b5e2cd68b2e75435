use Rattle.std.proofs.Common.{◌≡◌, take}
use Rattle.std.specs.List.{list_all}
use Rattle.std.specs.Option.{is_none}
use Rattle.std.specs.Result.{is_ok}
use Rattle.live_top.proofs.workers.stop_of.Given as goal

-- none of those so far stopped, or one did
abbrev pub invariant-loop-one : goal.invariant-loop-one
invariant-loop-one g l = is_none l.stop ≡ list_all (λ w. is_ok w.ran) (take l.one-index l.worked)
