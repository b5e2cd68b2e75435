use Rattle.room_lock.specs.Ready.{ShortTo}
use Rattle.room_lock.proofs.ready.full.Given as goal

abbrev pub invariant-loop-i : goal.invariant-loop-i
invariant-loop-i g l = ShortTo l.i l.recs.items
