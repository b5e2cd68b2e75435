use Rattle.std.proofs.Common.{arith}
use Rattle.room_lock.proofs.ReadyLemmas.{is_last}
use Rattle.room_lock.proofs.contents.place_of.Goals as goal

pub returns-clause-number : goal.returns-clause-number
returns-clause-number g c = λ a at. is_last c.args.recs.now.items c.places.i a c.args.sub at (omega (arith, c.len.ensures, c.places-test.false)) c.places.invariant.behind
