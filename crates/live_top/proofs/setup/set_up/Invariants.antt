use Rattle.std.proofs.Common.{◌≡◌, length, take}
use Rattle.pcm_io.specs.Shelf.{Stay}
use Rattle.live_top.specs.Passes.{AreWhose}
use Rattle.live_top.specs.Setup.{HaveSetUpTo, at_first}
use Rattle.live_top.proofs.setup.set_up.Given as goal

-- the lines so far were made
abbrev pub invariant-lines : goal.invariant-lines
invariant-lines g l =
    let S = g.S.Shelf in
    let N = g.N.FloorName in
    record {
      whose : AreWhose (length N.cards) l.passes.clients.items l.passes.cards.items;
      known : length l.known.told.items ≡ length N.cards;
      made : HaveSetUpTo N.cards N.long_max (at_first l.plan.cards.items (S.files l.fn.shelf)) (take l.line-index l.plan.setup.items) l.known.told.items l.fn.passes.clients.items l.passes.clients.items l.fn.passes.cards.items l.passes.cards.items;
      stay : Stay (S.files l.fn.shelf) (S.files l.shelf);
      calm : S.faults l.shelf ≡ S.faults l.fn.shelf;
    }
