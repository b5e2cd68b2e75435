use Rattle.std.proofs.Common.{◌∙◌, refl}
use Rattle.live_work.specs.Runs.{io_of}
use Rattle.live_work.proofs.Running.{carried, carried_none, carried_still}
use Rattle.live_work.proofs.client.carry_on.Goals as goal

pub loop-init : goal.loop-init
loop-init g c =
    let e = c.args.event.now in
    record {
      can = tt;
      ends = tt;
      gos = carried_none g.N.FloorName.cards g.N.FloorName.long_max e (io_of e.call c.args.bytes.now) c.args.pass.now;
      busy = c.requires.busy;
      size = refl;
    }

pub loop-preserved : goal.loop-preserved
loop-preserved g c =
    let e = c.args.event.now in
    let was = c.loop.invariant in
    record {
      can = tt;
      ends = tt;
      gos = carried g.N.FloorName.cards g.N.FloorName.long_max e (io_of e.call c.args.bytes.now) c.lend_again.new.io c.args.pass.now c.loop.pass c.make.new.pass was.gos c.lend_again.ensures c.in_ok-make.ensures.made;
      busy = c.in_ok-make.ensures.busy;
      size = c.make.auto.io ∙ c.lend_again.auto.io ∙ was.size;
    }

pub returns-in_err-make-clause-gos : goal.returns-in_err-make-clause-gos
returns-in_err-make-clause-gos g c =
    let e = c.args.event.now in
    carried_still g.N.FloorName.cards g.N.FloorName.long_max e (io_of e.call c.args.bytes.now) c.args.pass.now c.loop.pass c.make.new.pass c.loop.invariant.gos c.in_err-make.ensures.none
