use Rattle.std.proofs.Common.{[], ◌∷◌, arith}
use Rattle.pcm_base.specs.declared.call.Call.TheVariants.{MoveBy}
use Rattle.live_work.specs.Beats.{by_card}
use Rattle.live_work.proofs.Beating.{beaten_first, beaten_more, beaten_still, moved_first}
use Rattle.live_work.proofs.Called.{none_after}
use Rattle.live_work.proofs.beats.run_card.Goals as goal

pub returns-in_err-wait_to_run-clause-first : goal.returns-in_err-wait_to_run-clause-first
returns-in_err-wait_to_run-clause-first g c =
    let b = c.args.beats in
    let n = g.N.FloorName in
    beaten_first b.sub b.frames n.cards n.long_max c.loop-beat._beat b.count c.args.pass.now c.wait_to_run.new.pass (omega (arith, c.loop-beat-test.true))
    (beaten_still b.sub b.frames n.cards n.long_max c.loop-beat._beat c.args.pass.now c.loop-beat.pass c.wait_to_run.new.pass c.loop-beat.invariant.beaten c.wait_to_run.ensures.none)

pub returns-in_err-raise-clause-first : goal.returns-in_err-raise-clause-first
returns-in_err-raise-clause-first g c =
    let b = c.args.beats in
    let n = g.N.FloorName in
    let i = c.loop-beat._beat in
    let stays = beaten_still b.sub b.frames n.cards n.long_max i c.args.pass.now c.loop-beat.pass c.wait_to_run.new.pass c.loop-beat.invariant.beaten c.wait_to_run.ensures.none in
    beaten_first b.sub b.frames n.cards n.long_max i b.count c.args.pass.now c.raise.new.pass (omega (arith, c.loop-beat-test.true))
    (beaten_still b.sub b.frames n.cards n.long_max i c.args.pass.now c.wait_to_run.new.pass c.raise.new.pass stays c.in_err-raise.ensures.none)

pub returns-in_err-raise-2-clause-first : goal.returns-in_err-raise-2-clause-first
returns-in_err-raise-2-clause-first g c =
    let b = c.args.beats in
    let n = g.N.FloorName in
    let i = c.loop-beat._beat in
    let stays = beaten_still b.sub b.frames n.cards n.long_max i c.args.pass.now c.loop-beat.pass c.wait_to_run.new.pass c.loop-beat.invariant.beaten c.wait_to_run.ensures.none in
    let moved = none_after n.cards n.long_max (by_card b.sub (MoveBy b.frames) ∷ []) c.wait_to_run.new.pass c.raise.new.pass c.raise-in-loop-beat.new.pass c.in_ok-raise.ensures.made c.in_err-raise-2.ensures.none in
    moved_first b.sub b.frames n.cards n.long_max i b.count c.args.pass.now c.wait_to_run.new.pass c.raise-in-loop-beat.new.pass c.loop-beat-test.true stays moved

pub loop-beat-preserved : goal.loop-beat-preserved
loop-beat-preserved g c =
    let b = c.args.beats in
    let n = g.N.FloorName in
    let i = c.loop-beat._beat in
    let stays = beaten_still b.sub b.frames n.cards n.long_max i c.args.pass.now c.loop-beat.pass c.wait_to_run.new.pass c.loop-beat.invariant.beaten c.wait_to_run.ensures.none in
    record {
      beaten = beaten_more b.sub b.frames n.cards n.long_max i c.args.pass.now c.wait_to_run.new.pass c.raise.new.pass c.raise-in-loop-beat.new.pass stays c.in_ok-raise.ensures.made c.in_ok-raise-2.ensures.made;
    }
