use Rattle.std.proofs.Common.{◌<◌, arith}
use Rattle.pcm_line.proofs.HexPairs.{one_more}
use Rattle.pcm_line.proofs.hex.decode.Goals as goal

pub pairs-preserved : goal.pairs-preserved
pairs-preserved c = λ lt.
    let few : c.max-most.result < 16 = lt in
    let most : c.max.result < 16 = omega (arith, few, c.max-most.ensures) in
    let before : c.pairs.most < 16 = omega (arith, few, c.max-most.ensures) in
    one_more c.args.text.now c.pairs.area c.pairs.i c.value-high.result c.value-low.result (omega arith) (omega arith) c.value-high.ensures c.value-low.ensures
    (omega (arith, most, c.max.ensures)) (omega (arith, most, c.max.ensures)) (c.pairs.invariant before)
