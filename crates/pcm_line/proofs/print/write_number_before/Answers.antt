use Rattle.std.proofs.Common.{◌≤◌, length, arith}
use Rattle.std.proofs.lemmas.Fmt.{length-decimal-le}
use Rattle.std.specs.Fmt.{decimal}
use Rattle.pcm_line.proofs.print.write_number_before.Goals as goal

pub write_digits-start-requires : goal.write_digits-start-requires
write_digits-start-requires c =
    let short : length (decimal c.args.number) ≤ 20 = length-decimal-le 20 c.args.number (omega arith) (omega arith) c.ranges.number.fits in
    (omega arith, c.requires.inside)

pub write_before-requires-clause-room : goal.write_before-requires-clause-room
write_before-requires-clause-room c =
    let short : length (decimal c.args.number) ≤ 20 = length-decimal-le 20 c.args.number (omega arith) (omega arith) c.ranges.number.fits in
    omega (arith, c.write_digits-start.ensures.start)

pub returns-clause-start : goal.returns-clause-start
returns-clause-start c =
    let short : length (decimal c.args.number) ≤ 20 = length-decimal-le 20 c.args.number (omega arith) (omega arith) c.ranges.number.fits in
    omega (arith, c.write_digits-start.ensures.start, c.write_before.ensures.start)
