use Rattle.std.proofs.Common.{arith}
use Rattle.pcm_text.proofs.LengthLemmas.{short}
use Rattle.pcm_text.proofs.reply.write_counted_before.Goals as goal

pub write_digits-start-requires : goal.write_digits-start-requires
write_digits-start-requires c = (omega (arith, c.requires.room, short c.args.number c.ranges.number.fits), c.requires.inside)

pub write_before-requires-clause-room : goal.write_before-requires-clause-room
write_before-requires-clause-room c = omega (arith, c.requires.room, c.write_digits-start.ensures.start, short c.args.number c.ranges.number.fits)

pub returns-clause-start : goal.returns-clause-start
returns-clause-start c = omega (arith, c.write_digits-start.ensures.start, c.write_before.ensures.start, short c.args.number c.ranges.number.fits)
