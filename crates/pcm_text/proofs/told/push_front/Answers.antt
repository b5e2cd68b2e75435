use Rattle.std.proofs.Common.{arith}
use Rattle.pcm_text.proofs.LengthLemmas.{short}
use Rattle.pcm_text.proofs.told.push_front.Goals as goal

pub write_digits-start-requires : goal.write_digits-start-requires
write_digits-start-requires c = (
  omega (arith, short c.args.number c.ranges.number.fits, c.write_reply_before-answer.ensures.start, c.write_before-space.ensures.start),
  omega (arith, c.write_before-space.ensures.start, c.write_reply_before-answer.ensures.within, c.write_before-space.auto.area, c.write_reply_before-answer.auto.area),
)
