use Rattle.pcm_text.specs.declared.hex.TheConstants.{DIGITS}
use Rattle.pcm_text.proofs.HexBlocks.{high_ok, highs}
use Rattle.pcm_text.proofs.hex.high_digits.Goals as goal

pub swizzle : goal.swizzle
swizzle c = high_ok c.args.bytes c.fits-bytes

pub returns : goal.returns
returns c = highs DIGITS c.args.bytes c.fits-bytes
