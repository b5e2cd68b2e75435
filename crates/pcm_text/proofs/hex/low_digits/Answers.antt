use Rattle.pcm_text.specs.declared.hex.TheConstants.{DIGITS}
use Rattle.pcm_text.proofs.HexBlocks.{low_ok, lows}
use Rattle.pcm_text.proofs.hex.low_digits.Goals as goal

pub swizzle : goal.swizzle
swizzle c = low_ok c.args.bytes c.fits-bytes

pub returns : goal.returns
returns c = lows DIGITS c.args.bytes c.fits-bytes
