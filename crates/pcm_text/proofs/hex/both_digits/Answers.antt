use Rattle.std.proofs.Common.{◌/◌, ◌++◌, map, ap, ◌∙◌}
use lib.Lanes.{pick_l}
use Rattle.pcm_text.specs.Hex.{hex_digit}
use Rattle.pcm_text.proofs.HexBlocks.{places, woven}
use Rattle.pcm_text.proofs.hex.both_digits.Goals as goal

pub returns : goal.returns
returns c =
    ap (λ high. pick_l 0 (high ++ c.low_digits.result) places) c.high_digits.ensures
    ∙ ap (λ low. pick_l 0 (map (λ b. hex_digit (b / 16)) c.args.bytes ++ low) places) c.low_digits.ensures
    ∙ woven c.args.bytes c.fits-bytes.0
