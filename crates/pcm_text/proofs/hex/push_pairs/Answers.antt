use Rattle.std.proofs.Common.{arith}
use Rattle.pcm_text.proofs.HexBlocks.{one_more, one_byte}
use Rattle.pcm_text.proofs.hex.push_pairs.Goals as goal

pub parts-preserved : goal.parts-preserved
parts-preserved c = one_more c.args.text.now.items c.parts.text.items c.push_block.new.text.items c.args.bytes.now c.parts.i c.parts.invariant c.in_ok-push_block.ensures.ok

pub bytes-preserved : goal.bytes-preserved
bytes-preserved c = one_byte c.args.text.now.items c.bytes.text.items c.push_pair.new.text.items c.args.bytes.now c.bytes.i (omega arith) c.bytes.invariant c.in_ok-push_pair.ensures.ok
