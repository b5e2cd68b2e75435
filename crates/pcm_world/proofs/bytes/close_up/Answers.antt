use Rattle.std.proofs.Common.{arith}
use Rattle.pcm_world.proofs.FrontLemmas.{closed-next}
use Rattle.pcm_world.proofs.bytes.close_up.Goals as goal

pub loop-channel-preserved : goal.loop-channel-preserved
loop-channel-preserved c =
    closed-next c.loop-channel.channel c.args.channels c.args.area c.args.front c.args.bytes.now.items c.loop-channel.bytes.items c.copy_within.new.self.items c.loop-channel-test.true c.requires.front c.requires.areas c.loop-channel.invariant
    (omega (arith, c.copy_within.ensures.len, c.copy_within.new.self.ok.0, c.loop-channel.bytes.ok.0)) c.copy_within.ensures.items
