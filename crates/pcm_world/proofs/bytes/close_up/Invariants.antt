use Rattle.pcm_world.proofs.FrontLemmas.{IsClosedUp}
use Rattle.pcm_world.proofs.bytes.close_up.Given as goal

abbrev pub invariant-loop-channel : goal.invariant-loop-channel
invariant-loop-channel l = IsClosedUp l.channel l.area l.front l.fn.bytes.items l.bytes.items
