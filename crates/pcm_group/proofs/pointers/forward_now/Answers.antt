use Rattle.std.proofs.Common.{min, refl, ap}
use Rattle.pcm_base.specs.declared.reply.Reply.TheVariants as reply
use Rattle.pcm_base.specs.model.PointerCalls.{on_by}
use Rattle.pcm_base.specs.model.Stream.{avail}
use Rattle.pcm_group.proofs.EndedLemmas.{keeps-same}
use Rattle.pcm_group.proofs.pointers.forward_now.Goals as goal

pub returns-in-Some-clause-done : goal.returns-in-Some-clause-done
returns-in-Some-clause-done g c s h up =
    (ap reply.Frames (c.forward.ensures.count s h), refl, refl, keeps-same s (on_by (min c.args.n (avail s)) s) refl refl refl, c.forward.ensures.moved s h)
