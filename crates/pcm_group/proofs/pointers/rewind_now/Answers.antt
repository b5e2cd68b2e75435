use Rattle.std.proofs.Common.{min, refl, ap}
use Rattle.pcm_base.specs.declared.reply.Reply.TheVariants as reply
use Rattle.pcm_base.specs.model.PointerCalls.{back_by, hw_avail}
use Rattle.pcm_group.proofs.EndedLemmas.{keeps-same}
use Rattle.pcm_group.proofs.pointers.rewind_now.Goals as goal

pub returns-in-Some-clause-done : goal.returns-in-Some-clause-done
returns-in-Some-clause-done g c s h up =
    (ap reply.Frames (c.rewind.ensures.count s h), refl, refl, keeps-same s (back_by (min c.args.n (hw_avail s)) s) refl refl refl, c.rewind.ensures.moved s h)
