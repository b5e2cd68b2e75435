use Rattle.std.proofs.Common.{List, [], ◌∷◌, refl}
use Rattle.pcm_base.specs.declared.config.SwParams.{SwParams}
use Rattle.pcm_base.specs.declared.sleeper.Task.{Task}
use Rattle.pcm_base.specs.declared.sleeper.Task.TheVariants as task
use Rattle.pcm_base.specs.model.Events.{set_sw}
use Rattle.pcm_base.specs.model.Stream.{Stream, Waiting}
use Rattle.pcm_stream.specs.MembersStand.{CallsFit, IsTransferOn, TaskFits}
use Rattle.pcm_stream.specs.SetUp.{sw_refusal}
use Rattle.pcm_group.proofs.OwnLemmas.{Own-unless}
use Rattle.pcm_group.proofs.own.sw_params.Goals as goal

fits-sw : (w : SwParams) (s : Stream) (t : Task) → TaskFits s t → TaskFits (set_sw w s) t
fits-sw w s (task.Transfer x wanted) h = let k : IsTransferOn s x = h in record { writing = k.writing; layout = k.layout; mode = k.mode; rest = k.rest; bytes = k.bytes }
fits-sw w s task.Drain h = h

all_fit-sw : (w : SwParams) (s : Stream) (ps : List Waiting) → CallsFit s ps → CallsFit (set_sw w s) ps
all_fit-sw w s [] h = tt
all_fit-sw w s (p ∷ ps) h = (fits-sw w s p.task h.0, all_fit-sw w s ps h.1)

pub returns-clause-done : goal.returns-clause-done
returns-clause-done g c client linked s h =
    Own-unless (sw_refusal c.args.sw.now s) s (set_sw c.args.sw.now s) c.sw_params.result c.answer.result c.sw_params.new.self
    (λ _. record { same = refl; fit = all_fit-sw c.args.sw.now s s.sleepers })
    (c.sw_params.ensures.ok s h) (c.sw_params.ensures.refused s h) c.answer.ensures.done
