use Rattle.std.proofs.Common.{◌-◌, refl}
use Rattle.pcm_base.specs.model.Events.{set_mappings}
use Rattle.mmap_pages.specs.Mapped.{unmap_refusal}
use Rattle.pcm_group.proofs.EndedLemmas.{keeps-same}
use Rattle.pcm_group.proofs.OwnLemmas.{Own-unless}
use Rattle.pcm_group.proofs.mapped.unmap.Goals as goal

pub returns-clause-done : goal.returns-clause-done
returns-clause-done g c client linked s h =
    Own-unless (unmap_refusal s) s (set_mappings (s.mappings - 1) s) c.unmap_sub.result c.answer.result c.unmap_sub.new.stream (λ _. keeps-same s (set_mappings (s.mappings - 1) s) refl refl refl)
    (c.unmap_sub.ensures.ok s h) (c.unmap_sub.ensures.refused s h) c.answer.ensures.done
