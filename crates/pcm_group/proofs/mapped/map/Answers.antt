use Rattle.std.proofs.Common.{◌+◌, refl}
use Rattle.pcm_base.specs.model.Events.{set_mappings}
use Rattle.mmap_pages.specs.Mapped.{map_refusal}
use Rattle.pcm_group.proofs.EndedLemmas.{keeps-same}
use Rattle.pcm_group.proofs.OwnLemmas.{Own-unless}
use Rattle.pcm_group.proofs.mapped.map.Goals as goal

pub returns-clause-done : goal.returns-clause-done
returns-clause-done g c client linked s h =
    Own-unless (map_refusal s) s (set_mappings (s.mappings + 1) s) c.map_sub.result c.answer.result c.map_sub.new.stream (λ _. keeps-same s (set_mappings (s.mappings + 1) s) refl refl refl)
    (c.map_sub.ensures.ok s h) (c.map_sub.ensures.refused s h) c.answer.ensures.done
