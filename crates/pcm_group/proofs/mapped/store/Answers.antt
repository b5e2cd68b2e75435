use Rattle.pcm_group.proofs.MappedLemmas.{stores_as}
use Rattle.pcm_group.proofs.mapped.store.Goals as goal

pub returns-clause-done : goal.returns-clause-done
returns-clause-done g c client linked s h =
    stores_as client linked c.args.offset c.args.frames.now s c.store_frames.result c.moved_all.result.reply c.moved_all.result.first c.moved_all.result.moved c.store_frames.new.stream
    (c.store_frames.ensures.ok s h) (c.store_frames.ensures.refused s h) c.moved_all.ensures.reply c.moved_all.ensures.moved c.moved_all.ensures.first
