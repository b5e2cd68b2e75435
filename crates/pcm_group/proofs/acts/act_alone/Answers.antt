use Rattle.pcm_stream.specs.Members.{members_of}
use Rattle.pcm_group.proofs.EndedLemmas.{IsEnded-act}
use Rattle.pcm_group.proofs.acts.act_alone.Goals as goal

pub returns-clause-done : goal.returns-clause-done
returns-clause-done g c = λ place k tells xs h.
    IsEnded-act tells c.args.act place k xs c.args.acts.now c.make.new.acts c.make.result (members_of c.make.new.members) c.answer.result h.distinct (c.make.ensures.made place k tells xs h) c.answer.ensures.done
