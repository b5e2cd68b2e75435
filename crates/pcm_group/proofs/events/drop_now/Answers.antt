use Rattle.pcm_base.specs.declared.call.CallKind.TheVariants as kind
use Rattle.pcm_base.specs.model.Acts.{table}
use Rattle.pcm_base.specs.model.Group.{stream_of}
use Rattle.pcm_stream.specs.Members.{members_of}
use Rattle.pcm_group.proofs.EndedLemmas.{IsEnded-refused}
use Rattle.pcm_group.proofs.FaultLemmas.{KeepsCards-same}
use Rattle.pcm_stream.specs.Members.{members_of}
use Rattle.pcm_group.proofs.events.drop_now.Goals as goal

pub returns-in-Err-clause-done : goal.returns-in-Err-clause-done
returns-in-Err-clause-done g c = λ client linked k tells xs h.
    IsEnded-refused tells (table kind.DropNow (stream_of k xs)) _ c.in-Err.e k xs c.args.acts.now (members_of c.args.members.now) c.args.place h (c.in-Err.ensures k tells xs h)

pub returns-in-Err-clause-cards : goal.returns-in-Err-clause-cards
returns-in-Err-clause-cards g c = KeepsCards-same c.args.acts.now (members_of c.args.members.now)
