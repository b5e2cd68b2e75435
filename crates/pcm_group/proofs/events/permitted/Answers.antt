use Rattle.pcm_base.specs.model.Group.{stream_of}
use Rattle.pcm_stream.specs.Members.{members_of}
use Rattle.pcm_group.proofs.EndedLemmas.{stands-there, table_of}
use Rattle.pcm_group.proofs.events.permitted.Goals as goal

pub returns : goal.returns
returns g c = λ k tells xs h.
    let sh = stands-there (members_of c.args.members.now) c.args.place c.at.result.now k tells xs h c.at.ensures in
    table_of c.args.kind (stream_of k xs) c.state.result c.dir.result c.permit.result c.permit.ensures (c.state.ensures (stream_of k xs) sh) (c.dir.ensures (stream_of k xs) sh)
