use Rattle.pcm_stream.specs.Members.{members_of}
use Rattle.pcm_group.proofs.EndedLemmas.{IsMade-by}
use Rattle.pcm_group.proofs.PlaceLemmas.{tells-fixed}
use Rattle.pcm_group.proofs.FaultLemmas.{KeepsCards-act}
use Rattle.pcm_group.proofs.acts.make.Goals as goal

pub returns-clause-made : goal.returns-clause-made
returns-clause-made g c = λ place k tells xs h.
    IsMade-by tells c.args.act place k xs c.args.acts.now c.push.new.self c.error-done.result (members_of c.args.members.now) (members_of c.act-acted.new.members) c.act-acted.result h c.push.ensures
    (c.act-acted.ensures.acted xs h.stands) (c.act-acted.ensures.stands xs h.stands) (tells-fixed (members_of c.args.members.now) (members_of c.act-acted.new.members) c.act-acted.ensures.fixed) c.error-done.ensures

pub returns-clause-cards : goal.returns-clause-cards
returns-clause-cards g c =
    KeepsCards-act c.args.acts.now c.push.new.self c.act-acted.result (members_of c.args.members.now) (members_of c.act-acted.new.members) c.push.ensures c.act-acted.ensures.cause
    (tells-fixed (members_of c.args.members.now) (members_of c.act-acted.new.members) c.act-acted.ensures.fixed)
