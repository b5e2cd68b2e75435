use Rattle.pcm_base.specs.declared.reply.Reply.TheVariants as reply
use Rattle.pcm_base.specs.model.Program.{says}
use Rattle.pcm_stream.specs.Members.{members_of}
use Rattle.pcm_group.proofs.EndedLemmas.{IsEnded-says, IsEnded-updated}
use Rattle.pcm_group.proofs.events.irq.Goals as goal

pub returns-clause-done : goal.returns-clause-done
returns-clause-done g c = λ client linked k tells xs h.
    let u = c.refresh.ensures.updated k tells xs h in
    let ms = members_of c.refresh.new.members in
    IsEnded-updated tells (λ v. says reply.Ok) c.args.place k xs c.args.acts.now c.refresh.new.acts c.refresh.new.acts c.refresh.result ms ms reply.Ok 0 0 u
    (IsEnded-says tells k u.left c.refresh.new.acts reply.Ok ms c.args.place u.now)
