use Rattle.std.proofs.Common.{ap}
use Rattle.pcm_base.specs.declared.reply.Reply.TheVariants as reply
use Rattle.pcm_base.specs.model.Group.{stream_of}
use Rattle.pcm_base.specs.model.Program.{says}
use Rattle.pcm_stream.specs.Members.{members_of}
use Rattle.pcm_base.specs.model.Events.{page}
use Rattle.pcm_group.proofs.EndedLemmas.{IsEnded-reply, IsEnded-says, IsEnded-updated, stands-there}
use Rattle.pcm_group.proofs.events.status.Goals as goal

pub returns-clause-done : goal.returns-clause-done
returns-clause-done g c = λ client linked k tells xs h.
    let u = c.refresh.ensures.updated k tells xs h in
    let ms = members_of c.refresh.new.members in
    let t = stream_of k u.left in
    let sh = stands-there ms c.args.place c.at.result.now k tells u.left u.now c.at.ensures in
    IsEnded-updated tells (λ v x. says (reply.Ptrs (page x)) x) c.args.place k xs c.args.acts.now c.refresh.new.acts c.refresh.new.acts c.refresh.result ms ms (reply.Ptrs c.page.result) 0 0 u
    (IsEnded-reply tells (says (reply.Ptrs (page t)) t) k u.left c.refresh.new.acts c.refresh.new.acts (reply.Ptrs c.page.result) (reply.Ptrs (page t)) 0 0 ms (ap reply.Ptrs (c.page.ensures.page t sh))
    (IsEnded-says tells k u.left c.refresh.new.acts (reply.Ptrs (page t)) ms c.args.place u.now))
