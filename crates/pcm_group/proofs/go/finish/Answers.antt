use Rattle.std.proofs.Common.{refl}
use Rattle.pcm_base.specs.model.Events.{left_by}
use Rattle.pcm_base.specs.model.Group.{stream_of}
use Rattle.pcm_base.specs.model.Program.{says}
use Rattle.pcm_stream.specs.Members.{members_of}
use Rattle.pcm_group.proofs.CarryLemmas.{IsEndedBy-told}
use Rattle.pcm_group.proofs.GoingLemmas.{IsEndedBy-left}
use Rattle.pcm_group.proofs.go.finish.Goals as goal

pub returns-clause-done : goal.returns-clause-done
returns-clause-done g c = λ k tells xs acts h.
    let cl = c.args.client in
    let r = c.args.reply in
    let t = left_by cl (stream_of k xs) in
    let p = says r t in
    let q = c.said.result in
    let ns = members_of c.leave.new.members in
    IsEndedBy-told cl tells p p k xs acts acts q.reply r q.first 0 q.moved 0 ns refl c.said.ensures.reply c.said.ensures.first c.said.ensures.moved
    (IsEndedBy-left cl tells r t k xs acts ns c.requires.awake c.leave.ensures.free (c.leave.ensures.left k tells xs h).stands)
