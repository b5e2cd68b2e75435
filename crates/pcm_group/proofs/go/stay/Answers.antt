use Rattle.std.proofs.Common.{set, refl}
use Rattle.pcm_base.specs.model.Group.{stream_of}
use Rattle.pcm_base.specs.model.Program.{says}
use Rattle.pcm_stream.specs.declared.members.Member.{Member}
use Rattle.pcm_stream.specs.Members.{members_of}
use Rattle.pcm_group.proofs.CarryLemmas.{IsEndedBy-told}
use Rattle.pcm_group.proofs.FaultLemmas.{KeepsCards-set, map-at}
use Rattle.pcm_group.proofs.GoingLemmas.{IsEndedBy-kept, kept_stands, marks_by}
use Rattle.pcm_group.proofs.go.stay.Goals as goal

pub returns-clause-done : goal.returns-clause-done
returns-clause-done g c = λ k tells xs acts h.
    let ms = members_of c.args.members.now in
    let m = c.at_mut.result.now in
    let cl = c.args.client in
    let r = c.args.reply in
    let p = says r (stream_of k xs) in
    let q = c.said.result in
    let ns = set ms c.args.place (record m { sleepers = c.mark.new.self }) in
    let stands = kept_stands ms c.args.place m c.mark.new.self cl c.is_asleep.result r k xs h.stands h.distinct h.number c.at_mut.ensures.value c.mark.ensures.waiting c.mark.ensures.apart c.mark.ensures.marks
    (λ cs. marks_by r cl c.is_asleep.result cs c.is_asleep.ensures.asleep c.is_asleep.ensures.awake) in
    IsEndedBy-told cl tells p p k xs acts acts q.reply r q.first 0 q.moved 0 ns refl c.said.ensures.reply c.said.ensures.first c.said.ensures.moved (IsEndedBy-kept cl tells r k xs acts ns h.distinct stands)

pub returns-clause-numbers : goal.returns-clause-numbers
returns-clause-numbers g c =
    map-at (λ (y : Member g.row.C.Denot g.C.Card). y.sub) (members_of c.args.members.now) c.args.place c.at_mut.result.now (record c.at_mut.result.now { sleepers = c.mark.new.self }) c.at_mut.ensures.value refl

pub returns-clause-cards : goal.returns-clause-cards
returns-clause-cards g c acts =
    KeepsCards-set acts (members_of c.args.members.now) c.args.place c.at_mut.result.now (record c.at_mut.result.now { sleepers = c.mark.new.self }) c.at_mut.ensures.value refl refl
