use Rattle.std.proofs.Common.{set, refl}
use Rattle.pcm_base.specs.model.Events.{left_by}
use Rattle.pcm_base.specs.model.Group.{put_stream, stream_of}
use Rattle.pcm_laws.proofs.Decomposition.{subs-put_stream}
use Rattle.pcm_stream.specs.declared.members.Member.{Member}
use Rattle.pcm_stream.specs.Members.{members_of}
use Rattle.pcm_stream.specs.StandsFor.{tells_plan}
use Rattle.pcm_group.proofs.FaultLemmas.{KeepsCards-set, map-at}
use Rattle.pcm_group.proofs.GoingLemmas.{AreBytesOf-left, free_left, left_stands}
use Rattle.pcm_group.proofs.PlaceLemmas.{IsAt-by}
use Rattle.pcm_group.proofs.go.leave.Goals as goal

pub returns-clause-left : goal.returns-clause-left
returns-clause-left g c = λ k tells xs h.
    let ms = members_of c.args.members.now in
    let m = c.at_mut.result.now in
    let n = record m { sleepers = c.take.new.self } in
    let t = left_by c.args.client (stream_of k xs) in
    IsAt-by ms (set ms c.args.place n) c.args.place k tells xs (put_stream k t xs) h
    (left_stands ms c.args.place m c.take.new.self c.args.client k xs h.stands h.distinct h.number c.at_mut.ensures.value c.take.ensures.others c.take.ensures.apart c.take.ensures.waiting) (subs-put_stream k t xs)
    (map-at (λ (y : Member g.row.C.Denot g.C.Card). tells_plan y.stream) ms c.args.place m n c.at_mut.ensures.value refl)

pub returns-clause-free : goal.returns-clause-free
returns-clause-free g c = free_left c.args.place c.args.client (members_of c.args.members.now) c.at_mut.result.now c.take.new.self c.at_mut.ensures.value c.requires.free c.take.ensures.gone

pub returns-clause-bytes : goal.returns-clause-bytes
returns-clause-bytes g c = λ x io h. AreBytesOf-left (members_of c.args.members.now) c.args.place c.at_mut.result.now c.take.new.self x io c.at_mut.ensures.value h

pub returns-clause-numbers : goal.returns-clause-numbers
returns-clause-numbers g c =
    map-at (λ (y : Member g.row.C.Denot g.C.Card). y.sub) (members_of c.args.members.now) c.args.place c.at_mut.result.now (record c.at_mut.result.now { sleepers = c.take.new.self }) c.at_mut.ensures.value refl

pub returns-clause-cards : goal.returns-clause-cards
returns-clause-cards g c acts =
    KeepsCards-set acts (members_of c.args.members.now) c.args.place c.at_mut.result.now (record c.at_mut.result.now { sleepers = c.take.new.self }) c.at_mut.ensures.value refl refl
