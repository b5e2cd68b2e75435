use Rattle.std.proofs.Common.{refl}
use Rattle.pcm_stream.specs.declared.members.Member.{Member}
use Rattle.pcm_stream.specs.Members.{members_of}
use Rattle.pcm_group.proofs.AsleepLemmas.{asleep_stands}
use Rattle.pcm_group.proofs.FaultLemmas.{KeepsCards-set, map-at}
use Rattle.pcm_group.proofs.events.fall_asleep.Goals as goal

pub returns-clause-asleep : goal.returns-clause-asleep
returns-clause-asleep g c = λ k tells xs h fits.
    asleep_stands (members_of c.args.members.now) c.args.place c.at_mut.result.now c.add.new.self c.args.client c.args.task k xs h.stands h.distinct h.number c.at_mut.ensures.value c.add.ensures.after c.add.ensures.apart
    (λ marks are. c.add.ensures.marks marks refl are) fits

pub returns-clause-numbers : goal.returns-clause-numbers
returns-clause-numbers g c =
    map-at (λ (y : Member g.row.C.Denot g.C.Card). y.sub) (members_of c.args.members.now) c.args.place c.at_mut.result.now (record c.at_mut.result.now { sleepers = c.add.new.self }) c.at_mut.ensures.value refl

pub returns-clause-cards : goal.returns-clause-cards
returns-clause-cards g c acts =
    KeepsCards-set acts (members_of c.args.members.now) c.args.place c.at_mut.result.now (record c.at_mut.result.now { sleepers = c.add.new.self }) c.at_mut.ensures.value refl refl
