use Rattle.std.proofs.Common.{◌∙◌}
use Rattle.pcm_base.specs.declared.act.Act.TheVariants as act
use Rattle.pcm_base.specs.declared.state.State.TheVariants as state
use Rattle.pcm_base.specs.model.Acts.{members_after}
use Rattle.pcm_base.specs.model.Events.{unplug_alone}
use Rattle.pcm_stream.specs.Members.{members_of}
use Rattle.pcm_group.proofs.EndedLemmas.{IsEnded-done, IsEnded-not_done}
use Rattle.pcm_group.proofs.StopLemmas.{made_stand}
use Rattle.pcm_group.proofs.FaultLemmas.{KeepsCards-then}
use Rattle.pcm_group.proofs.events.stop_and_unplug.Goals as goal

pub returns-in-Ok-clause-done : goal.returns-in-Ok-clause-done
returns-in-Ok-clause-done g c k tells xs h =
    let made = c.in-Ok.ensures.made c.args.place k tells xs h in
    let ms = members_of c.make.new.members in
    IsEnded-done tells (act.Stop state.Setup) unplug_alone c.args.place k xs c.args.acts.now c.make.new.acts c.make.new.acts _ ms (members_of c.unplug_alone.new.members) c.unplug_alone.result 0 0 h.distinct made made.answer
    (c.unplug_alone.ensures.done k tells (members_after made.acted xs) c.make.new.acts made.now (made_stand tells state.Setup (members_of c.args.members.now) xs made.acted k h.stands made.decided made.answer))

pub returns-in-Err-clause-done : goal.returns-in-Err-clause-done
returns-in-Err-clause-done g c k tells xs h =
    let made = c.in-Err.ensures.made c.args.place k tells xs h in
    IsEnded-not_done tells (act.Stop state.Setup) unplug_alone c.args.place k xs c.args.acts.now c.make.new.acts _ c.in-Err.e (members_of c.make.new.members) h.distinct made made.answer

pub returns-in-Ok-clause-fixed : goal.returns-in-Ok-clause-fixed
returns-in-Ok-clause-fixed g c = c.unplug_alone.ensures.fixed ∙ c.make.ensures.fixed

pub returns-in-Ok-clause-cards : goal.returns-in-Ok-clause-cards
returns-in-Ok-clause-cards g c =
    KeepsCards-then c.args.acts.now c.make.new.acts c.make.new.acts (members_of c.args.members.now) (members_of c.make.new.members) (members_of c.unplug_alone.new.members)
    c.make.ensures.cards (c.unplug_alone.ensures.cards c.make.new.acts)
