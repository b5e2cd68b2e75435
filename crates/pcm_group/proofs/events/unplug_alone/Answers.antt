use Rattle.std.proofs.Common.{refl, ap}
use Rattle.pcm_base.specs.declared.reply.Reply.TheVariants as reply
use Rattle.pcm_base.specs.model.Events.{unplug_alone, unplugged}
use Rattle.pcm_base.specs.model.Group.{stream_of}
use Rattle.pcm_stream.specs.Members.{fixed_of, members_of}
use Rattle.group_trigger.proofs.ListLemmas.{fixed-same}
use Rattle.pcm_group.proofs.EndedLemmas.{IsEnded-own, keeps-same, stands-there}
use Rattle.pcm_group.proofs.FaultLemmas.{KeepsCards-set, map-at}
use Rattle.pcm_stream.specs.Members.{members_of}
use Rattle.pcm_group.proofs.events.unplug_alone.Goals as goal

pub returns-clause-done : goal.returns-clause-done
returns-clause-done g c k tells xs acts h stands =
    let s = stream_of k xs in
    let sh = stands-there (members_of c.args.members.now) c.args.place c.at_mut.result.now k tells xs h c.at_mut.ensures.value in
    IsEnded-own tells (unplug_alone s) k xs acts reply.Ok 0 0 (members_of c.args.members.now) c.args.place c.at_mut.result.now c.unplug.new.self h c.at_mut.ensures.value
    (refl, refl, refl, keeps-same s (unplugged s) refl refl refl, c.unplug.ensures.unplugged s sh stands)

pub returns-clause-fixed : goal.returns-clause-fixed
returns-clause-fixed g c =
    map-at fixed_of (members_of c.args.members.now) c.args.place c.at_mut.result.now (record c.at_mut.result.now { stream = c.unplug.new.self }) c.at_mut.ensures.value
    (fixed-same c.at_mut.result.now c.unplug.new.self c.unplug.ensures.keeps.sizes.shape c.unplug.ensures.keeps.sizes.faults.tells)

pub returns-clause-cards : goal.returns-clause-cards
returns-clause-cards g c acts =
    let m = c.at_mut.result.now in
    KeepsCards-set acts (members_of c.args.members.now) c.args.place m (record m { stream = c.unplug.new.self }) c.at_mut.ensures.value c.unplug.ensures.keeps.sizes.faults.tells c.unplug.ensures.keeps.sizes.faults.count
