use Rattle.std.proofs.Common.{ap}
use Rattle.pcm_base.specs.model.Group.{stream_of}
use Rattle.pcm_stream.specs.Members.{fixed_of, members_of}
use Rattle.pcm_group.proofs.EndedLemmas.{keeps-same, stands-there}
use Rattle.pcm_group.proofs.GoOnLemmas.{IsAt-turned}
use Rattle.pcm_group.proofs.FaultLemmas.{KeepsCards-set, map-at}
use Rattle.pcm_stream.specs.Members.{Fixed}
use Rattle.pcm_group.proofs.transfer.turns_at.Goals as goal

pub turns-requires-clause-shape : goal.turns-requires-clause-shape
turns-requires-clause-shape g c = c.requires.bytes.shape c.at_mut.result.now c.at_mut.ensures.value

pub turns-requires-clause-whole : goal.turns-requires-clause-whole
turns-requires-clause-whole g c = c.requires.bytes.whole c.at_mut.result.now c.at_mut.ensures.value

pub turns-requires-clause-count : goal.turns-requires-clause-count
turns-requires-clause-count g c = c.requires.bytes.count c.at_mut.result.now c.at_mut.ensures.value

pub returns-clause-turned : goal.returns-clause-turned
returns-clause-turned g c = λ cl x fs k tells xs h way.
    let ms = members_of c.args.members.now in
    let m = c.at_mut.result.now in
    let s = stream_of k xs in
    let v = c.turns.ensures.turned cl x fs s (stands-there ms c.args.place m k tells xs h c.at_mut.ensures.value) way in
    record {
      sub = c.turns.new.member.stream;
      halted = v;
      at = IsAt-turned ms c.args.place m c.turns.new.member k tells v.left xs h c.at_mut.ensures.value c.turns.ensures.fixed (keeps-same s v.left v.turned.dir v.turned.setup v.turned.sleepers) v.stands;
    }

pub returns-clause-fixed : goal.returns-clause-fixed
returns-clause-fixed g c = map-at fixed_of (members_of c.args.members.now) c.args.place c.at_mut.result.now c.turns.new.member c.at_mut.ensures.value c.turns.ensures.fixed

pub returns-clause-cards : goal.returns-clause-cards
returns-clause-cards g c = λ acts. KeepsCards-set acts (members_of c.args.members.now) c.args.place c.at_mut.result.now c.turns.new.member c.at_mut.ensures.value (ap (λ (f : Fixed). f.tells) c.turns.ensures.fixed) c.turns.ensures.faults
