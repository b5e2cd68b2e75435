use Rattle.std.proofs.Common.{refl}
use Rattle.pcm_base.specs.model.Events.{event}
use Rattle.pcm_base.specs.model.Group.{stream_of}
use Rattle.pcm_stream.specs.declared.members.Member.{Member}
use Rattle.pcm_stream.specs.Members.{members_of}
use Rattle.pcm_group.proofs.EndedLemmas.{IsEnded-own, stands-there}
use Rattle.pcm_group.proofs.FaultLemmas.{KeepsCards-set, map-at}
use Rattle.pcm_group.proofs.PlaceLemmas.{set_stands}
use Rattle.pcm_group.proofs.events.bytes_event.Goals as goal

pub returns-clause-done : goal.returns-clause-done
returns-clause-done g c = λ client linked k tells xs acts h long n.
    let ms = members_of c.args.members.now in
    let m = c.at_mut.result.now in
    let s = stream_of k xs in
    let r = c.lent_event.result in
    let own = c.lent_event.ensures.done client linked s (stands-there ms c.args.place m k tells xs h c.at_mut.ensures.value) long n in
    record {
      frames = own.frames;
      moved = own.moved;
      ends = IsEnded-own tells (event c.args.call client linked c.args.io.now s) k xs acts r.reply r.first own.frames ms c.args.place m c.lent_event.new.stream h c.at_mut.ensures.value own.ends;
    }

pub returns-clause-loaded : goal.returns-clause-loaded
returns-clause-loaded g c = λ k tells xs h.
    c.lent_event.ensures.loaded (stream_of k xs) (stands-there (members_of c.args.members.now) c.args.place c.at_mut.result.now k tells xs h c.at_mut.ensures.value)

pub returns-clause-memory : goal.returns-clause-memory
returns-clause-memory g c = λ xs h e.
    let m = c.at_mut.result.now in
    set_stands (members_of c.args.members.now) c.args.place m (record m { stream = c.lent_event.new.stream }) xs h c.at_mut.ensures.value
    (λ x k. record { member = k.member; stream = c.lent_event.ensures.memory x.stream k.stream e })

pub returns-clause-numbers : goal.returns-clause-numbers
returns-clause-numbers g c =
    map-at (λ (y : Member g.row.C.Denot g.C.Card). y.sub) (members_of c.args.members.now) c.args.place c.at_mut.result.now (record c.at_mut.result.now { stream = c.lent_event.new.stream }) c.at_mut.ensures.value refl

pub returns-clause-calls : goal.returns-clause-calls
returns-clause-calls g c =
    map-at (λ (y : Member g.row.C.Denot g.C.Card). y.sleepers) (members_of c.args.members.now) c.args.place c.at_mut.result.now (record c.at_mut.result.now { stream = c.lent_event.new.stream }) c.at_mut.ensures.value refl

pub returns-clause-cards : goal.returns-clause-cards
returns-clause-cards g c acts =
    let m = c.at_mut.result.now in
    KeepsCards-set acts (members_of c.args.members.now) c.args.place m (record m { stream = c.lent_event.new.stream }) c.at_mut.ensures.value c.lent_event.ensures.keeps.tells c.lent_event.ensures.keeps.count
