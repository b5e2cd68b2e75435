use Rattle.std.proofs.Common.{◌≡◌, true, false, cond, sym, ◌∙◌, ap}
use Rattle.pcm_base.specs.declared.call.CallKind.TheVariants as kind
use Rattle.pcm_base.specs.declared.reply.Reply.TheVariants as reply
use Rattle.pcm_base.specs.model.Acts.{table}
use Rattle.pcm_base.specs.model.Group.{stream_of}
use Rattle.pcm_base.specs.model.Program.{says}
use Rattle.pcm_stream.specs.Members.{members_of}
use Rattle.pcm_base.specs.declared.act.Act.TheVariants as act
use Rattle.pcm_base.specs.declared.state.State.{State}
use Rattle.pcm_base.specs.declared.state.State.TheVariants as state
use Rattle.pcm_base.specs.model.Program.{act_alone}
use Rattle.pcm_base.specs.model.Words.{is_running}
use Rattle.pcm_group.proofs.EndedLemmas.{IsEnded-at, IsEnded-refused, IsEnded-says, allowed-is, else-is, stands-there, then-is}
use Rattle.pcm_group.proofs.FaultLemmas.{KeepsCards-same}
use Rattle.pcm_stream.specs.Members.{members_of}
use Rattle.pcm_group.proofs.events.xrun.Goals as goal

pub returns-in-Err-clause-done : goal.returns-in-Err-clause-done
returns-in-Err-clause-done g c = λ client linked k tells xs h.
    IsEnded-refused tells (table kind.Xrun (stream_of k xs)) _ c.in-Err.e k xs c.args.acts.now (members_of c.args.members.now) c.args.place h (c.in-Err.ensures k tells xs h)

pub returns-then-is_running-clause-done : goal.returns-then-is_running-clause-done
returns-then-is_running-clause-done g c = λ client linked k tells xs h.
    let s = stream_of k xs in
    let sh = stands-there (members_of c.args.members.now) c.args.place c.at.result.now k tells xs h c.at.ensures in
    let test : is_running s.state ≡ true = ap (λ (t : State). is_running t) (sym (c.state-state.ensures s sh)) ∙ sym c.is_running.ensures ∙ c.if-is_running.true in
    IsEnded-at tells _ (act_alone (act.Stop state.Xrun) s) k xs c.args.acts.now c.act_alone.new.acts c.act_alone.result 0 0 (members_of c.act_alone.new.members)
    (allowed-is (table kind.Xrun s) s (cond (is_running s.state) (act_alone (act.Stop state.Xrun) s) (says reply.Ok s)) (c.in_default.ensures k tells xs h)
    ∙ then-is (is_running s.state) (act_alone (act.Stop state.Xrun) s) (says reply.Ok s) test)
    (c.act_alone.ensures.done c.args.place k tells xs h)

pub returns-else-is_running-clause-done : goal.returns-else-is_running-clause-done
returns-else-is_running-clause-done g c = λ client linked k tells xs h.
    let s = stream_of k xs in
    let sh = stands-there (members_of c.args.members.now) c.args.place c.at.result.now k tells xs h c.at.ensures in
    let test : is_running s.state ≡ false = ap (λ (t : State). is_running t) (sym (c.state-state.ensures s sh)) ∙ sym c.is_running.ensures ∙ c.if-is_running.false in
    IsEnded-at tells _ (says reply.Ok s) k xs c.args.acts.now c.args.acts.now reply.Ok 0 0 (members_of c.args.members.now)
    (allowed-is (table kind.Xrun s) s (cond (is_running s.state) (act_alone (act.Stop state.Xrun) s) (says reply.Ok s)) (c.in_default.ensures k tells xs h)
    ∙ else-is (is_running s.state) (act_alone (act.Stop state.Xrun) s) (says reply.Ok s) test)
    (IsEnded-says tells k xs c.args.acts.now reply.Ok (members_of c.args.members.now) c.args.place h)

pub returns-in-Err-clause-cards : goal.returns-in-Err-clause-cards
returns-in-Err-clause-cards g c = KeepsCards-same c.args.acts.now (members_of c.args.members.now)
