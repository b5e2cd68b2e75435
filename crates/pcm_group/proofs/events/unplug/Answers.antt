use Rattle.std.proofs.Common.{◌≡◌, true, false, cond, sym, ◌∙◌}
use Rattle.pcm_base.specs.declared.act.Act.TheVariants as act
use Rattle.pcm_base.specs.declared.call.CallKind.TheVariants as kind
use Rattle.pcm_base.specs.declared.state.State.TheVariants as state
use Rattle.pcm_base.specs.model.Acts.{table}
use Rattle.pcm_base.specs.model.Events.{unplug_alone}
use Rattle.pcm_base.specs.model.Group.{stream_of}
use Rattle.pcm_base.specs.model.Program.{making}
use Rattle.pcm_stream.specs.Members.{members_of}
use Rattle.pcm_group.proofs.EndedLemmas.{IsEnded-at, IsEnded-refused, allowed-is, else-is, then-is}
use Rattle.pcm_group.proofs.FaultLemmas.{KeepsCards-same}
use Rattle.pcm_group.proofs.events.unplug.Goals as goal

pub returns-in-Err-clause-done : goal.returns-in-Err-clause-done
returns-in-Err-clause-done g c = λ client linked k tells xs h.
    IsEnded-refused tells (table kind.Unplug (stream_of k xs)) _ c.in-Err.e k xs c.args.acts.now (members_of c.args.members.now) c.args.place h (c.in-Err.ensures k tells xs h)

pub returns-then-card_runs-clause-done : goal.returns-then-card_runs-clause-done
returns-then-card_runs-clause-done g c = λ client linked k tells xs h.
    let s = stream_of k xs in
    let test : s.card.runs ≡ true = sym (c.card_runs.ensures k tells xs h) ∙ c.if-card_runs.true in
    IsEnded-at tells _ (making (act.Stop state.Setup) s unplug_alone) k xs c.args.acts.now c.stop_and_unplug.new.acts c.stop_and_unplug.result 0 0 (members_of c.stop_and_unplug.new.members)
    (allowed-is (table kind.Unplug s) s (cond s.card.runs (making (act.Stop state.Setup) s unplug_alone) (unplug_alone s)) (c.in_default.ensures k tells xs h)
    ∙ then-is s.card.runs (making (act.Stop state.Setup) s unplug_alone) (unplug_alone s) test)
    (c.stop_and_unplug.ensures.done k tells xs h)

pub returns-else-card_runs-clause-done : goal.returns-else-card_runs-clause-done
returns-else-card_runs-clause-done g c = λ client linked k tells xs h.
    let s = stream_of k xs in
    let test : s.card.runs ≡ false = sym (c.card_runs.ensures k tells xs h) ∙ c.if-card_runs.false in
    IsEnded-at tells _ (unplug_alone s) k xs c.args.acts.now c.args.acts.now c.unplug_alone.result 0 0 (members_of c.unplug_alone.new.members)
    (allowed-is (table kind.Unplug s) s (cond s.card.runs (making (act.Stop state.Setup) s unplug_alone) (unplug_alone s)) (c.in_default.ensures k tells xs h)
    ∙ else-is s.card.runs (making (act.Stop state.Setup) s unplug_alone) (unplug_alone s) test)
    (c.unplug_alone.ensures.done k tells xs c.args.acts.now h test)

pub returns-in-Err-clause-cards : goal.returns-in-Err-clause-cards
returns-in-Err-clause-cards g c = KeepsCards-same c.args.acts.now (members_of c.args.members.now)

pub returns-else-card_runs-clause-cards : goal.returns-else-card_runs-clause-cards
returns-else-card_runs-clause-cards g c = c.unplug_alone.ensures.cards c.args.acts.now
