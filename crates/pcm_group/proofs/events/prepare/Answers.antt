use Rattle.std.proofs.Common.{◌≡◌, Bool, ◌||◌, ◌∙◌, ap, subst}
use Rattle.pcm_base.specs.model.Group.{stream_of}
use Rattle.pcm_stream.specs.Members.{members_of}
use Rattle.pcm_base.specs.declared.act.Act.TheVariants as act
use Rattle.pcm_base.specs.declared.state.State.{State}
use Rattle.pcm_base.specs.model.Program.{act_alone}
use Rattle.pcm_base.specs.model.Words.{is_paused, is_suspended}
use Rattle.pcm_group.specs.Ended.{IsEnded}
use Rattle.pcm_group.proofs.EndedLemmas.{stands-there}
use Rattle.pcm_group.proofs.events.prepare.Goals as goal

pub returns-clause-done : goal.returns-clause-done
returns-clause-done g c = λ client linked k tells xs h.
    let s = stream_of k xs in
    let sh = stands-there (members_of c.args.members.now) c.args.place c.at.result.now k tells xs h c.at.ensures in
    let first : c.is_halted-stop_first.result ≡ (is_paused s.state || is_suspended s.state) = c.is_halted-stop_first.ensures ∙ ap (λ (t : State). is_paused t || is_suspended t) (c.state-state.ensures s sh) in
    subst (λ (b : Bool). IsEnded tells (act_alone (act.Prepare b) s) k xs c.args.acts.now c.act_alone.new.acts c.act_alone.result 0 0 (members_of c.act_alone.new.members)) first
    (c.act_alone.ensures.done c.args.place k tells xs h)
