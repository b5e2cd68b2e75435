use Rattle.std.proofs.Common.{◌≡◌, true, false, cond, sym, ◌∙◌, ap}
use Rattle.pcm_base.specs.declared.act.Act.TheVariants as act
use Rattle.pcm_base.specs.declared.call.CallKind.TheVariants as kind
use Rattle.pcm_base.specs.declared.reply.Reply.TheVariants as reply
use Rattle.pcm_base.specs.declared.state.State.{State}
use Rattle.pcm_base.specs.model.Acts.{table}
use Rattle.pcm_base.specs.model.Events.{drain_now}
use Rattle.pcm_base.specs.model.Group.{stream_of}
use Rattle.pcm_base.specs.model.Program.{making}
use Rattle.pcm_base.specs.model.Words.{is_paused}
use Rattle.pcm_stream.specs.Members.{members_of}
use Rattle.pcm_group.proofs.AsleepLemmas.{IsEndedBy-at, IsEndedBy-of, set_up_to_drain}
use Rattle.pcm_group.proofs.EndedLemmas.{IsEnded-refused, allowed-is, else-is, stands-there, then-is}
use Rattle.pcm_group.proofs.FaultLemmas.{KeepsCards-same}
use Rattle.pcm_group.proofs.events.drain.Goals as goal

pub returns-in-Err-clause-done : goal.returns-in-Err-clause-done
returns-in-Err-clause-done g c = λ k tells xs h.
    let ms = members_of c.args.members.now in
    IsEndedBy-of c.args.client tells _ k xs c.args.acts.now c.args.acts.now (reply.Err c.in-Err.e) 0 0 ms (λ e. let no : ⊥ = cc in no) c.requires.free
    (IsEnded-refused tells (table kind.Drain (stream_of k xs)) _ c.in-Err.e k xs c.args.acts.now ms c.args.place h (c.in-Err.ensures k tells xs h))

pub returns-then-is_paused-clause-done : goal.returns-then-is_paused-clause-done
returns-then-is_paused-clause-done g c = λ k tells xs h.
    let s = stream_of k xs in
    let sh = stands-there (members_of c.args.members.now) c.args.place c.at.result.now k tells xs h c.at.ensures in
    let test : is_paused s.state ≡ true = ap (λ (t : State). is_paused t) (sym (c.state-state.ensures s sh)) ∙ sym c.is_paused.ensures ∙ c.if-is_paused.true in
    let now = drain_now c.args.client c.args.mode in
    IsEndedBy-at c.args.client tells _ (making act.Release s now) k xs c.args.acts.now c.release_and_drain.new.acts c.release_and_drain.result 0 0 (members_of c.release_and_drain.new.members)
    (allowed-is (table kind.Drain s) s (cond (is_paused s.state) (making act.Release s now) (now s)) (c.in_default.ensures k tells xs h) ∙ then-is (is_paused s.state) (making act.Release s now) (now s) test)
    (c.release_and_drain.ensures.done k tells xs h (set_up_to_drain s sh.sound (c.in_default.ensures k tells xs h)))

pub returns-else-is_paused-clause-done : goal.returns-else-is_paused-clause-done
returns-else-is_paused-clause-done g c = λ k tells xs h.
    let s = stream_of k xs in
    let sh = stands-there (members_of c.args.members.now) c.args.place c.at.result.now k tells xs h c.at.ensures in
    let test : is_paused s.state ≡ false = ap (λ (t : State). is_paused t) (sym (c.state-state.ensures s sh)) ∙ sym c.is_paused.ensures ∙ c.if-is_paused.false in
    let now = drain_now c.args.client c.args.mode in
    IsEndedBy-at c.args.client tells _ (now s) k xs c.args.acts.now c.drain_now.new.acts c.drain_now.result 0 0 (members_of c.drain_now.new.members)
    (allowed-is (table kind.Drain s) s (cond (is_paused s.state) (making act.Release s now) (now s)) (c.in_default.ensures k tells xs h) ∙ else-is (is_paused s.state) (making act.Release s now) (now s) test)
    (c.drain_now.ensures.done k tells xs h (set_up_to_drain s sh.sound (c.in_default.ensures k tells xs h)))

pub returns-in-Err-clause-cards : goal.returns-in-Err-clause-cards
returns-in-Err-clause-cards g c = KeepsCards-same c.args.acts.now (members_of c.args.members.now)
