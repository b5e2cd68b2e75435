use Rattle.std.proofs.Common.{◌≡◌, ℕ, List, Some, ap, ◌∙◌}
use Rattle.pcm_base.specs.declared.reply.Reply.{Reply}
use Rattle.pcm_base.specs.declared.reply.Told.{Told}
use Rattle.pcm_base.specs.declared.state.State.{State}
use Rattle.pcm_base.specs.model.Group.{group_step, stream_of}
use Rattle.pcm_base.specs.model.World.{group_of}
use Rattle.pcm_group.specs.Turn.{caller}
use Rattle.pcm_world.specs.Answered.{shown_step}
use Rattle.pcm_world.proofs.AnswerLemmas.{stream-named}
use Rattle.pcm_world.proofs.GroupLemmas.{place_held}
use Rattle.pcm_world.proofs.steps.in_group.Goals as goal

pub returns-clause-told : goal.returns-clause-told
returns-clause-told c = λ xs h told.
    let t = c.step-turn.ensures.turn xs h told in
    let k = c.args.event.now.sub in
    let g = group_step c.args.event.now.call (caller c.args.event.now) k c.deref_mut.result.now (group_of k xs) in
    let s : c.state.result ≡ (stream_of k g.members).state =
    c.state.ensures _ (c.step-turn.ensures.stands xs h told)
    ∙ ap (λ x. x.state) (stream-named c.args.groups.now.items.items xs c.args.event.now.call (caller c.args.event.now) k c.deref_mut.result.now
    (record { stands = h; numbers = c.args.groups.now.numbered; held = place_held c.args.groups.now.items.items xs k c.args.place h c.requires.place })) in
    ap (λ (r : Reply). let x : Told = record { reply = r; state = Some c.state.result; woken = c.step-turn.result.woken } in x) t.reply
    ∙ ap (λ (q : State). let x : Told = record { reply = g.answer.reply; state = Some q; woken = c.step-turn.result.woken } in x) s
    ∙ ap (λ (n : ℕ). let x : Told = record { reply = g.answer.reply; state = Some (stream_of k g.members).state; woken = n } in x) t.woken
    ∙ ap (λ (io : List ℕ). shown_step k (group_step c.args.event.now.call (caller c.args.event.now) k io (group_of k xs))) c.deref_mut.ensures.value
