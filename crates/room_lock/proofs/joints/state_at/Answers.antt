use Rattle.std.proofs.Common.{sym, ap, ◌∙◌, cond, Bool, ◌+◌, length, refl, arith}
use Rattle.std.proofs.lemmas.Option.{slice_get_read}
use Rattle.pcm_base.specs.declared.state.State.TheVariants as state
use Rattle.pcm_base.specs.declared.votes.Acted.{Acted}
use Rattle.room_lock.specs.Between.{is_watch}
use Rattle.room_lock.proofs.JointLemmas.{after_some}
use Rattle.room_lock.proofs.joints.state_at.Goals as goal

pub returns-then-is_watch : goal.returns-then-is_watch
returns-then-is_watch c = sym (after_some c.args.acts.now (c.args.i + 1) c.index-acts-i.result c.args.last (slice_get_read c.args.acts.now (length c.args.acts.now) (c.args.i + 1) c.index-acts-i.result refl (omega (arith, c.requires, c.if-i-count.false)) c.index-acts-i.is) ∙ ap (λ (b : Bool). cond b c.args.last state.Running) (ap (λ (d : Acted). is_watch d.act) c.index-acts-i.is ∙ sym c.is_watch.ensures ∙ c.if-is_watch.true))

pub returns-else-is_watch : goal.returns-else-is_watch
returns-else-is_watch c = sym (after_some c.args.acts.now (c.args.i + 1) c.index-acts-i.result c.args.last (slice_get_read c.args.acts.now (length c.args.acts.now) (c.args.i + 1) c.index-acts-i.result refl (omega (arith, c.requires, c.if-i-count.false)) c.index-acts-i.is) ∙ ap (λ (b : Bool). cond b c.args.last state.Running) (ap (λ (d : Acted). is_watch d.act) c.index-acts-i.is ∙ sym c.is_watch.ensures ∙ c.if-is_watch.false))
