use Rattle.std.proofs.Common.{◌≡◌, refl, sym, ◌∙◌}
use Rattle.std.specs.declared.option.Option.TheVariants.{Some, None}
use Rattle.pcm_stream.specs.Triggers.{trigger_for}
use Rattle.pcm_stream.proofs.ActsLemmas.{differ, is_same, stands-as, undid, undid_nothing}
use Rattle.pcm_stream.proofs.substream.Substream.undo_act.Goals as goal

pub returns-then-runs-ran-clause-undone : goal.returns-then-runs-ran-clause-undone
returns-then-runs-ran-clause-undone g c s h =
    let e : trigger_for c.args.act s ≡ Some c.in-Some.trigger = sym (c.trigger_for.ensures s h.shows h.sound) ∙ c.in-Some.is in
    undid c.args.act c.args.self.now _ s c.in-Some.trigger (record { dir = refl; long_max = refl; runtime = refl; state = refl; kept = refl }) e h
    (differ c.runs.result c.ran.result _ s.card.runs c.runs.ensures (c.ran.ensures s h.shows h.sound) c.if-runs-ran.true) c.undo.ensures.after

pub returns-else-runs-ran-clause-undone : goal.returns-else-runs-ran-clause-undone
returns-else-runs-ran-clause-undone g c s h = stands-as c.args.act c.args.self.now s h (sym c.runs.ensures ∙ is_same c.runs.result c.ran.result c.if-runs-ran.false ∙ c.ran.ensures s h.shows h.sound)

pub returns-in_default-clause-undone : goal.returns-in_default-clause-undone
returns-in_default-clause-undone g c s h =
    let e : trigger_for c.args.act s ≡ None = sym (c.trigger_for.ensures s h.shows h.sound) ∙ c.in_default.is in
    undid_nothing c.args.act c.args.self.now s e h
