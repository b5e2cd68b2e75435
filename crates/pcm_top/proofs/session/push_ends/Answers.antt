use Rattle.std.proofs.Common.{◌≡◌, ◌++◌, ◌∙◌, sym, subst, arith, ℕ}
use Rattle.pcm_world.specs.declared.world.World.{World as CodeWorld}
use Rattle.pcm_world.specs.Shown.{IsWorld}
use Rattle.pcm_top.proofs.SessionLemmas.{ends_below, ends-more}
use Rattle.pcm_top.proofs.session.push_ends.Goals as goal

pub subs-preserved : goal.subs-preserved
subs-preserved c = record {
  world = c.in_ok-push_end.ensures.world ∙ c.subs.invariant.world;
  lines = λ w is.
      let here = subst (λ (x : CodeWorld). IsWorld x w) (sym c.subs.invariant.world) is in
      ends-more w c.subs.number c.args.session.now.text.items c.subs.session.text.items c.push_end.new.session.text.items (c.subs.invariant.lines w is) (c.in_ok-push_end.ensures.line w here);
}

pub returns : goal.returns
returns c = λ w is.
    let all : c.subs.number ≡ 16 = omega (arith, c.subs-test.false, c.subs.auto.number-end) in
    subst (λ (n : ℕ). c.subs.session.text.items ≡ c.args.session.now.text.items ++ ends_below w n) all (c.subs.invariant.lines w is)
