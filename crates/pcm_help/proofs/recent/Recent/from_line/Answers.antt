use Rattle.std.proofs.Common.{rules, ◌≡◌, ℕ, ◌+◌, List, true, Some, None, ◌∙◌, ap, subst, sym, arith}
use Rattle.std.specs.Prelude.{IfSome}
use Rattle.std.specs.declared.option.Option.{Option}
use Rattle.pcm_help.specs.Recent.{Kept, Holds, IsBehind, IsFrom}
use Rattle.pcm_help.proofs.RecentLemmas.{line-at}
use Rattle.pcm_help.proofs.recent.Recent.from_line.Goals as goal
use Rattle.pcm_help.proofs.recent.Recent.from_line.Goals.{else-skipped-eq0-via-then-skipped-eq0+else-not-self, else-skipped-eq0-via-else-skipped-eq0}

lines-at : {A : Type 0} (now : A → List ℕ) (o : Option A) (kept : Kept) (all : List ℕ) (number skipped : ℕ) → Holds kept all → number ≡ kept.feeds + skipped + 1
    → (skipped ≡ 0 → kept.begins ≡ true) → IfSome o (λ r. IsBehind skipped kept.bytes (now r)) → IfSome o (λ r. IsFrom number all (now r))
lines-at now None kept all number skipped h is first b = tt
lines-at now (Some r) kept all number skipped h is first b = line-at kept all (now r) number skipped h is b first

pub returns-clause-line : goal.returns-clause-line
returns-clause-line c = λ all h.
    let skipped = c.in_ok-skipped.skipped in
    let feeds = ap (λ (k : Kept). k.feeds) c.self.view_is in
    let begins = ap (λ (k : Kept). k.begins) c.self.view_is in
    let bytes = c.deref.ensures.value ∙ ap (λ (k : Kept). k.bytes) c.self.view_is in
    let first : skipped ≡ 0 → c.self.inside.begins ≡ true = elim c.else-skipped-eq0.branch [
      | else-skipped-eq0-via-then-skipped-eq0+else-not-self w ↦ λ zero. search rules
      | else-skipped-eq0-via-else-skipped-eq0 w ↦ λ zero. search rules
    ] in
    lines-at (λ r. r.now) c.behind_feeds.result c.args.self.now all c.args.number skipped h
    (omega (arith, feeds, c.in_ok-skipped.ensures, c.in_ok-checked_sub.ensures)) (λ zero. sym begins ∙ first zero)
    (subst (λ (l : List ℕ). IfSome c.behind_feeds.result (λ r. IsBehind skipped l r.now)) bytes c.behind_feeds.ensures.some)
