use Rattle.std.proofs.Common.{◌≡◌, ◌<◌, length, slice_get, Some, refl, sym, ap, ◌∙◌, subst, arith}
use Rattle.std.proofs.lemmas.Option.{same_Some, slice_get_read, slice_get_within}
use mathlib.Core.Logic.{dite}
use native.Mathlib.Decide.{ℕ_discrete}
use Rattle.live_gather.specs.declared.gathered.Gathered.{Gathered}
use Rattle.live_gather.proofs.ordering.place_of.Goals as goal

pub returns-then-from-number-clause-place : goal.returns-then-from-number-clause-place
returns-then-from-number-clause-place c =
    let xs = c.args.all.now.items in
    let lt : c.loop-i.i < length xs = omega (arith, c.len-i-end.ensures, c.args.all.now.ok.0, c.loop-i-test.true) in
    let at = slice_get_read xs (length xs) c.loop-i.i c.index.result.now refl lt c.index.ensures in
    (c.index.result.now, at, sym c.from.ensures ∙ c.if-from-number.true)

pub loop-i-preserved : goal.loop-i-preserved
loop-i-preserved c = λ k lt is.
    let xs = c.args.all.now.items in
    let here : c.loop-i.i < length xs = omega (arith, c.len-i-end.ensures, c.args.all.now.ok.0, c.loop-i-test.true) in
    let at = slice_get_read xs (length xs) c.loop-i.i c.index.result.now refl here c.index.ensures in
    dite (ℕ_discrete k c.loop-i.i)
    (λ e.
    let same = same_Some is.0 c.index.result.now (sym is.1 ∙ subst (λ n. slice_get xs n ≡ Some c.index.result.now) (sym e) at) in
    c.if-from-number.false (c.from.ensures ∙ sym (ap (λ (x : Gathered). x.log.sub.0) same) ∙ is.2))
    (λ ne. c.loop-i.invariant k (omega (arith, lt, ne)) is)

pub unreachable-requires : goal.unreachable-requires
unreachable-requires c =
    let h = c.requires.there in
    c.loop-i.invariant h.0 (omega (arith, slice_get_within c.args.all.now.items h.0 h.1.0 h.1.1, c.len-i-end.ensures, c.args.all.now.ok.0, c.loop-i-test.false)) h.1
