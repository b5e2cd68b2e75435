use Rattle.std.proofs.Common.{rules, ◌≡◌, ℕ, ◌+◌, ◌<◌, length, drop, sym, ap, subst, arith, length-append}
use Rattle.std.proofs.lemmas.List.{take_rest}
use Rattle.pcm_line.specs.Skipped.{IsSkipped}
use Rattle.pcm_help.specs.Recent.{IsFrom}
use Rattle.pcm_help.proofs.FileLemmas.{next-from, skips-more}
use Rattle.pcm_help.proofs.file.next_spoken.Goals as goal

pub lines-preserved : goal.lines-preserved
lines-preserved c =
    let here = c.lines.invariant in
    let number = c.lines.number in
    let line = c.first_line-line.result.now in
    let rest = c.lines.rest.now in
    let first = c.first_line-line.ensures in
    let behind = length line + 1 in
    let skipped : IsSkipped 2 line = search rules in
    let next : c.in_ok-number-2.number ≡ number + 1 = search rules in
    let less : length line < length rest = omega (arith, c.if-line-rest.false, ap length first.cut, length-append line first.behind) in
    record {
      behind = omega (arith, here.behind, next);
      here = λ all h. subst (IsFrom c.in_ok-number-2.number all) (sym (take_rest rest behind))
          (subst (λ (n : ℕ). IsFrom n all (drop behind rest)) (sym next) (next-from number all rest line (here.here all h) first less));
      between = λ all h k above below. skips-more number all rest line c.args.answered (here.here all h) first skipped (here.between all h) k above (omega (arith, below, next));
    }
