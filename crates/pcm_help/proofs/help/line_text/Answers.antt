use Rattle.std.proofs.Common.{◌≡◌, ◌≤◌, Some, sym, ◌∙◌, ap, subst}
use Rattle.std.specs.Option.{option_copied}
use Rattle.pcm_help.specs.Recent.{Kept, Holds, first_whole, last_begun}
use Rattle.pcm_help.proofs.help.line_text.Goals as goal

same_kept : (a b : Kept) → Some a ≡ Some b → a ≡ b
same_kept a b e = cc

pub returns-in-Some-Some : goal.returns-in-Some-Some
returns-in-Some-Some c = λ kept all command copied h low high.
    let same = same_kept kept c.in-Some-Some.recent.now (sym copied ∙ ap option_copied c.in-Some-Some.is-1) in
    c.kept_line_text.ensures all (subst (λ (k : Kept). Holds k all) same h)
    (subst (λ (k : Kept). first_whole k ≤ c.args.number) same low) (subst (λ (k : Kept). c.args.number ≤ last_begun k) same high)
