use Rattle.std.proofs.Common.{ℕ, ◌+◌, Bool, ◌∙◌, ap, arith}
use Rattle.pcm_help.specs.Lines.{begins_after, feeds_in}
use Rattle.pcm_help.specs.Recent.{Kept}
use Rattle.pcm_help.proofs.RecentLemmas.{feeds-few, holds-pass}
use Rattle.pcm_help.proofs.recent.Recent.pass.Goals as goal

pub returns-clause-holds : goal.returns-clause-holds
returns-clause-holds c = λ all few h.
    let more = c.args.bytes.now in
    let feeds = ap (λ (k : Kept). k.feeds) c.self.view_is in
    let bound = feeds-few _ all h in
    let counted = c.feeds_after-self-inside.ensures (omega (arith, feeds, bound, few)) in
    holds-pass c.args.self.now _ all more h c.requires (ap (λ (k : Kept). k.bytes) c.self.view_is)
    (counted ∙ ap (λ (n : ℕ). n + feeds_in more) feeds)
    (c.begins_behind-self-inside.ensures ∙ ap (λ (b : Bool). begins_after b more) (ap (λ (k : Kept). k.begins) c.self.view_is))
