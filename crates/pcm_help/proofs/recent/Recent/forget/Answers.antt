use Rattle.std.proofs.Common.{ℕ, ◌+◌, List, ◌++◌, length, take, drop, Bool, ◌∙◌, sym, ap, arith, length-take}
use Rattle.std.proofs.lemmas.List.{take-append-drop}
use Rattle.pcm_help.specs.Lines.{begins_after, feeds_in}
use Rattle.pcm_help.specs.Recent.{Kept}
use Rattle.pcm_help.proofs.RecentLemmas.{feeds-few, holds-forget}
use Rattle.pcm_help.proofs.recent.Recent.forget.Goals as goal

pub returns-clause-holds : goal.returns-clause-holds
returns-clause-holds c = λ all few h.
    let count = c.args.count in
    let items = c.self.inside.bytes.items in
    let gone = take count c.deref.result.now in
    let bytes = ap (λ (k : Kept). k.bytes) c.self.view_is in
    let feeds = ap (λ (k : Kept). k.feeds) c.self.view_is in
    let bound = feeds-few _ all h in
    let size = length-take count c.deref.result.now in
    let same = ap (λ (l : List ℕ). length l) (c.deref.ensures.value ∙ bytes) in
    let counted = c.feeds_after-feeds.ensures (omega (arith, feeds, bound, few, size, same)) in
    let cut = sym bytes ∙ sym (take-append-drop count items) ∙ ap (λ (l : List ℕ). take count l ++ drop count items) (sym c.deref.ensures.value) ∙ ap (λ (l : List ℕ). gone ++ l) (sym c.drop_front.ensures.items) in
    holds-forget c.args.self.now _ all gone h cut (counted ∙ ap (λ (n : ℕ). n + feeds_in gone) feeds)
    (c.begins_behind-begins.ensures ∙ ap (λ (b : Bool). begins_after b gone) (ap (λ (k : Kept). k.begins) c.self.view_is))
