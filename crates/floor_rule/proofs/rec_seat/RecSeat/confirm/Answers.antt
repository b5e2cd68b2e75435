use Rattle.std.proofs.Common.{sym, ap, ◌∙◌, ◌<◌, ◌+◌, ◌≡◌, arith}
use Rattle.floor_rule.proofs.RecSteps.{confirms_as}
use Rattle.floor_rule.proofs.rec_seat.RecSeat.confirm.Goals as goal

pub load-requires : goal.load-requires
load-requires c =
    let i = c.words.invariant in
    let m = c.self.invariant in
    let table = ap (λ v. v.table) c.self.view_is ∙ c.requires.table ∙ sym (ap (λ v. v.table) c.words.view_is) in
    let words : c.self.inside.seat.table_id.words ≡ c.words.inside.cards + c.words.inside.cards = ap (λ t. t.words) table ∙ i.1 in
    let low : c.self.inside.sub.0 + c.self.inside.sub.0 < c.self.inside.seat.table_id.words = m.3 in (
      table,
      omega (arith, i.1, c.from-sub.ensures),
      confirms_as _ _ _ _ _ _ m.0 (c.from-sub.ensures ∙ m.1),
    )
