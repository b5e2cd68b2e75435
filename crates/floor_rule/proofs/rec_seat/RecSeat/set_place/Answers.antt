use Rattle.std.proofs.Common.{sym, ap, ◌∙◌, ◌<◌, ◌+◌, ◌≡◌, arith}
use Rattle.floor_rule.proofs.RecSteps.{places_as}
use Rattle.floor_rule.proofs.rec_seat.RecSeat.set_place.Goals as goal

pub store-requires : goal.store-requires
store-requires c =
    let i = c.words.invariant in
    let m = c.self.invariant in
    let table = ap (λ v. v.table) c.self.view_is ∙ c.requires.table ∙ sym (ap (λ v. v.table) c.words.view_is) in
    let words : c.self.inside.seat.table_id.words ≡ c.words.inside.cards + c.words.inside.cards = ap (λ t. t.words) table ∙ i.1 in
    let low : c.self.inside.sub.0 + c.self.inside.sub.0 < c.self.inside.seat.table_id.words = m.3 in (
      table,
      omega (arith, i.1),
      places_as _ _ _ _ _ _ _ _ i.0 m.0 (ap (λ n. c.words.inside.cards + n) (c.from.ensures ∙ m.1)) (omega (arith, c.requires.room, c.from-2.ensures)),
    )
