use Rattle.std.proofs.Common.{sym, ap, ◌∙◌, ◌<◌, arith, subst, refl}
use Rattle.floor_rule.proofs.PassSteps.{reads_place_as}
use Rattle.floor_rule.proofs.pass_seat.PassSeat.read_place.Goals as goal

pub load-requires : goal.load-requires
load-requires c =
    let i = c.words.invariant in
    let card : c.args.sub.0 < c.words.inside.cards = subst (λ n. c.args.sub.0 < n) (sym (ap (λ v. v.cards) c.words.view_is)) c.requires.card in
    let sub_in : c.from.result < c.words.inside.cards = omega (arith, card, c.from.ensures) in (
      ap (λ v. v.table) c.self.view_is ∙ c.requires.table ∙ sym (ap (λ v. v.table) c.words.view_is),
      omega (arith, i.1),
      reads_place_as _ _ _ _ _ _ c.from.result _ i.0 c.self.invariant.0 refl sub_in,
    )
