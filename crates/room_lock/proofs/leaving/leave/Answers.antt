use Rattle.std.proofs.Common.{ℕ, List, [], ◌++◌, sym, ap, ◌∙◌, subst}
use Rattle.std.specs.Int.RustNames.{bit_or}
use Rattle.card_emul.specs.declared.any_card.AnyCard.{AnyCard}
use Rattle.card_emul.specs.contracts.any_card.AnyCardCard.TheImpl.{ghosts}
use Rattle.pcm_base.specs.model.Sleep.{mask_of, wake, woken}
use Rattle.pcm_base.specs.model.World.{only_member, without_member}
use Rattle.pcm_group.specs.Inside.{members_in}
use Rattle.pcm_stream.specs.MembersStand.{AllStandFor}
use Rattle.pcm_stream.specs.declared.members.Member.{Member}
use Rattle.room_lock.proofs.MaskLemmas.{mask_of-append}
use Rattle.room_lock.proofs.leaving.leave.Goals as goal

pub returns-clause-stands : goal.returns-clause-stands
returns-clause-stands g c = λ xs st.
    let k = c.args.cause.sub in
    let before = c.check-here.ensures.stands xs st in
    let none : AllStandFor (members_in c.args.own.now.group) [] = subst (λ (l : List (Member AnyCard ghosts)). AllStandFor l []) (sym c.requires.empty) tt in (
      c.settle-left.ensures.stands (without_member k (wake xs)) (c.take_out-one.ensures.rest (wake xs) before),
      c.come_in-gone.ensures.stands [] (only_member k (wake xs)) none (c.take_out-one.ensures.one (wake xs) before),
    )

pub returns-clause-woken : goal.returns-clause-woken
returns-clause-woken g c = λ xs st.
    let k = c.args.cause.sub in
    let before = c.check-here.ensures.stands xs st in
    let none : AllStandFor (members_in c.args.own.now.group) [] = subst (λ (l : List (Member AnyCard ghosts)). AllStandFor l []) (sym c.requires.empty) tt in
    let a = c.check-here.ensures.woken xs st in
    let b = c.come_in-gone.ensures.woken [] (only_member k (wake xs)) none (c.take_out-one.ensures.one (wake xs) before) in
    let d = c.settle-left.ensures.woken (without_member k (wake xs)) (c.take_out-one.ensures.rest (wake xs) before) in
    ap (λ (z : ℕ × ℕ × ℕ). bit_or (bit_or z.0 z.1) z.2) (λ i. (a i, b i, d i))
    ∙ ap (λ (n : ℕ). bit_or n (mask_of (woken (without_member k (wake xs))))) (sym (mask_of-append (woken xs) (woken (only_member k (wake xs)))))
    ∙ sym (mask_of-append (woken xs ++ woken (only_member k (wake xs))) (woken (without_member k (wake xs))))
