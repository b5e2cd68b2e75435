use Rattle.std.proofs.Common.{◌≡◌, ◌<◌, ℕ, List, ◌++◌, length, get_or, sym, ap, ◌∙◌, subst, arith}
use Rattle.std.specs.Int.RustNames.{bit_or}
use Rattle.card_emul.specs.declared.any_card.AnyCard.{AnyCard}
use Rattle.card_emul.specs.contracts.any_card.AnyCardCard.TheImpl.{ghosts}
use Rattle.floor_rule.specs.Causes.{Causes}
use Rattle.floor_rule.specs.Seats.{NoteSees}
use Rattle.floor_rule.specs.declared.entry.Entry.TheVariants as entry
use Rattle.pcm_base.specs.declared.ids.SubId.{SubId}
use Rattle.pcm_base.specs.model.Replay.{is_member}
use Rattle.pcm_base.specs.model.Sleep.{mask_of, wake, woken}
use Rattle.pcm_group.specs.Inside.{members_in}
use Rattle.pcm_stream.specs.MembersStand.{AllStandFor}
use Rattle.pcm_stream.specs.declared.members.Member.{Member}
use Rattle.room_parts.specs.Recs.{RecView, sub_of}
use Rattle.room_lock.proofs.MaskLemmas.{mask_of-append}
use Rattle.room_lock.proofs.RecLemmas.{found, no_rec}
use Rattle.room_lock.proofs.Records.{length_map}
use Rattle.room_lock.proofs.TellingLemmas.{head_same, noted}
use Rattle.room_lock.proofs.joining.join.Goals as goal

pub come_in-both-requires-clause-table : goal.come_in-both-requires-clause-table
come_in-both-requires-clause-table g c =
    let rs = c.args.first.now.recs.items in
    let note = c.tell-news.ensures.note (get_or rs c.args.own no_rec) (found rs c.args.own c.requires.own) in
    (c.requires.table, ap (λ (n : NoteSees). n.table) note)

pub come_in-both-requires-clause-card : goal.come_in-both-requires-clause-card
come_in-both-requires-clause-card g c =
    let rs = c.args.first.now.recs.items in
    let here = c.requires.cause (get_or rs c.args.own no_rec) (found rs c.args.own c.requires.own) in
    subst (λ (n : ℕ). n < length g.N.FloorName.cards) here.0 here.1

pub come_in-both-requires-clause-cause : goal.come_in-both-requires-clause-cause
come_in-both-requires-clause-cause g c =
    let rs = c.args.first.now.recs.items in
    let r = get_or rs c.args.own no_rec in
    let at = found rs c.args.own c.requires.own in
    let note = c.tell-news.ensures.note r at in
    let here = c.requires.cause r at in
    let cause = here.2 in
    (cause.0, noted c.tell-news.result r c.args.cause.sub.0 c.args.cause.index cause.0 (ap (λ (n : NoteSees). n.lists) note) here.0 cause.1, subst (λ (n : ℕ). Causes cause.0.entry (entry.Moved n)) (sym c.check-here.ensures.same.2) cause.2)

pub come_in-both-requires-clause-lines : goal.come_in-both-requires-clause-lines
come_in-both-requires-clause-lines g c =
    let book = c.requires.lines.0 in
    let recs = c.requires.lines.1 in
    let told = c.tell-news.ensures.lines in
    let same = c.check-here.ensures.lines in
    let told_len = told.0 in
    let told_room = told.1 in
    let len = same.0 in
    let room = same.1 in
    let book_len = same.2 in
    let book_room = same.3 in
    (omega (arith, recs, told_len, told_room, len, room), omega (arith, book, book_len, book_room))

pub come_in-both-requires-clause-new : goal.come_in-both-requires-clause-new
come_in-both-requires-clause-new g c =
    let second = c.requires.second in
    let q : RecView = second.0 in
    let is : c.checked-mover.result.0.rec ≡ q = c.checked-mover.ensures.rec ∙ head_same c.args.second.now.recs.items c.go_out.result.rec q c.go_out.ensures.rec second.1 in
    ap (λ (z : RecView × List SubId). is_member (sub_of z.0) z.1) (λ i. (is i, c.check-here.ensures.numbers i)) ∙ second.4

pub come_in-both-requires-clause-seat : goal.come_in-both-requires-clause-seat
come_in-both-requires-clause-seat g c =
    let ms = members_in c.check-here.new.self.group in
    let a = length_map (λ (m : Member AnyCard ghosts). m.sub) ms in
    let b = length_map (λ (m : Member AnyCard ghosts). m.sub) (members_in c.args.first.now.group) in
    let e = ap length c.check-here.ensures.numbers in
    let few = c.requires.seat in
    omega (arith, a, b, e, few)

pub returns-clause-stands : goal.returns-clause-stands
returns-clause-stands g c = λ xs ys st st'.
    let one = c.check-here.ensures.stands xs st in
    let two = c.checked-mover.ensures.stands ys (subst (λ (l : List (Member AnyCard ghosts)). AllStandFor l ys) (sym c.go_out.ensures.members) st') in
    c.come_in-both.ensures.stands (wake xs) (wake ys) one two

pub returns-clause-woken : goal.returns-clause-woken
returns-clause-woken g c = λ xs ys st st'.
    let there = subst (λ (l : List (Member AnyCard ghosts)). AllStandFor l ys) (sym c.go_out.ensures.members) st' in
    let a = c.check-here.ensures.woken xs st in
    let b = c.checked-mover.ensures.woken ys there in
    let d = c.come_in-both.ensures.woken (wake xs) (wake ys) (c.check-here.ensures.stands xs st) (c.checked-mover.ensures.stands ys there) in
    ap (λ (z : ℕ × ℕ × ℕ). bit_or (bit_or z.0 z.1) z.2) (λ i. (a i, b i, d i))
    ∙ ap (λ (n : ℕ). bit_or n (mask_of (woken (wake xs ++ wake ys)))) (sym (mask_of-append (woken xs) (woken ys)))
    ∙ sym (mask_of-append (woken xs ++ woken ys) (woken (wake xs ++ wake ys)))
