use Rattle.std.proofs.Common.{◌≡◌, ◌≢◌, ℕ, Bool, false, nat_eq, List, [], ◌∷◌, ◌++◌, length, slice_get, Some, sym, ap, ◌∙◌, subst, arith}
use Rattle.std.specs.Prelude.{◌||◌}
use Rattle.std.specs.Int.RustNames.{bit_or}
use Rattle.std.proofs.lemmas.Bool.Decides.{nat_tests}
use Rattle.card_emul.specs.declared.any_card.AnyCard.{AnyCard}
use Rattle.card_emul.specs.contracts.any_card.AnyCardCard.TheImpl.{ghosts}
use Rattle.floor_rule.specs.Causes.{Causes}
use Rattle.floor_rule.specs.Seats.{NoteSees}
use Rattle.floor_rule.specs.declared.entry.Entry.TheVariants as entry
use Rattle.pcm_base.specs.declared.ids.SubId.{SubId}
use Rattle.pcm_base.specs.model.Replay.{is_member}
use Rattle.pcm_base.specs.model.Sleep.{mask_of, wake, woken}
use Rattle.pcm_group.specs.Inside.{members_in}
use Rattle.pcm_stream.specs.Members.{numbers_of}
use Rattle.pcm_stream.specs.MembersStand.{AllStandFor}
use Rattle.pcm_stream.specs.declared.members.Member.{Member}
use Rattle.room_parts.specs.Recs.{RecView, sub_of}
use Rattle.room_lock.proofs.MaskLemmas.{mask_of-append}
use Rattle.room_lock.proofs.Records.{length_map}
use Rattle.room_lock.proofs.TellingLemmas.{head_same, noted}
use Rattle.room_lock.proofs.meeting.meet.Goals as goal

first_of_one : {A : Type 0} (xs : List A) (x : A) → xs ≡ x ∷ [] → slice_get xs 0 ≡ Some x
first_of_one xs x is = ap (λ l. slice_get l 0) is

pub come_in-woken-requires-clause-table : goal.come_in-woken-requires-clause-table
come_in-woken-requires-clause-table g c =
    let first = c.requires.first in
    let note = c.tell-news.ensures.note first.0 (first_of_one c.args.first.now.recs.items first.0 first.1) in
    (c.requires.table, ap (λ (n : NoteSees). n.table) note)

pub come_in-woken-requires-clause-cause : goal.come_in-woken-requires-clause-cause
come_in-woken-requires-clause-cause g c =
    let first = c.requires.first in
    let note = c.tell-news.ensures.note first.0 (first_of_one c.args.first.now.recs.items first.0 first.1) in
    let cause = first.6 in
    (cause.0, noted c.tell-news.result first.0 c.args.cause.sub.0 c.args.cause.index cause.0 (ap (λ (n : NoteSees). n.lists) note) first.4 cause.1, cause.2)

pub come_in-both-requires-clause-table : goal.come_in-both-requires-clause-table
come_in-both-requires-clause-table g c =
    let first = c.requires.first in
    let note = c.tell-copy.ensures.note first.0 (first_of_one c.tell-news.new.recs.items first.0 (c.tell-news.ensures.same ∙ first.1)) in
    (c.requires.table, ap (λ (n : NoteSees). n.table) note)

pub come_in-both-requires-clause-cause : goal.come_in-both-requires-clause-cause
come_in-both-requires-clause-cause g c =
    let first = c.requires.first in
    let note = c.tell-copy.ensures.note first.0 (first_of_one c.tell-news.new.recs.items first.0 (c.tell-news.ensures.same ∙ first.1)) in
    let cause = first.6 in
    (cause.0, noted c.tell-copy.result first.0 c.args.cause.sub.0 c.args.cause.index cause.0 (ap (λ (n : NoteSees). n.lists) note) first.4 cause.1, subst (λ (n : ℕ). Causes cause.0.entry (entry.Moved n)) (sym c.come_in-woken.ensures.number.0) cause.2)

pub come_in-both-requires-clause-new : goal.come_in-both-requires-clause-new
come_in-both-requires-clause-new g c =
    let first = c.requires.first in
    let second = c.requires.second in
    let r : RecView = first.0 in
    let q : RecView = second.0 in
    let one : c.go_out-mover.result.rec ≡ r = head_same c.tell-copy.new.recs.items c.go_out-mover.result.rec r c.go_out-mover.ensures.rec (c.tell-copy.ensures.same ∙ c.tell-news.ensures.same ∙ first.1) in
    let two : c.checked-mover.result.0.rec ≡ q = c.checked-mover.ensures.rec ∙ head_same c.args.second.now.recs.items c.go_out.result.rec q c.go_out.ensures.rec second.1 in
    let apart : r.knows.sub ≢ q.knows.sub = (λ e. second.4 (sym e ∙ first.4)) in
    let test : nat_eq r.knows.sub q.knows.sub ≡ false = grind (arith, nat_tests, apart) in
    let numbers : numbers_of (members_in c.come_in-woken.new.self.group) ≡ sub_of r ∷ [] =
    c.come_in-woken.ensures.numbers ∙ ap (λ (z : List (Member AnyCard ghosts) × RecView). numbers_of z.0 ++ sub_of z.1 ∷ []) (λ i. (c.requires.empty.0 i, one i)) in
    ap (λ (z : RecView × List SubId). is_member (sub_of z.0) z.1) (λ i. (two i, numbers i)) ∙ ap (λ (b : Bool). b || false) test

pub come_in-both-requires-clause-seat : goal.come_in-both-requires-clause-seat
come_in-both-requires-clause-seat g c =
    let ms = members_in c.come_in-woken.new.self.group in
    let numbers : numbers_of ms ≡ sub_of c.go_out-mover.result.rec ∷ [] =
    c.come_in-woken.ensures.numbers ∙ ap (λ (l : List (Member AnyCard ghosts)). numbers_of l ++ sub_of c.go_out-mover.result.rec ∷ []) c.requires.empty.0 in
    let a = length_map (λ (m : Member AnyCard ghosts). m.sub) ms in
    let b = ap length numbers in
    omega (arith, a, b)

pub returns-clause-stands : goal.returns-clause-stands
returns-clause-stands g c = λ xs ys st st'.
    let none : AllStandFor (members_in c.args.group.now.group) [] = subst (λ (l : List (Member AnyCard ghosts)). AllStandFor l []) (sym c.requires.empty.0) tt in
    let one = c.come_in-woken.ensures.stands [] xs none (subst (λ (l : List (Member AnyCard ghosts)). AllStandFor l xs) (sym c.go_out-mover.ensures.members) st) in
    let two = c.checked-mover.ensures.stands ys (subst (λ (l : List (Member AnyCard ghosts)). AllStandFor l ys) (sym c.go_out.ensures.members) st') in
    c.come_in-both.ensures.stands (wake xs) (wake ys) one two

pub returns-clause-woken : goal.returns-clause-woken
returns-clause-woken g c = λ xs ys st st'.
    let none : AllStandFor (members_in c.args.group.now.group) [] = subst (λ (l : List (Member AnyCard ghosts)). AllStandFor l []) (sym c.requires.empty.0) tt in
    let here = subst (λ (l : List (Member AnyCard ghosts)). AllStandFor l xs) (sym c.go_out-mover.ensures.members) st in
    let there = subst (λ (l : List (Member AnyCard ghosts)). AllStandFor l ys) (sym c.go_out.ensures.members) st' in
    let a = c.come_in-woken.ensures.woken [] xs none here in
    let b = c.checked-mover.ensures.woken ys there in
    let d = c.come_in-both.ensures.woken (wake xs) (wake ys) (c.come_in-woken.ensures.stands [] xs none here) (c.checked-mover.ensures.stands ys there) in
    ap (λ (z : ℕ × ℕ × ℕ). bit_or (bit_or z.0 z.1) z.2) (λ i. (a i, b i, d i))
    ∙ ap (λ (n : ℕ). bit_or n (mask_of (woken (wake xs ++ wake ys)))) (sym (mask_of-append (woken xs) (woken ys)))
    ∙ sym (mask_of-append (woken xs ++ woken ys) (woken (wake xs ++ wake ys)))
