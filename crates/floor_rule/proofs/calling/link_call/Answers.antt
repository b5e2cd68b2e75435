use Rattle.std.proofs.Common.{◌≡◌, ◌≢◌, true, ◌&&◌, eq-eqb, ◌∷◌, ◌++◌, [], List, ℕ, length, inl, refl, sym, ap, ◌∙◌, subst}
use Rattle.std.specs.Prelude.{nat_eq}
use Rattle.floor_rule.specs.declared.entry.EntryMark.TheVariants.{Called}
use Rattle.floor_rule.specs.declared.rule.Made.{Made}
use Rattle.floor_rule.specs.declared.rule.Marked.{Marked}
use mathlib.Core.List.{IsPrefix}
use Rattle.floor_rule.specs.Lists.{Agree, AllBegin, AllOf, Stands, longest}
use Rattle.floor_rule.specs.Marks.{is_call}
use Rattle.floor_rule.specs.declared.rule.Lists.{Lists}
use Rattle.floor_rule.proofs.TellingLemmas.{begins_all, begins_last, both_tell, first_is_longest, first_tells, get_end, goes_not_on, holds_more, holds_then, second_is_longest, stands_more, told_as}
use Rattle.floor_rule.proofs.calling.link_call.Goals as goal

pub returns-clause-second_stands : goal.returns-clause-second_stands
returns-clause-second_stands c =
    let S : ℕ = c.args.second.now.knows.sub in
    let L : List Marked = c.args.second.now.knows.log in
    let e : Marked = record { entry = c.args.entry.now; mark = Called c.args.second_mark.0 c.args.second_mark.1 c.number-caller.result c.calls-number.result 0 } in
    let front : List (ℕ × List Marked) = c.copy_note-told-2.result.lists.logs in
    let first : List (ℕ × List Marked) = c.take_note-5.new.self.knows.held.logs in
    let all : c.confirm-3.new.self.knows.held.logs ≡ front ++ first = ap (λ s. s.knows.held.logs) c.confirm-3.ensures.receipt ∙ ap (λ s. s.knows.held.logs) c.take_note-6.ensures in
    let here : Stands first S (length L) e = rw (c.take_note-5.ensures, c.copy_note-told.ensures.note, c.publish-2.ensures, c.confirm-2.ensures.same, c.take_note-4.ensures, c.copy_note-other_news.ensures.same) (inl (refl, get_end L e)) in
    let stands : Stands (front ++ first) S (length L) e = stands_more front first S (length L) e here in
    let same : Marked = record { entry = c.args.entry.now; mark = Called c.args.second_mark.0 c.args.second_mark.1 c.args.pass.now.knows.number (length c.args.pass.now.knows.calls) 0 } in
    let is : e ≡ same = λ i. record { entry = c.args.entry.now; mark = Called c.args.second_mark.0 c.args.second_mark.1 (c.number-caller.ensures i) (c.calls-number.ensures i) 0 } in
    subst (λ (z : List (ℕ × List Marked) × Marked). Stands z.0 S (length L) z.1) (λ i. (sym all i, is i)) stands

pub returns-clause-first_backed : goal.returns-clause-first_backed
returns-clause-first_backed c =
    let made : Made = record { event = c.args.event.now; count = 0 } in
    let calls : List Made = c.args.pass.now.knows.calls in
    let tells = c.requires.tells.0 in
    rw (c.copy_note-told-2.ensures.same, c.copy_note-call.ensures.same, c.publish.ensures, c.confirm.ensures.same, c.take_note-3.ensures, c.begin-note.ensures.note, c.copy_note-news.ensures.same, c.look-2.ensures.same, c.take_note-2.ensures, c.look.ensures.same, c.take_note.ensures)
    (made, inl (refl, get_end calls made), refl, tells)

pub returns-clause-second_backed : goal.returns-clause-second_backed
returns-clause-second_backed c =
    let made : Made = record { event = c.args.event.now; count = 0 } in
    let calls : List Made = c.args.pass.now.knows.calls in
    let tells = c.requires.tells.1 in
    rw (c.copy_note-told.ensures.same, c.publish-2.ensures, c.confirm-2.ensures.same, c.take_note-4.ensures, c.copy_note-call.ensures.note, c.publish.ensures, c.confirm.ensures.same, c.take_note-3.ensures, c.begin-note.ensures.note, c.copy_note-other_news.ensures.same, c.look-2.ensures.same, c.take_note-2.ensures, c.look.ensures.same, c.take_note.ensures)
    (made, inl (refl, get_end calls made), refl, tells)

pub returns-clause-first_held : goal.returns-clause-first_held
returns-clause-first_held c =
    let R : Lists = c.args.first.now.knows.held in
    let now : Lists = c.copy_note-told-2.new.self.knows.held in
    let logs : now.logs ≡ c.begin-note.result.lists.logs ++ R.logs = rw (c.copy_note-told-2.ensures.same, c.copy_note-call.ensures.same, c.publish.ensures, c.confirm.ensures.same, c.take_note-3.ensures, c.copy_note-news.ensures.same) refl in
    let calls : now.calls ≡ c.begin-note.result.lists.calls ++ R.calls = rw (c.copy_note-told-2.ensures.same, c.copy_note-call.ensures.same, c.publish.ensures, c.confirm.ensures.same, c.take_note-3.ensures, c.copy_note-news.ensures.same) refl in
    holds_more R now c.begin-note.result.lists.logs c.begin-note.result.lists.calls logs calls

pub returns-clause-second_held : goal.returns-clause-second_held
returns-clause-second_held c =
    let R : Lists = c.args.second.now.knows.held in
    let now : Lists = c.copy_note-told.new.self.knows.held in
    let logs : now.logs ≡ c.copy_note-call.result.lists.logs ++ R.logs = rw (c.copy_note-told.ensures.same, c.publish-2.ensures, c.confirm-2.ensures.same, c.take_note-4.ensures, c.copy_note-other_news.ensures.same) refl in
    let calls : now.calls ≡ c.copy_note-call.result.lists.calls ++ R.calls = rw (c.copy_note-told.ensures.same, c.publish-2.ensures, c.confirm-2.ensures.same, c.take_note-4.ensures, c.copy_note-other_news.ensures.same) refl in
    holds_more R now c.copy_note-call.result.lists.logs c.copy_note-call.result.lists.calls logs calls

pub returns-clause-pass_held : goal.returns-clause-pass_held
returns-clause-pass_held c =
    let P : Lists = c.args.pass.now.knows.held in
    let one : Lists = c.take_note.new.self.knows.held in
    let two : Lists = c.take_note-2.new.self.knows.held in
    let five : Lists = c.take_note-5.new.self.knows.held in
    let now : Lists = c.confirm-3.new.self.knows.held in
    let one_logs : one.logs ≡ c.copy_note-news.result.lists.logs ++ P.logs = ap (λ s. s.knows.held.logs) c.take_note.ensures in
    let one_calls : one.calls ≡ c.copy_note-news.result.lists.calls ++ P.calls = ap (λ s. s.knows.held.calls) c.take_note.ensures in
    let two_logs : two.logs ≡ c.copy_note-other_news.result.lists.logs ++ one.logs = rw (c.take_note-2.ensures, c.look.ensures.same) refl in
    let two_calls : two.calls ≡ c.copy_note-other_news.result.lists.calls ++ one.calls = rw (c.take_note-2.ensures, c.look.ensures.same) refl in
    let five_logs : five.logs ≡ c.copy_note-told.result.lists.logs ++ two.logs = rw (c.take_note-5.ensures, c.begin-note.ensures.call, c.look-2.ensures.same) refl in
    let five_calls : five.calls ≡ c.copy_note-told.result.lists.calls ++ two.calls = rw (c.take_note-5.ensures, c.begin-note.ensures.call, c.look-2.ensures.same) refl in
    let now_logs : now.logs ≡ c.copy_note-told-2.result.lists.logs ++ five.logs = ap (λ s. s.knows.held.logs) c.confirm-3.ensures.receipt ∙ ap (λ s. s.knows.held.logs) c.take_note-6.ensures in
    let now_calls : now.calls ≡ c.copy_note-told-2.result.lists.calls ++ five.calls = ap (λ s. s.knows.held.calls) c.confirm-3.ensures.receipt ∙ ap (λ s. s.knows.held.calls) c.take_note-6.ensures in
    holds_then P one now (holds_more P one c.copy_note-news.result.lists.logs c.copy_note-news.result.lists.calls one_logs one_calls)
    (holds_then one two now (holds_more one two c.copy_note-other_news.result.lists.logs c.copy_note-other_news.result.lists.calls two_logs two_calls)
    (holds_then two five now (holds_more two five c.copy_note-told.result.lists.logs c.copy_note-told.result.lists.calls five_logs five_calls)
    (holds_more five now c.copy_note-told-2.result.lists.logs c.copy_note-told-2.result.lists.calls now_logs now_calls)))

pub returns-clause-second_list : goal.returns-clause-second_list
returns-clause-second_list c =
    let S1 : ℕ = c.args.first.now.knows.sub in
    let S2 : ℕ = c.args.second.now.knows.sub in
    let L1 : List Marked = c.args.first.now.knows.log in
    let L2 : List Marked = c.args.second.now.knows.log in
    let R1 : List (ℕ × List Marked) = c.args.first.now.knows.held.logs in
    let R2 : List (ℕ × List Marked) = c.args.second.now.knows.held.logs in
    let P : List (ℕ × List Marked) = c.args.pass.now.knows.held.logs in
    let rest : List (ℕ × List Marked) = ((S1, L1) ∷ R1) ++ P in
    let begun : List (ℕ × List Marked) = ((S2, L2) ∷ R2) ++ rest in
    let e1 : Marked = record { entry = c.args.entry.now; mark = Called c.args.first_mark.0 c.args.first_mark.1 c.number-caller.result c.calls-number.result 0 } in
    let e2 : Marked = record { entry = c.args.entry.now; mark = Called c.args.second_mark.0 c.args.second_mark.1 c.number-caller.result c.calls-number.result 0 } in
    let x : List (ℕ × List Marked) = first_tells S1 (L1 ++ e1 ∷ []) begun R1 in
    let sub_is : c.take_note-4.new.self.knows.sub ≡ S2 = rw (c.take_note-4.ensures, c.copy_note-other_news.ensures.same) refl in
    let log_is : c.take_note-4.new.self.knows.log ≡ L2 = rw (c.take_note-4.ensures, c.copy_note-other_news.ensures.same) refl in
    let held_is : c.take_note-4.new.self.knows.held.logs ≡ x ++ R2 = rw (c.take_note-4.ensures, c.copy_note-call.ensures.note, c.publish.ensures, c.confirm.ensures.same, c.take_note-3.ensures, c.begin-note.ensures.note, c.look-2.ensures.same, c.take_note-2.ensures, c.copy_note-other_news.ensures.note, c.copy_note-other_news.ensures.same, c.look.ensures.same, c.take_note.ensures, c.copy_note-news.ensures.note, c.copy_note-news.ensures.same) refl in
    let told : AllOf S2 (λ l. IsPrefix l L2) (x ++ R2) = told_as _ S2 _ L2 _ (x ++ R2) sub_is log_is held_is c.confirm-2.ensures.confirmed.lists in
    let held : c.confirm-3.new.self.knows.held.logs ≡ both_tell S1 (L1 ++ e1 ∷ []) S2 (L2 ++ e2 ∷ []) begun R1 R2 = rw (c.confirm-3.ensures.receipt, c.take_note-6.ensures, c.copy_note-told-2.ensures.note, c.copy_note-call.ensures.same, c.take_note-5.ensures, c.copy_note-told.ensures.note, c.publish-2.ensures, c.confirm-2.ensures.same, c.take_note-4.ensures, c.copy_note-call.ensures.note, c.publish.ensures, c.confirm.ensures.same, c.take_note-3.ensures, c.begin-note.ensures.note, c.begin-note.ensures.call, c.look-2.ensures.same, c.take_note-2.ensures, c.copy_note-other_news.ensures.note, c.copy_note-other_news.ensures.same, c.look.ensures.same, c.take_note.ensures, c.copy_note-news.ensures.note, c.copy_note-news.ensures.same) refl in
    let log : c.copy_note-told.new.self.knows.log ≡ L2 ++ e2 ∷ [] = rw (c.copy_note-told.ensures.same, c.publish-2.ensures, c.confirm-2.ensures.same, c.take_note-4.ensures, c.copy_note-other_news.ensures.same) refl in
    ap (longest S2) held ∙ second_is_longest S1 S2 (L1 ++ e1 ∷ []) L2 e2 begun R1 R2 told ∙ sym log

pub returns-clause-first_list : goal.returns-clause-first_list
returns-clause-first_list c =
    let S1 : ℕ = c.args.first.now.knows.sub in
    let S2 : ℕ = c.args.second.now.knows.sub in
    let L1 : List Marked = c.args.first.now.knows.log in
    let L2 : List Marked = c.args.second.now.knows.log in
    let R1 : List (ℕ × List Marked) = c.args.first.now.knows.held.logs in
    let R2 : List (ℕ × List Marked) = c.args.second.now.knows.held.logs in
    let P : List (ℕ × List Marked) = c.args.pass.now.knows.held.logs in
    let rest : List (ℕ × List Marked) = ((S1, L1) ∷ R1) ++ P in
    let begun : List (ℕ × List Marked) = ((S2, L2) ∷ R2) ++ rest in
    let e1 : Marked = record { entry = c.args.entry.now; mark = Called c.args.first_mark.0 c.args.first_mark.1 c.number-caller.result c.calls-number.result 0 } in
    let e2 : Marked = record { entry = c.args.entry.now; mark = Called c.args.second_mark.0 c.args.second_mark.1 c.number-caller.result c.calls-number.result 0 } in
    let x : List (ℕ × List Marked) = first_tells S1 (L1 ++ e1 ∷ []) begun R1 in
    let sub_is : c.take_note-4.new.self.knows.sub ≡ S2 = rw (c.take_note-4.ensures, c.copy_note-other_news.ensures.same) refl in
    let log_is : c.take_note-4.new.self.knows.log ≡ L2 = rw (c.take_note-4.ensures, c.copy_note-other_news.ensures.same) refl in
    let held_is : c.take_note-4.new.self.knows.held.logs ≡ x ++ R2 = rw (c.take_note-4.ensures, c.copy_note-call.ensures.note, c.publish.ensures, c.confirm.ensures.same, c.take_note-3.ensures, c.begin-note.ensures.note, c.look-2.ensures.same, c.take_note-2.ensures, c.copy_note-other_news.ensures.note, c.copy_note-other_news.ensures.same, c.look.ensures.same, c.take_note.ensures, c.copy_note-news.ensures.note, c.copy_note-news.ensures.same) refl in
    let told : AllOf S2 (λ l. IsPrefix l L2) (x ++ R2) = told_as _ S2 _ L2 _ (x ++ R2) sub_is log_is held_is c.confirm-2.ensures.confirmed.lists in
    let held : c.confirm-3.new.self.knows.held.logs ≡ both_tell S1 (L1 ++ e1 ∷ []) S2 (L2 ++ e2 ∷ []) begun R1 R2 = rw (c.confirm-3.ensures.receipt, c.take_note-6.ensures, c.copy_note-told-2.ensures.note, c.copy_note-call.ensures.same, c.take_note-5.ensures, c.copy_note-told.ensures.note, c.publish-2.ensures, c.confirm-2.ensures.same, c.take_note-4.ensures, c.copy_note-call.ensures.note, c.publish.ensures, c.confirm.ensures.same, c.take_note-3.ensures, c.begin-note.ensures.note, c.begin-note.ensures.call, c.look-2.ensures.same, c.take_note-2.ensures, c.copy_note-other_news.ensures.note, c.copy_note-other_news.ensures.same, c.look.ensures.same, c.take_note.ensures, c.copy_note-news.ensures.note, c.copy_note-news.ensures.same) refl in
    let log : c.copy_note-told-2.new.self.knows.log ≡ L1 ++ e1 ∷ [] = rw (c.copy_note-told-2.ensures.same, c.copy_note-call.ensures.same, c.publish.ensures, c.confirm.ensures.same, c.take_note-3.ensures, c.copy_note-news.ensures.same) refl in
    let first_sub : c.take_note-3.new.self.knows.sub ≡ S1 = rw (c.take_note-3.ensures, c.copy_note-news.ensures.same) refl in
    let first_log : c.take_note-3.new.self.knows.log ≡ L1 = rw (c.take_note-3.ensures, c.copy_note-news.ensures.same) refl in
    let first_held : c.take_note-3.new.self.knows.held.logs ≡ begun ++ R1 = rw (c.take_note-3.ensures, c.begin-note.ensures.note, c.look-2.ensures.same, c.take_note-2.ensures, c.copy_note-other_news.ensures.note, c.look.ensures.same, c.take_note.ensures, c.copy_note-news.ensures.note, c.copy_note-news.ensures.same) refl in
    let first_told : AllOf S1 (λ l. IsPrefix l L1) (begun ++ R1) = told_as _ S1 _ L1 _ (begun ++ R1) first_sub first_log first_held c.confirm.ensures.confirmed.lists in
    let n : ℕ = c.args.pass.now.knows.number in
    let k : ℕ = length c.args.pass.now.knows.calls in
    let none = rw (c.take_note-2.ensures, c.copy_note-other_news.ensures.note, c.look.ensures.same, c.take_note.ensures, c.copy_note-news.ensures.note) at c.look-2.ensures.knows.next in
    let is : is_call n k e1.mark ≡ true = ap (λ b. b && nat_eq c.calls-number.result k) (eq-eqb c.number-caller.result n c.number-caller.ensures) ∙ eq-eqb c.calls-number.result k c.calls-number.ensures in
    let apart : S2 ≢ S1 = λ e. goes_not_on n k L1 L2 e1 none.0 is (told.0 (sym e)) in
    ap (longest S1) held ∙ first_is_longest S1 S2 L1 L2 (L2 ++ e2 ∷ []) e1 rest R1 R2 apart first_told ∙ sym log

-- the lists that the pass held before stand last among those that it holds now
held_before : (j : ℕ) (all told-2 told other news before : List (ℕ × List Marked)) → all ≡ told-2 ++ (told ++ (other ++ (news ++ before))) → Agree all → IsPrefix (longest j before) (longest j all)
held_before j all told-2 told other news before is agree =
    let whole : AllBegin (λ i. longest i all) (told-2 ++ (told ++ (other ++ (news ++ before)))) = subst (AllBegin (λ i. longest i all)) is agree in
    begins_all j all before
    (begins_last (λ i. longest i all) news before
    (begins_last (λ i. longest i all) other (news ++ before)
    (begins_last (λ i. longest i all) told (other ++ (news ++ before))
    (begins_last (λ i. longest i all) told-2 (told ++ (other ++ (news ++ before))) whole))))

pub returns-clause-first_onward : goal.returns-clause-first_onward
returns-clause-first_onward c =
    let P : List (ℕ × List Marked) = c.args.pass.now.knows.held.logs in
    let all : List (ℕ × List Marked) = c.take_note-6.new.self.knows.held.logs in
    let is : all ≡ c.copy_note-told-2.result.lists.logs ++ (c.copy_note-told.result.lists.logs ++ (c.copy_note-other_news.result.lists.logs ++ (c.copy_note-news.result.lists.logs ++ P))) = rw (c.take_note-6.ensures, c.take_note-5.ensures, c.begin-note.ensures.call, c.look-2.ensures.same, c.take_note-2.ensures, c.look.ensures.same, c.take_note.ensures) refl in
    let now : c.confirm-3.new.self.knows.held.logs ≡ all = ap (λ s. s.knows.held.logs) c.confirm-3.ensures.receipt in
    subst (λ l. IsPrefix (longest c.args.first.now.knows.sub P) (longest c.args.first.now.knows.sub l)) (sym now)
    (held_before c.args.first.now.knows.sub all c.copy_note-told-2.result.lists.logs c.copy_note-told.result.lists.logs c.copy_note-other_news.result.lists.logs c.copy_note-news.result.lists.logs P is c.confirm-3.ensures.knows.agree)

pub returns-clause-second_onward : goal.returns-clause-second_onward
returns-clause-second_onward c =
    let P : List (ℕ × List Marked) = c.args.pass.now.knows.held.logs in
    let all : List (ℕ × List Marked) = c.take_note-6.new.self.knows.held.logs in
    let is : all ≡ c.copy_note-told-2.result.lists.logs ++ (c.copy_note-told.result.lists.logs ++ (c.copy_note-other_news.result.lists.logs ++ (c.copy_note-news.result.lists.logs ++ P))) = rw (c.take_note-6.ensures, c.take_note-5.ensures, c.begin-note.ensures.call, c.look-2.ensures.same, c.take_note-2.ensures, c.look.ensures.same, c.take_note.ensures) refl in
    let now : c.confirm-3.new.self.knows.held.logs ≡ all = ap (λ s. s.knows.held.logs) c.confirm-3.ensures.receipt in
    subst (λ l. IsPrefix (longest c.args.second.now.knows.sub P) (longest c.args.second.now.knows.sub l)) (sym now)
    (held_before c.args.second.now.knows.sub all c.copy_note-told-2.result.lists.logs c.copy_note-told.result.lists.logs c.copy_note-other_news.result.lists.logs c.copy_note-news.result.lists.logs P is c.confirm-3.ensures.knows.agree)
