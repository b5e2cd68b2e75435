use Rattle.std.proofs.Common.{◌≡◌, ◌∷◌, ◌++◌, [], List, ℕ, refl, ap}
use mathlib.Core.List.{IsPrefix}
use Rattle.floor_rule.specs.declared.rule.Marked.{Marked}
use Rattle.floor_rule.specs.Lists.{Agree, AllOf, longest}
use Rattle.floor_rule.specs.declared.rule.Lists.{Lists}
use Rattle.floor_rule.proofs.ListLemmas.{prefix_trans}
use Rattle.floor_rule.proofs.TellingLemmas.{holds_more, holds_then, told_as}
use Rattle.floor_rule.proofs.calling.own_call.Goals as goal

pub returns-clause-list : goal.returns-clause-list
returns-clause-list c =
    let S : ℕ = c.args.rec.now.knows.sub in
    let L : List Marked = c.args.rec.now.knows.log in
    let R : List (ℕ × List Marked) = c.args.rec.now.knows.held.logs in
    let P : List (ℕ × List Marked) = c.args.pass.now.knows.held.logs in
    let M : List (ℕ × List Marked) = ((S, L) ∷ R) ++ P in
    let e : Marked = record { entry = c.args.entry.now; mark = Rattle.floor_rule.specs.declared.entry.EntryMark.TheVariants.Called c.args.state c.args.hw c.number.result c.calls.result c.args.count } in
    let sub_is : c.take_note-2.new.self.knows.sub ≡ S = rw (c.take_note-2.ensures, c.copy_note-news.ensures.same) refl in
    let log_is : c.take_note-2.new.self.knows.log ≡ L = rw (c.take_note-2.ensures, c.copy_note-news.ensures.same) refl in
    let held_is : c.take_note-2.new.self.knows.held.logs ≡ M ++ R = rw (c.take_note-2.ensures, c.begin-note.ensures.note, c.look.ensures.same, c.take_note.ensures, c.copy_note-news.ensures.note, c.copy_note-news.ensures.same) refl in
    let told : AllOf S (λ l. IsPrefix l L) (M ++ R) = told_as _ S _ L _ (M ++ R) sub_is log_is held_is c.confirm.ensures.confirmed.lists in
    let mine = c.lists.ensures.some S L M R told in
    let all = c.lists.ensures.both S L (M ++ R) M told mine in
    rw (c.confirm-2.ensures.receipt, c.take_note-3.ensures, c.copy_note-news-2.ensures.note, c.copy_note-news-2.ensures.same, c.publish.ensures, c.confirm.ensures.same, c.take_note-2.ensures, c.begin-note.ensures.note, c.begin-note.ensures.call, c.look.ensures.same, c.take_note.ensures, c.copy_note-news.ensures.note, c.copy_note-news.ensures.same)
    (c.lists.ensures.whole S (L ++ e ∷ []) ((M ++ R) ++ M) (c.lists.ensures.grown S L (e ∷ []) ((M ++ R) ++ M) all))

pub returns-clause-onward : goal.returns-clause-onward
returns-clause-onward c =
    let S : ℕ = c.args.rec.now.knows.sub in
    let P : List (ℕ × List Marked) = c.args.pass.now.knows.held.logs in
    let before : List (ℕ × List Marked) = c.copy_note-news.result.lists.logs in
    let after : List (ℕ × List Marked) = c.copy_note-news-2.result.lists.logs in
    let agree : Agree (before ++ P) = rw (c.take_note.ensures) at c.look.ensures.knows.agree in
    let agree' : Agree (after ++ (before ++ P)) = rw (c.take_note-3.ensures, c.begin-note.ensures.call, c.look.ensures.same, c.take_note.ensures) at c.confirm-2.ensures.knows.agree in
    rw (c.confirm-2.ensures.receipt, c.take_note-3.ensures, c.begin-note.ensures.call, c.look.ensures.same, c.take_note.ensures)
    (prefix_trans (longest S P) (longest S (before ++ P)) (longest S (after ++ (before ++ P))) (c.lists.ensures.onward S before P agree) (c.lists.ensures.onward S after (before ++ P) agree'))

pub returns-clause-held : goal.returns-clause-held
returns-clause-held c =
    let R : Lists = c.args.rec.now.knows.held in
    let P : Lists = c.args.pass.now.knows.held in
    let M : Lists = c.take_note.new.self.knows.held in
    let rec_logs : c.copy_note-news-2.new.self.knows.held.logs ≡ c.begin-note.result.lists.logs ++ R.logs = rw (c.copy_note-news-2.ensures.same, c.publish.ensures, c.confirm.ensures.same, c.take_note-2.ensures, c.copy_note-news.ensures.same) refl in
    let rec_calls : c.copy_note-news-2.new.self.knows.held.calls ≡ c.begin-note.result.lists.calls ++ R.calls = rw (c.copy_note-news-2.ensures.same, c.publish.ensures, c.confirm.ensures.same, c.take_note-2.ensures, c.copy_note-news.ensures.same) refl in
    let first_logs : M.logs ≡ c.copy_note-news.result.lists.logs ++ P.logs = ap (λ s. s.knows.held.logs) c.take_note.ensures in
    let first_calls : M.calls ≡ c.copy_note-news.result.lists.calls ++ P.calls = ap (λ s. s.knows.held.calls) c.take_note.ensures in
    let pass_logs : c.confirm-2.new.self.knows.held.logs ≡ c.copy_note-news-2.result.lists.logs ++ M.logs = rw (c.confirm-2.ensures.receipt, c.take_note-3.ensures, c.begin-note.ensures.call, c.look.ensures.same) refl in
    let pass_calls : c.confirm-2.new.self.knows.held.calls ≡ c.copy_note-news-2.result.lists.calls ++ M.calls = rw (c.confirm-2.ensures.receipt, c.take_note-3.ensures, c.begin-note.ensures.call, c.look.ensures.same) refl in (
      holds_more R c.copy_note-news-2.new.self.knows.held c.begin-note.result.lists.logs c.begin-note.result.lists.calls rec_logs rec_calls,
      holds_then P M c.confirm-2.new.self.knows.held
          (holds_more P M c.copy_note-news.result.lists.logs c.copy_note-news.result.lists.calls first_logs first_calls)
          (holds_more M c.confirm-2.new.self.knows.held c.copy_note-news-2.result.lists.logs c.copy_note-news-2.result.lists.calls pass_logs pass_calls),
    )
