-- The steps of a pass keep the rule: it reads a page or a place, looks at its calls, begins a call, and has a receipt.
use Rattle.std.proofs.Common.{◌≡◌, ◌≢◌, ℕ, ◌+◌, ◌<◌, true, [], ◌∷◌, ◌++◌, length, set, refl, sym, ap, ◌∙◌, subst, arith, length-append, lit<}
use Rattle.std.specs.Prelude.{slice_index}
use mathlib.Core.List.{IsPrefix}
use mathlib.Core.Option.{some, none}
use lib.ListN.{get_elem?}
use Rattle.std.proofs.lemmas.List.{set-get_or}
use Rattle.atomic_table.specs.Table.{State, Me, Allows, Splits, step, keeps}
use Rattle.floor_rule.specs.declared.rule.Made.{Made}
use Rattle.floor_rule.specs.declared.rule.Marked.{Marked}
use Rattle.floor_rule.specs.declared.rule.PassKnows.{PassKnows}
use Rattle.floor_rule.specs.declared.rule.Reading.{Reading}
use Rattle.floor_rule.specs.declared.rule.View.{View}
use Rattle.floor_rule.specs.declared.rule.View.TheVariants.{Maker, Rec, Pass, Note, Spent}
use Rattle.floor_rule.specs.Lists.{Stands}
use Rattle.floor_rule.specs.Marks.{is_call}
use Rattle.floor_rule.specs.Pages.{IsPageOf, closed, shown_at}
use Rattle.floor_rule.specs.Rule.{CardWords, Fits, KeptBy, Kept, PassFits, Whole}
use Rattle.floor_rule.specs.Steps.{IsLookedAt, IsPageRead, IsPassConfirmed, IsPlaceRead, KnowsOwn, call_note, one_call_more, told_by_pass, with_call, with_page, with_receipt}
use Rattle.floor_rule.proofs.ListLemmas.{agrees, grows_at, grows_same, prefix_refl, stands_in, upd, upd_other, upd_same}
use Rattle.floor_rule.proofs.LogLemmas.{all_backed_on, all_own, holds_on, none_above, none_beyond, none_has, none_longer, reads_both, reads_push, received_push, shown_at-low}
use Rattle.floor_rule.proofs.SeatLemmas.{all_there_new, all_there_set, fits_new, fits_set, pass_keeps}

-- what a pass knows of its own calls follows from the rule
knows_own : (cards : ℕ) (s : State (Unit {0}) View) (w : Whole) (k : KeptBy cards s w) (id : ℕ) (p : PassKnows) → PassFits w.logs w.calls w.passes w.pass_seats id p → KnowsOwn p
knows_own cards s w k id p f =
    let own = all_own w.logs w.calls p.number p.calls f.calls k.backed p.held.logs f.held.logs in
    record { own = own; next = none_has p.number p.calls p.held.logs own; agree = agrees w.logs p.held.logs f.held.logs }

-- a pass reads a page word

reads_page : (cards slots id : ℕ) (p : PassKnows) (sub : ℕ) → sub < cards → Allows (Kept cards) slots id (Pass p, []) sub (λ n. n) (IsPageRead (step slots sub 0 0 none) (Pass p, []))
reads_page cards slots id p sub sub_in s h homes at fits =
    let w = h.1.0 in
    let k = h.1.1 in
    let mine = k.views id (Pass p) at in
    let c = k.words sub sub_in in
    let found = slice_index s.words sub in
    let count = length (w.logs sub) in
    let seen : Reading = record { sub = sub; count = count; word = found } in
    let same : set s.words sub found ≡ s.words = set-get_or s.words sub 0 in
    let is_page : IsPageOf (w.logs sub) seen = (omega arith, c.page) in
    let now = Pass (with_page p sub count found) in (
      now,
      keeps,
      tt,
      (
        h.0,
        (
          w,
          record {
            count = ap length same ∙ k.count;
            recs = k.recs;
            words = λ j lt. subst (λ ws. CardWords cards ws w.logs w.places w.recs j) (sym same) (k.words j lt);
            backed = k.backed;
            once = k.once;
            quiet = k.quiet;
            beyond = k.beyond;
            views = fits_set w s.views id now (λ j u apart e. k.views j u e)
                (record {
                  made = mine.made;
                  seat = mine.seat;
                  calls = mine.calls;
                  received = mine.received;
                  few = mine.few;
                  one = mine.one;
                  reads = reads_push w.logs p.reads seen mine.reads is_page;
                  held = mine.held;
                });
            there = all_there_set w s.views id (Pass p) now at (pass_keeps p (with_page p sub count found) refl) k.there;
          },
        ),
      ),
      (
        count,
        shown_at closed (w.logs sub) count,
        record {
          word_is = c.page;
          short = c.short;
          low = shown_at-low closed (w.logs sub) count (lit< tt) c.low;
          reads = none_above w.logs sub p.reads mine.reads;
          told = none_above w.logs sub p.held.reads mine.held.reads;
          receipts = none_beyond w.logs p.number 0 sub p.receipts mine.received;
          lists = none_longer w.logs sub p.held.logs mine.held.logs;
        },
        refl,
      ),
    )

-- the rule where a word is read, and no view changes
stays : (cards : ℕ) (s : State (Unit {0}) View) (word id : ℕ) (p : PassKnows) → Kept cards s → get_elem? s.views id ≡ some (Pass p) → Kept cards record { words = set s.words word (slice_index s.words word); homes = s.homes; views = set s.views id (Pass p) }
stays cards s word id p h at =
    let w = h.1.0 in
    let k = h.1.1 in
    let same : set s.words word (slice_index s.words word) ≡ s.words = set-get_or s.words word 0 in (
      h.0,
      (
        w,
        record {
          count = ap length same ∙ k.count;
          recs = k.recs;
          words = λ j lt. subst (λ ws. CardWords cards ws w.logs w.places w.recs j) (sym same) (k.words j lt);
          backed = k.backed;
          once = k.once;
          quiet = k.quiet;
          beyond = k.beyond;
          views = fits_set w s.views id (Pass p) (λ j u apart e. k.views j u e) (k.views id (Pass p) at);
          there = all_there_set w s.views id (Pass p) (Pass p) at (λ o owns. owns) k.there;
        },
      ),
    )

reads_place : (cards slots id : ℕ) (p : PassKnows) (sub : ℕ) → sub < cards → Allows (Kept cards) slots id (Pass p, []) (cards + sub) (λ n. n) (IsPlaceRead (step slots (cards + sub) 0 0 none) (Pass p, []))
reads_place cards slots id p sub sub_in s h homes at fits =
    let c = h.1.1.words sub sub_in in
    (Pass p, keeps, tt, stays cards s (cards + sub) id p h at, (subst (λ n. n < 32) (sym c.place) c.below, refl))

looks : (cards slots id : ℕ) (p : PassKnows) (word : ℕ) → Allows (Kept cards) slots id (Pass p, []) word (λ n. n) (IsLookedAt (step slots word 0 0 none) (Pass p, []))
looks cards slots id p word s h homes at fits =
    (Pass p, keeps, tt, stays cards s word id p h at, (knows_own cards s h.1.0 h.1.1 id p (h.1.1.views id (Pass p) at), refl))

-- a pass begins a call

abbrev begun : Whole → ℕ → Made → Whole
begun w number c = record w { calls = upd w.calls number (w.calls number ++ c ∷ []) }

begun_other : (w : Whole) (id number : ℕ) (c : Made) (j : ℕ) (u : View) → id ≡ w.pass_seats number → j ≢ id → Fits w j u → Fits (begun w number c) j u
begun_other w id number c j (Maker m) mine apart f = f
begun_other w id number c j (Rec r) mine apart f = record {
  made = f.made;
  seat = f.seat;
  log = f.log;
  place = f.place;
  held = holds_on w.logs w.logs w.calls (begun w number c).calls (grows_same w.logs) (grows_at w.calls number c) r.held f.held;
}
begun_other w id number c j (Pass p) mine apart f = record {
  made = f.made;
  seat = f.seat;
  calls = f.calls ∙ sym (upd_other w.calls number (w.calls number ++ c ∷ []) p.number (λ same. apart (f.seat ∙ ap w.pass_seats same ∙ sym mine)));
  received = f.received;
  few = f.few;
  one = f.one;
  reads = f.reads;
  held = holds_on w.logs w.logs w.calls (begun w number c).calls (grows_same w.logs) (grows_at w.calls number c) p.held f.held;
}
begun_other w id number c j (Note l) mine apart f = holds_on w.logs w.logs w.calls (begun w number c).calls (grows_same w.logs) (grows_at w.calls number c) l f
begun_other w id number c j Spent mine apart f = f

begins : (cards id : ℕ) (p : PassKnows) (c : Made) → length p.calls ≡ length p.receipts → Splits (Kept cards) id (Pass p) (Pass (with_call p c)) (Note (told_by_pass (with_call p c)))
begins cards id p c even s h at =
    let w = h.1.0 in
    let k = h.1.1 in
    let mine = k.views id (Pass p) at in
    let number = p.number in
    let v = begun w number c in
    let more = grows_at w.calls number c in
    let whole = w.calls number ++ c ∷ [] in
    let now : p.calls ++ c ∷ [] ≡ v.calls number = ap (λ l. l ++ c ∷ []) mine.calls ∙ sym (upd_same w.calls number whole number refl) in
    let held = holds_on w.logs w.logs w.calls v.calls (grows_same w.logs) more p.held mine.held in
    let left = Pass (with_call p c) in
    let right = Note (told_by_pass (with_call p c)) in (
      h.0,
      (
        v,
        record {
          count = k.count;
          recs = k.recs;
          words = k.words;
          backed = λ j. all_backed_on w.logs w.logs w.calls v.calls (grows_same w.logs) more j (w.logs j) (k.backed j);
          once = k.once;
          quiet = λ n le. upd_other w.calls number whole n (λ e. omega (arith, mine.made, e, le)) ∙ k.quiet n le;
          beyond = k.beyond;
          views = fits_new v s.views id left right
              (λ j u apart at'. begun_other w id number c j u mine.seat apart (k.views j u at'))
              (record {
                made = mine.made;
                seat = mine.seat;
                calls = now;
                received = mine.received;
                few = omega (arith, mine.few, length-append p.calls (c ∷ []));
                one = omega (arith, even, length-append p.calls (c ∷ []));
                reads = mine.reads;
                held = held;
              })
              (record { logs = held.logs; calls = (subst (IsPrefix (p.calls ++ c ∷ [])) now (prefix_refl (p.calls ++ c ∷ [])), held.calls); reads = reads_both w.logs p.reads p.held.reads mine.reads held.reads });
          there = all_there_new v (set s.views id left) right (all_there_set v s.views id (Pass p) left at (pass_keeps p (with_call p c) refl) k.there);
        },
      ),
    )

-- the last call has its receipt

confirms : (cards slots id : ℕ) (p : PassKnows) (r : ℕ × ℕ) (e : Marked) (word : ℕ) → length p.receipts < length p.calls → Stands p.held.logs r.0 r.1 e → is_call p.number (length p.receipts) e.mark ≡ true
    → Allows (Kept cards) slots id (Pass p, []) word (λ n. n) (IsPassConfirmed r (step slots word 0 0 none) (Pass p, []))
confirms cards slots id p r e word open_call stands is s h homes at fits =
    let w = h.1.0 in
    let k = h.1.1 in
    let mine = k.views id (Pass p) at in
    let same : set s.words word (slice_index s.words word) ≡ s.words = set-get_or s.words word 0 in
    let now = Pass (with_receipt p r) in
    let one_more : length (p.receipts ++ r ∷ []) ≡ length p.receipts + 1 = length-append p.receipts (r ∷ []) in (
      now,
      keeps,
      tt,
      (
        h.0,
        (
          w,
          record {
            count = ap length same ∙ k.count;
            recs = k.recs;
            words = λ j lt. subst (λ ws. CardWords cards ws w.logs w.places w.recs j) (sym same) (k.words j lt);
            backed = k.backed;
            once = k.once;
            quiet = k.quiet;
            beyond = k.beyond;
            views = fits_set w s.views id now (λ j u apart at'. k.views j u at')
                (record {
                  made = mine.made;
                  seat = mine.seat;
                  calls = mine.calls;
                  received = received_push w.logs p.number 0 p.receipts r e mine.received (stands_in w.logs p.held.logs r.0 r.1 e mine.held.logs stands) (subst (λ n. is_call p.number n e.mark ≡ true) (omega arith) is);
                  few = omega (arith, one_more, open_call);
                  one = omega (arith, one_more, mine.one);
                  reads = mine.reads;
                  held = mine.held;
                });
            there = all_there_set w s.views id (Pass p) now at (pass_keeps p (with_receipt p r) refl) k.there;
          },
        ),
      ),
      (knows_own cards s w k id p mine, refl),
    )

-- the steps at a seat whose view is known

pub reads_page_as : (key cards slots id : ℕ) (me : Me (Unit {0}) View) (p : PassKnows) (sub : ℕ) → key ≡ cards → me ≡ (Pass p, []) → sub < cards
    → Allows (Kept key) slots id me sub (λ n. n) (IsPageRead (step slots sub 0 0 none) me)
reads_page_as key cards slots id me p sub same is lt =
    subst (λ (m : Me (Unit {0}) View). Allows (Kept key) slots id m sub (λ n. n) (IsPageRead (step slots sub 0 0 none) m)) (sym is) (reads_page key slots id p sub (subst (λ n. sub < n) (sym same) lt))

pub reads_place_as : (key cards slots id : ℕ) (me : Me (Unit {0}) View) (p : PassKnows) (sub word : ℕ) → key ≡ cards → me ≡ (Pass p, []) → word ≡ cards + sub → sub < cards
    → Allows (Kept key) slots id me word (λ n. n) (IsPlaceRead (step slots word 0 0 none) me)
reads_place_as key cards slots id me p sub word same is at lt =
    subst (λ (k : ℕ). Allows (Kept k) slots id me word (λ n. n) (IsPlaceRead (step slots word 0 0 none) me)) (sym same)
    (subst (λ (i : ℕ). Allows (Kept cards) slots id me i (λ n. n) (IsPlaceRead (step slots i 0 0 none) me)) (sym at)
    (subst (λ (m : Me (Unit {0}) View). Allows (Kept cards) slots id m (cards + sub) (λ n. n) (IsPlaceRead (step slots (cards + sub) 0 0 none) m)) (sym is) (reads_place cards slots id p sub lt)))

pub looks_as : (key slots id : ℕ) (me : Me (Unit {0}) View) (p : PassKnows) (word : ℕ) → me ≡ (Pass p, []) → Allows (Kept key) slots id me word (λ n. n) (IsLookedAt (step slots word 0 0 none) me)
looks_as key slots id me p word is = subst (λ (m : Me (Unit {0}) View). Allows (Kept key) slots id m word (λ n. n) (IsLookedAt (step slots word 0 0 none) m)) (sym is) (looks key slots id p word)

pub begins_as : (key id : ℕ) (v : View) (p : PassKnows) (c : Made) → v ≡ Pass p → length p.calls ≡ length p.receipts → Splits (Kept key) id v (one_call_more v c) (call_note v c)
begins_as key id v p c is even = subst (λ (u : View). Splits (Kept key) id u (one_call_more u c) (call_note u c)) (sym is) (begins key id p c even)

pub confirms_as : (key slots id : ℕ) (me : Me (Unit {0}) View) (p : PassKnows) (r q : ℕ × ℕ) (e : Marked) (word : ℕ) → me ≡ (Pass p, []) → r ≡ q → length p.receipts < length p.calls → Stands p.held.logs q.0 q.1 e → is_call p.number (length p.receipts) e.mark ≡ true
    → Allows (Kept key) slots id me word (λ n. n) (IsPassConfirmed r (step slots word 0 0 none) me)
confirms_as key slots id me p r q e word is same open_call stands call =
    subst (λ (m : Me (Unit {0}) View). Allows (Kept key) slots id m word (λ n. n) (IsPassConfirmed r (step slots word 0 0 none) m)) (sym is)
    (subst (λ (x : ℕ × ℕ). Allows (Kept key) slots id (Pass p, []) word (λ n. n) (IsPassConfirmed x (step slots word 0 0 none) (Pass p, []))) (sym same) (confirms key slots id p q e word open_call stands call))
