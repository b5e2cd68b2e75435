-- The steps of a rec keep the rule: it moves, its log gains an entry, and what it was told is confirmed.
use Rattle.std.proofs.Common.{◌≡◌, ◌≢◌, ℕ, ◌+◌, ◌<◌, ◌≤◌, ◌^◌, true, List, [], ◌∷◌, ◌++◌, length, set, get_or, refl, sym, ap, ◌∙◌, subst, arith, length-append}
use Rattle.std.specs.Prelude.{slice_index}
use mathlib.Core.Logic.{dite}
use mathlib.Core.List.{IsPrefix}
use native.Mathlib.Decide.{ℕ_discrete}
use mathlib.Core.Option.{none}
use Rattle.std.proofs.lemmas.List.{length-set, get_or-set_same, get_or-set_other, set-get_or}
use Rattle.atomic_table.specs.Table.{Me, Allows, step, keeps}
use Rattle.floor_rule.specs.declared.rule.Marked.{Marked}
use Rattle.floor_rule.specs.declared.rule.RecKnows.{RecKnows}
use Rattle.floor_rule.specs.declared.rule.View.{View}
use Rattle.floor_rule.specs.declared.rule.View.TheVariants.{Maker, Rec, Pass, Note, Spent}
use Rattle.floor_rule.specs.Causes.{At, AllBacked, IsBacked}
use Rattle.floor_rule.specs.Lists.{AllOf, Stands}
use Rattle.floor_rule.specs.Marks.{IsOnce, is_new, shown_of}
use Rattle.floor_rule.specs.Pages.{AllLow, AllReadOf, pack_at, page_word}
use Rattle.floor_rule.specs.Rule.{CardWords, Fits, Holds, Kept, Whole}
use Rattle.floor_rule.specs.Steps.{IsPlaced, IsPublished, IsRecConfirmed, MayEnter, with_entry}
use Rattle.floor_rule.proofs.ListLemmas.{begins_of, grows_at, grows_same, prefix_get, prefix_refl, stands_in, upd, upd_other, upd_same}
use Rattle.floor_rule.proofs.LogLemmas.{all_backed_on, backed_by, backed_push, holds_on, low_push, once_push, pack_last, reads_of, reads_on, received_on}
use Rattle.floor_rule.proofs.SeatLemmas.{all_there_set, fits_set, rec_keeps}

-- another rec's seat is another rec
other_rec : (w : Whole) (id sub j other : ℕ) → id ≡ w.rec_seats sub → j ≢ id → j ≡ w.rec_seats other → other ≢ sub
other_rec w id sub j other mine apart theirs same = apart (theirs ∙ ap w.rec_seats same ∙ sym mine)

-- a rec moves

abbrev moved : Whole → ℕ → ℕ → Whole
moved w sub p = record w { places = upd w.places sub p }

moved_words : (cards : ℕ) (words : List ℕ) (w : Whole) (sub p j : ℕ) → length words ≡ cards + cards → sub < cards → sub < w.recs → j < cards → p < 32
    → CardWords cards words w.logs w.places w.recs j → CardWords cards (set words (cards + sub) p) w.logs (upd w.places sub p) w.recs j
moved_words cards words w sub p j len sub_in sub_made lt below c =
    let page : get_or (set words (cards + sub) p) j 0 ≡ get_or words j 0 = get_or-set_other words (cards + sub) j p 0 (λ e. omega arith) in
    dite (ℕ_discrete j sub)
    (λ e.
    let same : get_or (set words (cards + sub) p) (cards + j) 0 ≡ p = ap (λ n. get_or (set words (cards + sub) p) (cards + n) 0) e ∙ get_or-set_same words (cards + sub) p 0 (omega arith) in
    let to : upd w.places sub p j ≡ p = upd_same w.places sub p j e in
    record { page = page ∙ c.page; place = same ∙ sym to; below = omega arith; low = c.low; short = c.short; fresh = λ h. absurd (omega arith) })
    (λ ne.
    let to : upd w.places sub p j ≡ w.places j = upd_other w.places sub p j ne in
    record {
      page = page ∙ c.page;
      place = get_or-set_other words (cards + sub) (cards + j) p 0 (λ e. ne (omega arith)) ∙ c.place ∙ sym to;
      below = subst (λ n. n < 32) (sym to) c.below;
      low = c.low;
      short = c.short;
      fresh = λ h. ((c.fresh h).0, to ∙ (c.fresh h).1);
    })

moved_other : (w : Whole) (id sub p j : ℕ) (u : View) → id ≡ w.rec_seats sub → j ≢ id → Fits w j u → Fits (moved w sub p) j u
moved_other w id sub p j (Maker m) mine apart f = f
moved_other w id sub p j (Rec r) mine apart f = record {
  made = f.made;
  seat = f.seat;
  log = f.log;
  place = f.place ∙ sym (upd_other w.places sub p r.sub (other_rec w id sub j r.sub mine apart f.seat));
  held = f.held;
}
moved_other w id sub p j (Pass q) mine apart f = f
moved_other w id sub p j (Note l) mine apart f = f
moved_other w id sub p j Spent mine apart f = f

places : (cards slots id : ℕ) (r : RecKnows) (p : ℕ) → p < 32 → Allows (Kept cards) slots id (Rec r, []) (cards + r.sub) (λ _. p) (λ _. IsPlaced (step slots (cards + r.sub) p 0 none) (Rec r, []) p)
places cards slots id r p below s h homes at fits =
    let w = h.1.0 in
    let k = h.1.1 in
    let mine = k.views id (Rec r) at in
    let now = Rec (record r { place = p }) in
    let sub_in : r.sub < cards = omega (arith, mine.made, k.recs) in (
      now,
      keeps,
      tt,
      (
        h.0,
        (
          moved w r.sub p,
          record {
            count = length-set s.words (cards + r.sub) p ∙ k.count;
            recs = k.recs;
            words = λ j lt. moved_words cards s.words w r.sub p j k.count sub_in mine.made lt below (k.words j lt);
            backed = k.backed;
            once = k.once;
            quiet = k.quiet;
            beyond = k.beyond;
            views = fits_set (moved w r.sub p) s.views id now (λ j u apart e. moved_other w id r.sub p j u mine.seat apart (k.views j u e))
                (record { made = mine.made; seat = mine.seat; log = mine.log; place = sym (upd_same w.places r.sub p r.sub refl); held = mine.held });
            there = all_there_set w s.views id (Rec r) now at (rec_keeps r (record r { place = p }) refl) k.there;
          },
        ),
      ),
      refl,
    )

-- a rec's log gains an entry

abbrev published : Whole → ℕ → Marked → Whole
published w sub e = record w { logs = upd w.logs sub (w.logs sub ++ e ∷ []) }

published_words : (cards : ℕ) (words : List ℕ) (w : Whole) (sub : ℕ) (e : Marked) (new j : ℕ) → length words ≡ cards + cards → sub < cards → sub < w.recs → j < cards
    → (shown_of e.mark).hw < 2 ^ 36 → length (w.logs sub) < 16777215 → new ≡ page_word (length (w.logs sub) + 1) (shown_of e.mark)
    → CardWords cards words w.logs w.places w.recs j → CardWords cards (set words sub new) (upd w.logs sub (w.logs sub ++ e ∷ [])) w.places w.recs j
published_words cards words w sub e new j len sub_in sub_made lt low room is c =
    let place : get_or (set words sub new) (cards + j) 0 ≡ get_or words (cards + j) 0 = get_or-set_other words sub (cards + j) new 0 (λ h. omega arith) in
    let log = w.logs sub ++ e ∷ [] in
    let long : length log ≡ length (w.logs sub) + 1 = omega (arith, length-append (w.logs sub) (e ∷ [])) in
    dite (ℕ_discrete j sub)
    (λ same.
    let to : upd w.logs sub log j ≡ log = upd_same w.logs sub log j same in
    let here : get_or (set words sub new) j 0 ≡ new = ap (λ n. get_or (set words sub new) n 0) same ∙ get_or-set_same words sub new 0 (omega arith) in
    record {
      page = here ∙ is ∙ sym (pack_last (w.logs sub) e) ∙ ap (λ l. pack_at l (length l)) (sym to);
      place = place ∙ c.place;
      below = c.below;
      low = subst AllLow (sym to) (low_push (w.logs sub) e (subst (λ n. AllLow (w.logs n)) same c.low) low);
      short = subst (λ l. length l ≤ 16777215) (sym to) (omega (arith, long, room));
      fresh = λ h. absurd (omega arith);
    })
    (λ ne.
    let to : upd w.logs sub log j ≡ w.logs j = upd_other w.logs sub log j ne in
    record {
      page = get_or-set_other words sub j new 0 ne ∙ c.page ∙ ap (λ l. pack_at l (length l)) (sym to);
      place = place ∙ c.place;
      below = c.below;
      low = subst AllLow (sym to) c.low;
      short = subst (λ l. length l ≤ 16777215) (sym to) c.short;
      fresh = λ h. (to ∙ (c.fresh h).0, (c.fresh h).1);
    })

published_other : (w : Whole) (id sub : ℕ) (e : Marked) (j : ℕ) (u : View) → id ≡ w.rec_seats sub → j ≢ id → Fits w j u → Fits (published w sub e) j u
published_other w id sub e j (Maker m) mine apart f = f
published_other w id sub e j (Rec r) mine apart f = record {
  made = f.made;
  seat = f.seat;
  log = f.log ∙ sym (upd_other w.logs sub (w.logs sub ++ e ∷ []) r.sub (other_rec w id sub j r.sub mine apart f.seat));
  place = f.place;
  held = holds_on w.logs (published w sub e).logs w.calls w.calls (grows_at w.logs sub e) (grows_same w.calls) r.held f.held;
}
published_other w id sub e j (Pass p) mine apart f = record {
  made = f.made;
  seat = f.seat;
  calls = f.calls;
  received = received_on w.logs (published w sub e).logs (grows_at w.logs sub e) p.number 0 p.receipts f.received;
  few = f.few;
  one = f.one;
  reads = reads_on w.logs (published w sub e).logs (grows_at w.logs sub e) p.reads f.reads;
  held = holds_on w.logs (published w sub e).logs w.calls w.calls (grows_at w.logs sub e) (grows_same w.calls) p.held f.held;
}
published_other w id sub e j (Note l) mine apart f = holds_on w.logs (published w sub e).logs w.calls w.calls (grows_at w.logs sub e) (grows_same w.calls) l f
published_other w id sub e j Spent mine apart f = f

-- the entry's call or cause stands in the whole
entry_backed : (w : Whole) (r : RecKnows) (e : Marked) → r.log ≡ w.logs r.sub → Holds w.logs w.calls r.held → MayEnter r e → IsBacked (At w.logs) (At w.calls) r.sub e.entry e.mark
entry_backed w r e log held may =
    let own : IsPrefix r.log (w.logs r.sub) = subst (IsPrefix r.log) log (prefix_refl r.log) in
    backed_by (Stands ((r.sub, r.log) ∷ r.held.logs)) (At w.logs) (Stands r.held.calls) (At w.calls)
    (λ j i c s. stands_in w.logs ((r.sub, r.log) ∷ r.held.logs) j i c (own, held.logs) s)
    (λ p n c s. stands_in w.calls r.held.calls p n c held.calls s)
    r.sub e.entry e.mark may

publishes : (cards slots id : ℕ) (r : RecKnows) (e : Marked) (new : ℕ) → length r.log < 16777215 → (shown_of e.mark).hw < 2 ^ 36 → is_new e.mark r.log ≡ true → MayEnter r e → new ≡ page_word (length r.log + 1) (shown_of e.mark)
    → Allows (Kept cards) slots id (Rec r, []) r.sub (λ _. new) (λ _. IsPublished e (step slots r.sub new 0 none) (Rec r, []) new)
publishes cards slots id r e new room low fresh may is s h homes at fits =
    let w = h.1.0 in
    let k = h.1.1 in
    let mine = k.views id (Rec r) at in
    let sub = r.sub in
    let v = published w sub e in
    let more = grows_at w.logs sub e in
    let whole = w.logs sub ++ e ∷ [] in
    let now = Rec (with_entry r e) in
    let sub_in : sub < cards = omega (arith, mine.made, k.recs) in
    let room' : length (w.logs sub) < 16777215 = subst (λ l. length l < 16777215) mine.log room in
    let is' : new ≡ page_word (length (w.logs sub) + 1) (shown_of e.mark) = is ∙ ap (λ l. page_word (length l + 1) (shown_of e.mark)) mine.log in
    let backed : IsBacked (At v.logs) (At v.calls) sub e.entry e.mark =
    backed_by (At w.logs) (At v.logs) (At w.calls) (At w.calls) (λ j i c a. at_grown w sub e j i c a) (λ p n c a. a) sub e.entry e.mark (entry_backed w r e mine.log mine.held may) in (
      now,
      keeps,
      tt,
      (
        h.0,
        (
          v,
          record {
            count = length-set s.words sub new ∙ k.count;
            recs = k.recs;
            words = λ j lt. published_words cards s.words w sub e new j k.count sub_in mine.made lt low room' is' (k.words j lt);
            backed = λ j. dite (ℕ_discrete j sub)
                (λ same. subst (λ l. AllBacked v.logs v.calls j l) (sym (upd_same w.logs sub whole j same))
                (subst (λ i. AllBacked v.logs v.calls i whole) (sym same) (backed_push v.logs v.calls sub (w.logs sub) e (all_backed_on w.logs v.logs w.calls w.calls more (grows_same w.calls) sub (w.logs sub) (k.backed sub)) backed)))
                (λ ne. subst (λ l. AllBacked v.logs v.calls j l) (sym (upd_other w.logs sub whole j ne)) (all_backed_on w.logs v.logs w.calls w.calls more (grows_same w.calls) j (w.logs j) (k.backed j)));
            once = λ j. dite (ℕ_discrete j sub)
                (λ same. subst (IsOnce []) (sym (upd_same w.logs sub whole j same)) (once_push [] (w.logs sub) e (k.once sub) (subst (λ l. is_new e.mark l ≡ true) mine.log fresh)))
                (λ ne. subst (IsOnce []) (sym (upd_other w.logs sub whole j ne)) (k.once j));
            quiet = k.quiet;
            beyond = λ j le. upd_other w.logs sub whole j (λ same. omega (arith, same, sub_in, le)) ∙ k.beyond j le;
            views = fits_set v s.views id now (λ j u apart at'. published_other w id sub e j u mine.seat apart (k.views j u at'))
                (record {
                  made = mine.made;
                  seat = mine.seat;
                  log = ap (λ l. l ++ e ∷ []) mine.log ∙ sym (upd_same w.logs sub whole sub refl);
                  place = mine.place;
                  held = holds_on w.logs v.logs w.calls w.calls more (grows_same w.calls) r.held mine.held;
                });
            there = all_there_set w s.views id (Rec r) now at (rec_keeps r (with_entry r e) refl) k.there;
          },
        ),
      ),
      refl,
    )
  where
    at_grown : (w : Whole) (sub : ℕ) (e : Marked) (j i : ℕ) (c : Marked) → At w.logs j i c → At (published w sub e).logs j i c
    at_grown w sub e j i c a = prefix_get (w.logs j) ((published w sub e).logs j) i c (grows_at w.logs sub e j) a

-- what a rec was told is confirmed

confirms : (cards slots id : ℕ) (r : RecKnows) → Allows (Kept cards) slots id (Rec r, []) r.sub (λ n. n) (λ n after. IsRecConfirmed (step slots r.sub 0 0 none) (Rec r, []) n after)
confirms cards slots id r s h homes at fits =
    let w = h.1.0 in
    let k = h.1.1 in
    let mine = k.views id (Rec r) at in
    let sub_in : r.sub < cards = omega (arith, mine.made, k.recs) in
    let c = k.words r.sub sub_in in
    let found = slice_index s.words r.sub in
    let same : set s.words r.sub found ≡ s.words = set-get_or s.words r.sub 0 in
    let whole : w.logs r.sub ≡ r.log = sym mine.log in (
      Rec r,
      keeps,
      tt,
      (
        h.0,
        (
          w,
          record {
            count = ap length same ∙ k.count;
            recs = k.recs;
            words = λ j lt. subst (λ ws. CardWords cards ws w.logs w.places w.recs j) (sym same) (k.words j lt);
            backed = k.backed;
            once = k.once;
            quiet = k.quiet;
            beyond = k.beyond;
            views = fits_set w s.views id (Rec r) (λ j u apart e. k.views j u e) mine;
            there = all_there_set w s.views id (Rec r) (Rec r) at (λ o owns. owns) k.there;
          },
        ),
      ),
      (
        record {
          lists = subst (λ (l : List Marked). AllOf r.sub (λ log. IsPrefix log l) r.held.logs) whole (begins_of w.logs r.sub r.held.logs mine.held.logs);
          reads = subst (λ (l : List Marked). AllReadOf r.sub l r.held.reads) whole (reads_of w.logs r.sub r.held.reads mine.held.reads);
          once = subst (IsOnce []) whole (k.once r.sub);
          short = subst (λ (l : List Marked). length l ≤ 16777215) whole c.short;
        },
        refl,
      ),
    )

-- the steps at a seat whose view is known

pub places_as : (key cards slots id : ℕ) (me : Me (Unit {0}) View) (r : RecKnows) (word p : ℕ) → key ≡ cards → me ≡ (Rec r, []) → word ≡ cards + r.sub → p < 32
    → Allows (Kept key) slots id me word (λ _. p) (λ _. IsPlaced (step slots word p 0 none) me p)
places_as key cards slots id me r word p same is at low =
    subst (λ (k : ℕ). Allows (Kept k) slots id me word (λ _. p) (λ _. IsPlaced (step slots word p 0 none) me p)) (sym same)
    (subst (λ (i : ℕ). Allows (Kept cards) slots id me i (λ _. p) (λ _. IsPlaced (step slots i p 0 none) me p)) (sym at)
    (subst (λ (m : Me (Unit {0}) View). Allows (Kept cards) slots id m (cards + r.sub) (λ _. p) (λ _. IsPlaced (step slots (cards + r.sub) p 0 none) m p)) (sym is) (places cards slots id r p low)))

pub publishes_as : (key slots id : ℕ) (me : Me (Unit {0}) View) (r : RecKnows) (e : Marked) (word new : ℕ) → me ≡ (Rec r, []) → word ≡ r.sub
    → length r.log < 16777215 → (shown_of e.mark).hw < 2 ^ 36 → is_new e.mark r.log ≡ true → MayEnter r e → new ≡ page_word (length r.log + 1) (shown_of e.mark)
    → Allows (Kept key) slots id me word (λ _. new) (λ _. IsPublished e (step slots word new 0 none) me new)
publishes_as key slots id me r e word new is at room low fresh may page =
    subst (λ (i : ℕ). Allows (Kept key) slots id me i (λ _. new) (λ _. IsPublished e (step slots i new 0 none) me new)) (sym at)
    (subst (λ (m : Me (Unit {0}) View). Allows (Kept key) slots id m r.sub (λ _. new) (λ _. IsPublished e (step slots r.sub new 0 none) m new)) (sym is) (publishes key slots id r e new room low fresh may page))

pub confirms_as : (key slots id : ℕ) (me : Me (Unit {0}) View) (r : RecKnows) (word : ℕ) → me ≡ (Rec r, []) → word ≡ r.sub
    → Allows (Kept key) slots id me word (λ n. n) (IsRecConfirmed (step slots word 0 0 none) me)
confirms_as key slots id me r word is at =
    subst (λ (i : ℕ). Allows (Kept key) slots id me i (λ n. n) (IsRecConfirmed (step slots i 0 0 none) me)) (sym at)
    (subst (λ (m : Me (Unit {0}) View). Allows (Kept key) slots id m r.sub (λ n. n) (IsRecConfirmed (step slots r.sub 0 0 none) m)) (sym is) (confirms key slots id r))
