-- The maker's steps keep the rule: a seat for the next rec, and for the next pass. The words at the start meet it.
use Rattle.std.proofs.Common.{◌≡◌, ◌≢◌, ℕ, zero, suc, ◌+◌, ◌<◌, ◌≤◌, List, [], ◌∷◌, ◌++◌, length, set, get_or, refl, sym, ap, ◌∙◌, subst, arith}
use mathlib.Core.Logic.{dite}
use native.Mathlib.Decide.{ℕ_discrete}
use mathlib.Core.Option.{some, some-injective, some-ne-none}
use lib.ListN.{get_elem?}
use Rattle.atomic_table.specs.Table.{Splits, opening}
use Rattle.floor_rule.specs.declared.rule.MakerKnows.{MakerKnows}
use Rattle.floor_rule.specs.declared.rule.View.{View}
use Rattle.floor_rule.specs.declared.rule.View.TheVariants.{Maker, Rec, Pass, Note, Spent}
use Rattle.floor_rule.specs.Pages.{closed, page_word}
use Rattle.floor_rule.specs.Rule.{AllAt, CardWords, Fits, Kept, Owner, Owns, There, Whole, first_view, the_maker, the_pass, the_rec}
use Rattle.floor_rule.specs.Steps.{next_pass, next_rec, one_pass_more, one_rec_more}
use Rattle.floor_rule.specs.Views.{no_lists}
use Rattle.floor_rule.proofs.ListLemmas.{upd, upd_other, upd_same}
use Rattle.floor_rule.proofs.SeatLemmas.{AllThere, fits_new, maker_keeps, there_last, there_new, there_set}

abbrev one_rec : Whole → ℕ → Whole
one_rec w n = record w { recs = w.recs + 1; rec_seats = upd w.rec_seats w.recs n }

abbrev one_pass : Whole → ℕ → Whole
one_pass w n = record w { passes = w.passes + 1; pass_seats = upd w.pass_seats w.passes n }

-- the recs that were taken in stay where they are
roll_on : (recs : ℕ) (seats : ℕ → ℕ) (n id : ℕ) (js : List ℕ) → AllAt recs seats id js → AllAt (recs + 1) (upd seats recs n) id js
roll_on recs seats n id [] h = tt
roll_on recs seats n id (j ∷ js) h = (omega (arith, h.0), h.1 ∙ sym (upd_other seats recs n j (λ e. omega (arith, h.0, e))), roll_on recs seats n id js h.2)

one_rec_other : (w : Whole) (id n j : ℕ) (u : View) → id ≡ w.maker → j ≢ id → Fits w j u → Fits (one_rec w n) j u
one_rec_other w id n j (Maker m) mine apart f = absurd (apart (f.seat ∙ sym mine))
one_rec_other w id n j (Rec r) mine apart f = record {
  made = omega (arith, f.made);
  seat = f.seat ∙ sym (upd_other w.rec_seats w.recs n r.sub (λ e. omega (arith, f.made, e)));
  log = f.log;
  place = f.place;
  held = f.held;
}
one_rec_other w id n j (Pass p) mine apart f = f
one_rec_other w id n j (Note l) mine apart f = f
one_rec_other w id n j Spent mine apart f = f

one_pass_other : (w : Whole) (id n j : ℕ) (u : View) → id ≡ w.maker → j ≢ id → Fits w j u → Fits (one_pass w n) j u
one_pass_other w id n j (Maker m) mine apart f = absurd (apart (f.seat ∙ sym mine))
one_pass_other w id n j (Rec r) mine apart f = f
one_pass_other w id n j (Pass p) mine apart f = record {
  made = omega (arith, f.made);
  seat = f.seat ∙ sym (upd_other w.pass_seats w.passes n p.number (λ e. omega (arith, f.made, e)));
  calls = f.calls;
  received = f.received;
  few = f.few;
  one = f.one;
  reads = f.reads;
  held = f.held;
}
one_pass_other w id n j (Note l) mine apart f = f
one_pass_other w id n j Spent mine apart f = f

later : (cards : ℕ) (words : List ℕ) (w : Whole) (j : ℕ) → CardWords cards words w.logs w.places w.recs j → CardWords cards words w.logs w.places (w.recs + 1) j
later cards words w j c = record { page = c.page; place = c.place; below = c.below; low = c.low; short = c.short; fresh = λ h. c.fresh (omega arith) }

-- those who had a seat have it, and the next rec has the new one
rec_there : (w : Whole) (views : List View) (id : ℕ) (v left new : View) → get_elem? views id ≡ some v → ((o : Owner) → Owns o v → Owns o left) → Owns (the_rec w.recs) new
    → AllThere w views → AllThere (one_rec w (length views)) (set views id left ++ new ∷ [])
rec_there w views id v left new at keeps owns all the_maker exists = there_new (set views id left) new w.maker the_maker (there_set views id v left at the_maker (keeps the_maker) w.maker (all the_maker exists))
rec_there w views id v left new at keeps owns all (the_rec j) exists =
    dite (ℕ_discrete j w.recs)
    (λ e. subst (λ i. There (set views id left ++ new ∷ []) i (the_rec j)) (sym (upd_same w.rec_seats w.recs (length views) j e)) (there_last views id left new (the_rec j) (subst (λ k. Owns (the_rec k) new) (sym e) owns)))
    (λ ne. subst (λ i. There (set views id left ++ new ∷ []) i (the_rec j)) (sym (upd_other w.rec_seats w.recs (length views) j ne))
    (there_new (set views id left) new (w.rec_seats j) (the_rec j) (there_set views id v left at (the_rec j) (keeps (the_rec j)) (w.rec_seats j) (all (the_rec j) (below j ne exists)))))
  where
    below : (j : ℕ) → j ≢ w.recs → j < w.recs + 1 → j < w.recs
    below j ne lt = omega arith
rec_there w views id v left new at keeps owns all (the_pass n) exists = there_new (set views id left) new (w.pass_seats n) (the_pass n) (there_set views id v left at (the_pass n) (keeps (the_pass n)) (w.pass_seats n) (all (the_pass n) exists))

pass_there : (w : Whole) (views : List View) (id : ℕ) (v left new : View) → get_elem? views id ≡ some v → ((o : Owner) → Owns o v → Owns o left) → Owns (the_pass w.passes) new
    → AllThere w views → AllThere (one_pass w (length views)) (set views id left ++ new ∷ [])
pass_there w views id v left new at keeps owns all the_maker exists = there_new (set views id left) new w.maker the_maker (there_set views id v left at the_maker (keeps the_maker) w.maker (all the_maker exists))
pass_there w views id v left new at keeps owns all (the_rec j) exists = there_new (set views id left) new (w.rec_seats j) (the_rec j) (there_set views id v left at (the_rec j) (keeps (the_rec j)) (w.rec_seats j) (all (the_rec j) exists))
pass_there w views id v left new at keeps owns all (the_pass n) exists =
    dite (ℕ_discrete n w.passes)
    (λ e. subst (λ i. There (set views id left ++ new ∷ []) i (the_pass n)) (sym (upd_same w.pass_seats w.passes (length views) n e)) (there_last views id left new (the_pass n) (subst (λ k. Owns (the_pass k) new) (sym e) owns)))
    (λ ne. subst (λ i. There (set views id left ++ new ∷ []) i (the_pass n)) (sym (upd_other w.pass_seats w.passes (length views) n ne))
    (there_new (set views id left) new (w.pass_seats n) (the_pass n) (there_set views id v left at (the_pass n) (keeps (the_pass n)) (w.pass_seats n) (all (the_pass n) (below n ne exists)))))
  where
    below : (n : ℕ) → n ≢ w.passes → n < w.passes + 1 → n < w.passes
    below n ne lt = omega arith

adds_rec : (cards id : ℕ) (m : MakerKnows) → m.recs < cards → Splits (Kept cards) id (Maker m) (Maker (record m { recs = m.recs + 1 })) (Rec (record { sub = m.recs; log = []; place = m.recs; held = no_lists }))
adds_rec cards id m room s h at =
    let w = h.1.0 in
    let k = h.1.1 in
    let mine = k.views id (Maker m) at in
    let n = length s.views in
    let is = mine.recs in
    let next = k.words w.recs (omega (arith, is, room)) in
    let left = Maker (record m { recs = m.recs + 1 }) in
    let new : View = Rec (record { sub = m.recs; log = []; place = m.recs; held = no_lists }) in (
      h.0,
      (
        one_rec w n,
        record {
          count = k.count;
          recs = omega (arith, is, room);
          words = λ j lt. later cards s.words w j (k.words j lt);
          backed = k.backed;
          once = k.once;
          quiet = k.quiet;
          beyond = k.beyond;
          views = fits_new (one_rec w n) s.views id left new
              (λ j u apart e. one_rec_other w id n j u mine.seat apart (k.views j u e))
              (record { seat = mine.seat; recs = ap (λ i. i + 1) is; passes = mine.passes; roll = roll_on w.recs w.rec_seats n id m.roll mine.roll; apart = mine.apart })
              (record {
                made = omega (arith, is);
                seat = sym (upd_same w.rec_seats w.recs n m.recs is);
                log = sym (next.fresh (omega arith)).0 ∙ ap w.logs (sym is);
                place = is ∙ sym (next.fresh (omega arith)).1 ∙ ap w.places (sym is);
                held = record { logs = tt; calls = tt; reads = tt };
              });
          there = rec_there w s.views id (Maker m) left new at (maker_keeps m (record m { recs = m.recs + 1 }) refl) is k.there;
        },
      ),
    )

adds_pass : (cards id : ℕ) (m : MakerKnows) → Splits (Kept cards) id (Maker m) (Maker (record m { passes = m.passes + 1 })) (Pass (record { number = m.passes; calls = []; receipts = []; reads = []; held = no_lists }))
adds_pass cards id m s h at =
    let w = h.1.0 in
    let k = h.1.1 in
    let mine = k.views id (Maker m) at in
    let n = length s.views in
    let is = mine.passes in
    let left = Maker (record m { passes = m.passes + 1 }) in
    let new : View = Pass (record { number = m.passes; calls = []; receipts = []; reads = []; held = no_lists }) in (
      h.0,
      (
        one_pass w n,
        record {
          count = k.count;
          recs = k.recs;
          words = k.words;
          backed = k.backed;
          once = k.once;
          quiet = λ i le. k.quiet i (omega (arith, le));
          beyond = k.beyond;
          views = fits_new (one_pass w n) s.views id left new
              (λ j u apart e. one_pass_other w id n j u mine.seat apart (k.views j u e))
              (record { seat = mine.seat; recs = mine.recs; passes = ap (λ i. i + 1) is; roll = mine.roll; apart = mine.apart })
              (record {
                made = omega (arith, is);
                seat = sym (upd_same w.pass_seats w.passes n m.passes is);
                calls = sym (k.quiet m.passes (omega (arith, is)));
                received = tt;
                few = omega arith;
                one = omega arith;
                reads = tt;
                held = record { logs = tt; calls = tt; reads = tt };
              });
          there = pass_there w s.views id (Maker m) left new at (maker_keeps m (record m { passes = m.passes + 1 }) refl) is k.there;
        },
      ),
    )

-- the table at the start

abbrev opening_whole : Whole
opening_whole = record { logs = λ _. []; places = λ j. j; calls = λ _. []; recs = 0; passes = 0; maker = 0; rec_seats = λ _. 0; pass_seats = λ _. 0 }

only_maker : (id : ℕ) (v : View) → get_elem? (Maker (record { recs = 0; passes = 0; roll = [] }) ∷ []) id ≡ some v → Fits opening_whole id v
only_maker zero v e = subst (Fits opening_whole 0) (some-injective _ _ e) (record { seat = refl; recs = refl; passes = refl; roll = tt; apart = tt })
only_maker (suc id) v e = absurd (some-ne-none v (sym e))

opening_there : AllThere opening_whole (Maker (record { recs = 0; passes = 0; roll = [] }) ∷ [])
opening_there the_maker exists = (Maker (record { recs = 0; passes = 0; roll = [] }), refl, tt)
opening_there (the_rec j) exists = absurd (omega arith)
opening_there (the_pass n) exists = absurd (omega arith)

pub opens : (cards : ℕ) (words : List ℕ) → cards ≤ 16 → length words ≡ cards + cards → ((j : ℕ) → j < cards → (get_or words j 0 ≡ page_word 0 closed) × (get_or words (cards + j) 0 ≡ j)) → Kept cards (opening words [] (first_view cards))
opens cards words few len laid = (
  few,
  (
    opening_whole,
    record {
      count = len;
      recs = omega arith;
      words = λ j lt. record { page = (laid j lt).0; place = (laid j lt).1; below = omega arith; low = tt; short = omega arith; fresh = λ _. (refl, refl) };
      backed = λ j. tt;
      once = λ j. tt;
      quiet = λ n le. refl;
      beyond = λ j le. refl;
      views = only_maker;
      there = opening_there;
    },
  ),
)

-- the steps at a seat whose view is known

pub adds_rec_as : (key cards id : ℕ) (v : View) (m : MakerKnows) → key ≡ cards → v ≡ Maker m → m.recs < cards → Splits (Kept key) id v (one_rec_more v) (next_rec v)
adds_rec_as key cards id v m same is room = subst (λ (u : View). Splits (Kept key) id u (one_rec_more u) (next_rec u)) (sym is) (adds_rec key id m (subst (λ n. m.recs < n) (sym same) room))

pub adds_pass_as : (key id : ℕ) (v : View) (m : MakerKnows) → v ≡ Maker m → Splits (Kept key) id v (one_pass_more v) (next_pass v)
adds_pass_as key id v m is = subst (λ (u : View). Splits (Kept key) id u (one_pass_more u) (next_pass u)) (sym is) (adds_pass key id m)
