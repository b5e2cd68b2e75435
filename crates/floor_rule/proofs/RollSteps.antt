-- The maker takes in a rec, and calls its roll.
use Rattle.std.proofs.Common.{◌≡◌, ◌≢◌, inl, inr, ℕ, List, [], ◌∷◌, length, set, refl, sym, ap, ◌∙◌, subst}
use Rattle.std.specs.Prelude.{slice_index}
use Rattle.std.proofs.lemmas.List.{set-get_or}
use mathlib.Core.Logic.{dite}
use native.Mathlib.Decide.{ℕ_discrete}
use mathlib.Core.Option.{some, none}
use lib.ListN.{get_elem?}
use Rattle.atomic_table.specs.Table.{Me, Allows, Joins, step, keeps}
use Rattle.floor_rule.specs.declared.rule.MakerKnows.{MakerKnows}
use Rattle.floor_rule.specs.declared.rule.RecKnows.{RecKnows}
use Rattle.floor_rule.specs.declared.rule.View.{View}
use Rattle.floor_rule.specs.declared.rule.View.TheVariants.{Maker, Rec, Pass, Note, Spent}
use Rattle.floor_rule.specs.Rule.{AllAt, Among, CardWords, Exists, Fits, IsNone, Kept, Owner, Owns, There, Whole, seat_of, the_maker, the_pass, the_rec}
use Rattle.floor_rule.specs.Steps.{AllBelow, IsRollCalled, with_roll}
use Rattle.floor_rule.proofs.ListLemmas.{upd, upd_other, upd_same}
use Rattle.floor_rule.proofs.SeatLemmas.{AllThere, all_there_set, fits_apart, fits_set, joined_view, set_there, there_set}
use Rattle.atomic_table.proofs.Lists.{set_else}

abbrev taken_in : Whole → ℕ → ℕ → Whole
taken_in w id sub = record w { rec_seats = upd w.rec_seats sub id }

-- the recs that the maker has are others
not_yet : (recs : ℕ) (seats : ℕ → ℕ) (id other sub : ℕ) (js : List ℕ) → other ≡ seats sub → ¬ (other ≡ id) → AllAt recs seats id js → IsNone sub js
not_yet recs seats id other sub [] theirs apart h = tt
not_yet recs seats id other sub (j ∷ js) theirs apart h = ((λ e. apart (theirs ∙ ap seats (sym e) ∙ sym h.1)), not_yet recs seats id other sub js theirs apart h.2)

roll_on : (recs : ℕ) (seats : ℕ → ℕ) (id sub : ℕ) (js : List ℕ) → IsNone sub js → AllAt recs seats id js → AllAt recs (upd seats sub id) id js
roll_on recs seats id sub [] out h = tt
roll_on recs seats id sub (j ∷ js) out h = (h.0, h.1 ∙ sym (upd_other seats sub id j out.0), roll_on recs seats id sub js out.1 h.2)

else_fits : (w : Whole) (id other sub j : ℕ) (u : View) → id ≡ w.maker → other ≡ w.rec_seats sub → j ≢ id → j ≢ other → Fits w j u → Fits (taken_in w id sub) j u
else_fits w id other sub j (Maker m) mine theirs a b f = absurd (a (f.seat ∙ sym mine))
else_fits w id other sub j (Rec r) mine theirs a b f = record {
  made = f.made;
  seat = f.seat ∙ sym (upd_other w.rec_seats sub id r.sub (λ e. b (f.seat ∙ ap w.rec_seats e ∙ sym theirs)));
  log = f.log;
  place = f.place;
  held = f.held;
}
else_fits w id other sub j (Pass p) mine theirs a b f = f
else_fits w id other sub j (Note l) mine theirs a b f = f
else_fits w id other sub j Spent mine theirs a b f = f

takes_there : (w : Whole) (views : List View) (id other : ℕ) (m now : MakerKnows) (r : RecKnows) → now.roll ≡ r.sub ∷ m.roll → ¬ (other ≡ id)
    → get_elem? views id ≡ some (Maker m) → get_elem? (set views id (Maker now)) other ≡ some (Rec r) → AllThere w views → AllThere (taken_in w id r.sub) (set (set views id (Maker now)) other Spent)
takes_there w views id other m now r more apart at there all = by
  where
    moved : (o : Owner) (i : ℕ) → (Owns o (Maker m) → Owns o (Maker now)) → (Owns o (Rec r) → Owns o Spent) → There views i o → There (set (set views id (Maker now)) other Spent) i o
    moved o i stays goes t = there_set (set views id (Maker now)) other (Rec r) Spent there o goes i (there_set views id (Maker m) (Maker now) at o stays i t)

    here : There (set (set views id (Maker now)) other Spent) id (the_rec r.sub)
    here = (Maker now, set_else (set views id (Maker now)) other id Spent (λ e. apart (sym e)) ∙ set_there views id (Maker m) (Maker now) at, subst (Among r.sub) (sym more) (inl refl))

    by : (o : Owner) → Exists w.recs w.passes o → There (set (set views id (Maker now)) other Spent) (seat_of w.maker (upd w.rec_seats r.sub id) w.pass_seats o) o
    by the_maker exists = moved the_maker w.maker (λ h. h) (λ h. h) (all the_maker exists)
    by (the_rec j) exists =
        dite (ℕ_discrete j r.sub)
        (λ e. subst (λ i. There (set (set views id (Maker now)) other Spent) i (the_rec j)) (sym (upd_same w.rec_seats r.sub id j e))
        (subst (λ k. There (set (set views id (Maker now)) other Spent) id (the_rec k)) (sym e) here))
        (λ ne. subst (λ i. There (set (set views id (Maker now)) other Spent) i (the_rec j)) (sym (upd_other w.rec_seats r.sub id j ne))
        (moved (the_rec j) (w.rec_seats j) (λ h. subst (Among j) (sym more) (inr h)) (λ h. absurd (ne (sym h))) (all (the_rec j) exists)))
    by (the_pass n) exists = moved (the_pass n) (w.pass_seats n) (λ h. h) (λ h. h) (all (the_pass n) exists)

takes_rec : (cards id : ℕ) (m : MakerKnows) (other : ℕ) (r : RecKnows) → Joins (Kept cards) id (Maker m) other (Rec r) (Maker (record m { roll = r.sub ∷ m.roll })) Spent
takes_rec cards id m other r s h at apart there =
    let w = h.1.0 in
    let k = h.1.1 in
    let mine = k.views id (Maker m) at in
    let now : MakerKnows = record m { roll = r.sub ∷ m.roll } in
    let theirs = k.views other (Rec r) (joined_view s.views id other (Maker now) (Rec r) apart there) in
    let v = taken_in w id r.sub in
    let out = not_yet w.recs w.rec_seats id other r.sub m.roll theirs.seat apart mine.roll in (
      h.0,
      (
        v,
        record {
          count = k.count;
          recs = k.recs;
          words = k.words;
          backed = k.backed;
          once = k.once;
          quiet = k.quiet;
          beyond = k.beyond;
          views = fits_apart v s.views id other (Maker now)
              (λ j u a b e. else_fits w id other r.sub j u mine.seat theirs.seat a b (k.views j u e))
              (record {
                seat = mine.seat;
                recs = mine.recs;
                passes = mine.passes;
                roll = (theirs.made, sym (upd_same w.rec_seats r.sub id r.sub refl), roll_on w.recs w.rec_seats id r.sub m.roll out mine.roll);
                apart = (out, mine.apart);
              });
          there = takes_there w s.views id other m now r refl apart at there k.there;
        },
      ),
    )

-- the roll is called

below : (recs : ℕ) (seats : ℕ → ℕ) (id : ℕ) (js : List ℕ) → AllAt recs seats id js → AllBelow recs js
below recs seats id [] h = tt
below recs seats id (j ∷ js) h = (h.0, below recs seats id js h.2)

calls_roll : (cards slots id : ℕ) (m : MakerKnows) (word : ℕ) → Allows (Kept cards) slots id (Maker m, []) word (λ n. n) (IsRollCalled (step slots word 0 0 none) (Maker m, []))
calls_roll cards slots id m word s h homes at fits =
    let w = h.1.0 in
    let k = h.1.1 in
    let mine = k.views id (Maker m) at in
    let same : set s.words word (slice_index s.words word) ≡ s.words = set-get_or s.words word 0 in (
      Maker m,
      keeps,
      tt,
      (
        h.0,
        (
          w,
          record {
            count = ap length same ∙ k.count;
            recs = k.recs;
            words = λ j lt. subst (λ ws. CardWords cards ws w.logs w.places w.recs j) (sym same) (k.words j lt);
            backed = k.backed;
            once = k.once;
            quiet = k.quiet;
            beyond = k.beyond;
            views = fits_set w s.views id (Maker m) (λ j u apart e. k.views j u e) mine;
            there = all_there_set w s.views id (Maker m) (Maker m) at (λ o owns. owns) k.there;
          },
        ),
      ),
      (mine.apart, subst (λ n. AllBelow n m.roll) (sym mine.recs) (below w.recs w.rec_seats id m.roll mine.roll), refl),
    )

pub takes_rec_as : (key id : ℕ) (v : View) (m : MakerKnows) (other : ℕ) (n : View) (r : RecKnows) → v ≡ Maker m → n ≡ Rec r → Joins (Kept key) id v other n (with_roll v n) Spent
takes_rec_as key id v m other n r is rec_is =
    subst (λ (u : View). Joins (Kept key) id u other n (with_roll u n) Spent) (sym is)
    (subst (λ (x : View). Joins (Kept key) id (Maker m) other x (with_roll (Maker m) x) Spent) (sym rec_is) (takes_rec key id m other r))

pub calls_roll_as : (key slots id : ℕ) (me : Me (Unit {0}) View) (m : MakerKnows) (word : ℕ) → me ≡ (Maker m, []) → Allows (Kept key) slots id me word (λ n. n) (IsRollCalled (step slots word 0 0 none) me)
calls_roll_as key slots id me m word is = subst (λ (x : Me (Unit {0}) View). Allows (Kept key) slots id x word (λ n. n) (IsRollCalled (step slots word 0 0 none) x)) (sym is) (calls_roll key slots id m word)
