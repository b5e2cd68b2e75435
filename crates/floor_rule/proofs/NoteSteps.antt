-- Notes keep the rule: a seat copies what it knows, and another takes it.
use Rattle.std.proofs.Common.{◌≡◌, ℕ, [], ◌∷◌, ◌++◌, set, refl, sym, subst}
use mathlib.Core.List.{IsPrefix}
use mathlib.Core.Option.{some}
use lib.ListN.{get_elem?}
use Rattle.atomic_table.specs.Table.{State, Splits, Joins}
use Rattle.floor_rule.specs.declared.rule.Lists.{Lists}
use Rattle.floor_rule.specs.declared.rule.PassKnows.{PassKnows}
use Rattle.floor_rule.specs.declared.rule.RecKnows.{RecKnows}
use Rattle.floor_rule.specs.declared.rule.View.{View}
use Rattle.floor_rule.specs.declared.rule.View.TheVariants.{Rec, Pass, Note, Spent}
use Rattle.floor_rule.specs.Rule.{Fits, Holds, KeptBy, Kept, Owner, Owns, Whole}
use Rattle.floor_rule.specs.Steps.{calls_note, log_note, pass_again, pass_told, rec_again, rec_told, told_by_pass, told_by_rec}
use Rattle.floor_rule.specs.Views.{both_lists}
use Rattle.floor_rule.proofs.ListLemmas.{prefix_refl}
use Rattle.floor_rule.proofs.LogLemmas.{holds_both, reads_both}
use Rattle.floor_rule.proofs.SeatLemmas.{all_there_join, all_there_new, all_there_set, fits_join, fits_new, joined_view, pass_keeps, rec_keeps}

-- a seat copies what it knows into a note
copies : (cards : ℕ) (s : State (Unit {0}) View) (w : Whole) (k : KeptBy cards s w) (id : ℕ) (v : View) (l : Lists) → get_elem? s.views id ≡ some v → Holds w.logs w.calls l
    → KeptBy cards record { words = s.words; homes = s.homes; views = set s.views id v ++ Note l ∷ [] } w
copies cards s w k id v l at held = record {
  count = k.count;
  recs = k.recs;
  words = k.words;
  backed = k.backed;
  once = k.once;
  quiet = k.quiet;
  beyond = k.beyond;
  views = fits_new w s.views id v (Note l) (λ j u apart e. k.views j u e) (k.views id v at) held;
  there = all_there_new w (set s.views id v) (Note l) (all_there_set w s.views id v v at (λ o owns. owns) k.there);
}

copies_log : (cards id : ℕ) (r : RecKnows) → Splits (Kept cards) id (Rec r) (Rec r) (Note (told_by_rec r))
copies_log cards id r s h at =
    let w = h.1.0 in
    let k = h.1.1 in
    let mine = k.views id (Rec r) at in
    let own : IsPrefix r.log (w.logs r.sub) = subst (IsPrefix r.log) mine.log (prefix_refl r.log) in
    (h.0, (w, copies cards s w k id (Rec r) (told_by_rec r) at (record { logs = (own, mine.held.logs); calls = mine.held.calls; reads = mine.held.reads })))

copies_calls : (cards id : ℕ) (p : PassKnows) → Splits (Kept cards) id (Pass p) (Pass p) (Note (told_by_pass p))
copies_calls cards id p s h at =
    let w = h.1.0 in
    let k = h.1.1 in
    let mine = k.views id (Pass p) at in
    let own : IsPrefix p.calls (w.calls p.number) = subst (IsPrefix p.calls) mine.calls (prefix_refl p.calls) in
    (h.0, (w, copies cards s w k id (Pass p) (told_by_pass p) at (record { logs = mine.held.logs; calls = (own, mine.held.calls); reads = reads_both w.logs p.reads p.held.reads mine.reads mine.held.reads })))

-- a seat takes a note
takes : (cards : ℕ) (s : State (Unit {0}) View) (w : Whole) (k : KeptBy cards s w) (id other : ℕ) (v now : View) (l : Lists) → get_elem? s.views id ≡ some v → ¬ (other ≡ id) → get_elem? (set s.views id now) other ≡ some (Note l)
    → Fits w id now → ((o : Owner) → Owns o v → Owns o now) → KeptBy cards record { words = s.words; homes = s.homes; views = set (set s.views id now) other Spent } w
takes cards s w k id other v now l at apart there fits keeps = record {
  count = k.count;
  recs = k.recs;
  words = k.words;
  backed = k.backed;
  once = k.once;
  quiet = k.quiet;
  beyond = k.beyond;
  views = fits_join w s.views id other now (λ j u _ e. k.views j u e) fits;
  there = all_there_join w s.views id other v now l at keeps there k.there;
}

rec_takes : (cards id : ℕ) (r : RecKnows) (other : ℕ) (l : Lists) → Joins (Kept cards) id (Rec r) other (Note l) (Rec (record r { held = both_lists l r.held })) Spent
rec_takes cards id r other l s h at apart there =
    let w = h.1.0 in
    let k = h.1.1 in
    let mine = k.views id (Rec r) at in
    let now = Rec (record r { held = both_lists l r.held }) in
    let theirs = k.views other (Note l) (joined_view s.views id other now (Note l) apart there) in (
      h.0,
      (
        w,
        takes cards s w k id other (Rec r) now l at apart there
            (record { made = mine.made; seat = mine.seat; log = mine.log; place = mine.place; held = holds_both w.logs w.calls l r.held theirs mine.held })
            (rec_keeps r (record r { held = both_lists l r.held }) refl),
      ),
    )

pass_takes : (cards id : ℕ) (p : PassKnows) (other : ℕ) (l : Lists) → Joins (Kept cards) id (Pass p) other (Note l) (Pass (record p { held = both_lists l p.held })) Spent
pass_takes cards id p other l s h at apart there =
    let w = h.1.0 in
    let k = h.1.1 in
    let mine = k.views id (Pass p) at in
    let now = Pass (record p { held = both_lists l p.held }) in
    let theirs = k.views other (Note l) (joined_view s.views id other now (Note l) apart there) in (
      h.0,
      (
        w,
        takes cards s w k id other (Pass p) now l at apart there
            (record { made = mine.made; seat = mine.seat; calls = mine.calls; received = mine.received; few = mine.few; one = mine.one; reads = mine.reads; held = holds_both w.logs w.calls l p.held theirs mine.held })
            (pass_keeps p (record p { held = both_lists l p.held }) refl),
      ),
    )

-- the steps at a seat whose view is known

pub copies_log_as : (key id : ℕ) (v : View) (r : RecKnows) → v ≡ Rec r → Splits (Kept key) id v (rec_again v) (log_note v)
copies_log_as key id v r is = subst (λ (u : View). Splits (Kept key) id u (rec_again u) (log_note u)) (sym is) (copies_log key id r)

pub copies_calls_as : (key id : ℕ) (v : View) (p : PassKnows) → v ≡ Pass p → Splits (Kept key) id v (pass_again v) (calls_note v)
copies_calls_as key id v p is = subst (λ (u : View). Splits (Kept key) id u (pass_again u) (calls_note u)) (sym is) (copies_calls key id p)

pub rec_takes_as : (key id : ℕ) (v : View) (r : RecKnows) (other : ℕ) (n : View) (l : Lists) → v ≡ Rec r → n ≡ Note l → Joins (Kept key) id v other n (rec_told v n) Spent
rec_takes_as key id v r other n l is note =
    subst (λ (u : View). Joins (Kept key) id u other n (rec_told u n) Spent) (sym is)
    (subst (λ (m : View). Joins (Kept key) id (Rec r) other m (rec_told (Rec r) m) Spent) (sym note) (rec_takes key id r other l))

pub pass_takes_as : (key id : ℕ) (v : View) (p : PassKnows) (other : ℕ) (n : View) (l : Lists) → v ≡ Pass p → n ≡ Note l → Joins (Kept key) id v other n (pass_told v n) Spent
pass_takes_as key id v p other n l is note =
    subst (λ (u : View). Joins (Kept key) id u other n (pass_told u n) Spent) (sym is)
    (subst (λ (m : View). Joins (Kept key) id (Pass p) other m (pass_told (Pass p) m) Spent) (sym note) (pass_takes key id p other l))
