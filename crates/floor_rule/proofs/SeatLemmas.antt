-- One view changes, or one is added: the others fit the whole as before, and each owner has its seat.
use Rattle.std.proofs.Common.{◌≡◌, ◌≢◌, ◌⊎◌, inl, inr, ⊎_elim, ℕ, zero, suc, List, [], ◌∷◌, ◌++◌, length, set, refl, sym, ap, ◌∙◌, subst}
use Rattle.std.proofs.lemmas.List.{length-set}
use mathlib.Core.Logic.{dite}
use native.Mathlib.Decide.{ℕ_discrete}
use mathlib.Core.Option.{some, some-injective, some-ne-none}
use lib.ListN.{get_elem?}
use Rattle.atomic_table.proofs.Lists.{at_last, at_longer, at_set, set_else}
use Rattle.floor_rule.specs.declared.rule.Lists.{Lists}
use Rattle.floor_rule.specs.declared.rule.MakerKnows.{MakerKnows}
use Rattle.floor_rule.specs.declared.rule.PassKnows.{PassKnows}
use Rattle.floor_rule.specs.declared.rule.RecKnows.{RecKnows}
use Rattle.floor_rule.specs.declared.rule.View.{View}
use Rattle.floor_rule.specs.declared.rule.View.TheVariants.{Maker, Rec, Pass, Note, Spent}
use Rattle.floor_rule.specs.Rule.{Among, Exists, Fits, Owner, Owns, There, Whole, seat_of, the_maker, the_pass, the_rec}

-- each view fits the whole
abbrev pub AllFit : Whole → List View → Type 0
AllFit w views = (id : ℕ) (v : View) → get_elem? views id ≡ some v → Fits w id v

-- each view but that of seat id fits the whole
abbrev pub OthersFit : Whole → List View → ℕ → Type 0
OthersFit w views id = (j : ℕ) (u : View) → j ≢ id → get_elem? views j ≡ some u → Fits w j u

pub fits_set : (w : Whole) (views : List View) (id : ℕ) (v : View) → OthersFit w views id → Fits w id v → AllFit w (set views id v)
fits_set w views id v others mine j u e =
    ⊎_elim
    (λ (x : (j ≡ id) × (v ≡ u)). subst (λ (y : ℕ × View). Fits w y.0 y.1) (λ i. (sym x.0 i, x.1 i)) mine)
    (λ (x : (j ≢ id) × (get_elem? views j ≡ some u)). others j u x.0 x.1)
    (at_set views id j v u e)

at_end : {A : Type 0} (l : List A) (a b : A) (j : ℕ) → get_elem? (l ++ a ∷ []) j ≡ some b → (get_elem? l j ≡ some b) ⊎ ((a ≡ b) × (j ≡ length l))
at_end [] a b zero e = inr (some-injective a b e, refl)
at_end [] a b (suc j) e = absurd (some-ne-none b (sym e))
at_end (x ∷ xs) a b zero e = inl e
at_end (x ∷ xs) a b (suc j) e = ⊎_elim (λ t. inl t) (λ t. inr (t.0, ap suc t.1)) (at_end xs a b j e)

-- one view is cut in two
pub fits_new : (w : Whole) (views : List View) (id : ℕ) (v new : View) → OthersFit w views id → Fits w id v → Fits w (length views) new → AllFit w (set views id v ++ new ∷ [])
fits_new w views id v new others mine theirs j u e =
    ⊎_elim
    (λ (t : get_elem? (set views id v) j ≡ some u). fits_set w views id v others mine j u t)
    (λ (t : (new ≡ u) × (j ≡ length (set views id v))). subst (λ (y : ℕ × View). Fits w y.0 y.1) (λ i. (sym (t.1 ∙ length-set views id v) i, t.0 i)) theirs)
    (at_end (set views id v) new u j e)

-- two views are made one
pub fits_join : (w : Whole) (views : List View) (id other : ℕ) (v : View) → OthersFit w views id → Fits w id v → AllFit w (set (set views id v) other Spent)
fits_join w views id other v others mine = fits_set w (set views id v) other Spent (λ j u _ e. fits_set w views id v others mine j u e) tt

-- the same where the whole is another one afterwards
pub fits_apart : (w : Whole) (views : List View) (id other : ℕ) (v : View) → ((j : ℕ) (u : View) → j ≢ id → j ≢ other → get_elem? views j ≡ some u → Fits w j u) → Fits w id v → AllFit w (set (set views id v) other Spent)
fits_apart w views id other v others mine j u e =
    ⊎_elim
    (λ (t : (j ≡ other) × (Spent ≡ u)). subst (λ x. Fits w j x) t.1 tt)
    (λ (t : (j ≢ other) × (get_elem? (set views id v) j ≡ some u)).
    ⊎_elim
    (λ (x : (j ≡ id) × (v ≡ u)). subst (λ (y : ℕ × View). Fits w y.0 y.1) (λ i. (sym x.0 i, x.1 i)) mine)
    (λ (x : (j ≢ id) × (get_elem? views j ≡ some u)). others j u x.0 t.0 x.1)
    (at_set views id j v u t.1))
    (at_set (set views id v) other j Spent u e)

-- the view of the seat that is joined
pub joined_view : (views : List View) (id other : ℕ) (v u : View) → ¬ (other ≡ id) → get_elem? (set views id v) other ≡ some u → get_elem? views other ≡ some u
joined_view views id other v u apart there =
    ⊎_elim
    (λ (t : (other ≡ id) × (v ≡ u)). absurd (apart t.0))
    (λ (t : (other ≢ id) × (get_elem? views other ≡ some u)). t.1)
    (at_set views id other v u there)

-- who has a seat still has it

pub set_there : (views : List View) (id : ℕ) (v now : View) → get_elem? views id ≡ some v → get_elem? (set views id now) id ≡ some now
set_there [] id v now e = absurd (some-ne-none v (sym e))
set_there (x ∷ xs) zero v now e = refl
set_there (x ∷ xs) (suc id) v now e = set_there xs id v now e

pub there_set : (views : List View) (id : ℕ) (v now : View) → get_elem? views id ≡ some v → (o : Owner) → (Owns o v → Owns o now) → (i : ℕ) → There views i o → There (set views id now) i o
there_set views id v now at o keeps i t =
    dite (ℕ_discrete i id)
    (λ e.
    let same : t.0 ≡ v = some-injective t.0 v (sym t.1 ∙ ap (get_elem? views) e ∙ at) in
    (now, ap (get_elem? (set views id now)) e ∙ set_there views id v now at, keeps (subst (Owns o) same t.2)))
    (λ ne. (t.0, set_else views id i now ne ∙ t.1, t.2))

pub there_new : (views : List View) (new : View) (i : ℕ) (o : Owner) → There views i o → There (views ++ new ∷ []) i o
there_new views new i o t = (t.0, at_longer views (new ∷ []) i t.0 t.1, t.2)

-- the seat that is new
pub there_last : (views : List View) (id : ℕ) (v new : View) (o : Owner) → Owns o new → There (set views id v ++ new ∷ []) (length views) o
there_last views id v new o owns = (new, at_last (set views id v) new (length views) (length-set views id v), owns)

pub rec_keeps : (r now : RecKnows) → r.sub ≡ now.sub → (o : Owner) → Owns o (Rec r) → Owns o (Rec now)
rec_keeps r now same the_maker h = h
rec_keeps r now same (the_rec j) h = sym same ∙ h
rec_keeps r now same (the_pass n) h = h

pub pass_keeps : (p now : PassKnows) → p.number ≡ now.number → (o : Owner) → Owns o (Pass p) → Owns o (Pass now)
pass_keeps p now same the_maker h = h
pass_keeps p now same (the_rec j) h = h
pass_keeps p now same (the_pass n) h = sym same ∙ h

pub maker_keeps : (m now : MakerKnows) → m.roll ≡ now.roll → (o : Owner) → Owns o (Maker m) → Owns o (Maker now)
maker_keeps m now same the_maker h = h
maker_keeps m now same (the_rec j) h = subst (Among j) same h
maker_keeps m now same (the_pass n) h = h

pub note_keeps : (l : Lists) (v : View) (o : Owner) → Owns o (Note l) → Owns o v
note_keeps l v the_maker h = absurd h
note_keeps l v (the_rec j) h = absurd h
note_keeps l v (the_pass n) h = absurd h

-- each owner has its seat
abbrev pub AllThere : Whole → List View → Type 0
AllThere w views = (o : Owner) → Exists w.recs w.passes o → There views (seat_of w.maker w.rec_seats w.pass_seats o) o

pub all_there_set : (w : Whole) (views : List View) (id : ℕ) (v now : View) → get_elem? views id ≡ some v → ((o : Owner) → Owns o v → Owns o now) → AllThere w views → AllThere w (set views id now)
all_there_set w views id v now at keeps all o exists = there_set views id v now at o (keeps o) (seat_of w.maker w.rec_seats w.pass_seats o) (all o exists)

pub all_there_new : (w : Whole) (views : List View) (new : View) → AllThere w views → AllThere w (views ++ new ∷ [])
all_there_new w views new all o exists = there_new views new (seat_of w.maker w.rec_seats w.pass_seats o) o (all o exists)

-- a note that is taken was nobody's
pub all_there_join : (w : Whole) (views : List View) (id other : ℕ) (v now : View) (l : Lists) → get_elem? views id ≡ some v → ((o : Owner) → Owns o v → Owns o now) → get_elem? (set views id now) other ≡ some (Note l) → AllThere w views → AllThere w (set (set views id now) other Spent)
all_there_join w views id other v now l at keeps there all = all_there_set w (set views id now) other (Note l) Spent there (note_keeps l Spent) (all_there_set w views id v now at keeps all)
