-- The first file of a name, and what the map of the files makes of it.
use Rattle.std.proofs.Common.{◌≡◌, ℕ, zero, suc, ◌+◌, ◌<◌, ◌≤◌, List, [], ◌∷◌, ◌++◌, length, get_or, Bool, true, false, not, cond, Some, None, refl, sym, ◌∙◌, ap, subst, arith}
use Rattle.std.proofs.lemmas.Bool.{ltb-true, ltb-false}
use Rattle.std.proofs.lemmas.List.{map-append}
use Rattle.std.specs.List.{position, position_or_len, slice_set}
use Rattle.std.specs.Str.{bytes_eq}
use Rattle.std.specs.Ordering.{nat_cmp, eq_by_cmp}
use Rattle.std.specs.Cmp.Lexicographic.{slice_cmp}
use Rattle.std.specs.FinMap.{get, insert, from_entries, find, get-from_entries, get-insert, same_map, from_entries_push, slice_cmp-IsAntisymmetric, nat_cmp-IsAntisymmetric}
use Rattle.std.proofs.lemmas.Cmp.{nat_list_cmp_total}
use Rattle.std.proofs.lemmas.Map.Text.{is_eq-slice_cmp}
use Rattle.std.proofs.lemmas.Slice.Eq.{bytes_eq-Decides}
use Rattle.pcm_io.specs.declared.mem_shelf.File.{File}
use Rattle.pcm_io.specs.MemFiles.{entries_of, files_in}

-- the i-th file has the name, and none before it
abbrev pub StandsAt : List ℕ → List File → ℕ → Type 0
StandsAt name [] i = ⊥
StandsAt name (f ∷ fs) zero = bytes_eq name f.name.items ≡ true
StandsAt name (f ∷ fs) (suc i) = (bytes_eq name f.name.items ≡ false) × StandsAt name fs i

abbrev has_name : List ℕ → File → Bool
has_name name f = bytes_eq name f.name.items

-- the files' place of a name that one of them has
stands : (name : List ℕ) (fs : List File) → position_or_len (has_name name) fs < length fs → StandsAt name fs (position_or_len (has_name name) fs)
stands name [] h = absurd (omega arith)
stands name (f ∷ fs) h =
    elim (bytes_eq name f.name.items) as (λ b. bytes_eq name f.name.items ≡ b → cond (not b) (1 + position_or_len (has_name name) fs) 0 < length (f ∷ fs) → StandsAt name (f ∷ fs) (cond (not b) (1 + position_or_len (has_name name) fs) 0)) [
      | true ↦ λ is h. is
      | false ↦ λ is h.
          let m = position_or_len (has_name name) fs in
          let below : m < length fs = omega arith in
          let next : suc m ≡ 1 + m = omega arith in
          subst (StandsAt name (f ∷ fs)) next (is, stands name fs below)
    ] refl h

is_place : (b : Bool) (n i : ℕ) → cond b (Some n) None ≡ Some i → (b ≡ true) × (n ≡ i)
is_place true n i h = (refl, cc)
is_place false n i h = absurd (cc)

no_place : (b : Bool) (n : ℕ) → cond b (Some n) None ≡ None → b ≡ false
no_place true n h = absurd (cc)
no_place false n h = refl

pub position-stands : (name : List ℕ) (fs : List File) (i : ℕ) → position (has_name name) fs ≡ Some i → StandsAt name fs i
position-stands name fs i h =
    let place = is_place _ _ i h in
    subst (StandsAt name fs) place.1 (stands name fs (ltb-true _ _ place.0))

-- no file has the name
find_past : (name : List ℕ) (fs : List File) → length fs ≤ position_or_len (has_name name) fs → find (slice_cmp nat_cmp) name (entries_of fs) ≡ None
find_past name [] h = refl
find_past name (f ∷ fs) h =
    ap (λ b. cond b (Some f.bytes.items) (find (slice_cmp nat_cmp) name (entries_of fs))) (is_eq-slice_cmp name f.name.items)
    ∙ elim (bytes_eq name f.name.items) as (λ b. length (f ∷ fs) ≤ cond (not b) (1 + position_or_len (has_name name) fs) 0 → cond b (Some f.bytes.items) (find (slice_cmp nat_cmp) name (entries_of fs)) ≡ None) [
      | true ↦ λ h. absurd (omega arith)
      | false ↦ λ h. find_past name fs (omega arith)
    ] h

pub position-none : (name : List ℕ) (fs : List File) → position (has_name name) fs ≡ None → find (slice_cmp nat_cmp) name (entries_of fs) ≡ None
position-none name fs h = find_past name fs (ltb-false _ _ (no_place _ _ h))

-- the first file of the name is what a look-up finds
pub find-stands : (name : List ℕ) (fs : List File) (i : ℕ) (x : File) → StandsAt name fs i → get_or fs i x ≡ x → find (slice_cmp nat_cmp) name (entries_of fs) ≡ Some x.bytes.items
find-stands name [] i x h e = absurd h
find-stands name (f ∷ fs) zero x h e =
    ap (λ b. cond b (Some f.bytes.items) (find (slice_cmp nat_cmp) name (entries_of fs))) (is_eq-slice_cmp name f.name.items ∙ h)
    ∙ ap (λ (g : File). Some g.bytes.items) e
find-stands name (f ∷ fs) (suc i) x h e =
    ap (λ b. cond b (Some f.bytes.items) (find (slice_cmp nat_cmp) name (entries_of fs))) (is_eq-slice_cmp name f.name.items ∙ h.0)
    ∙ find-stands name fs i x h.1 e

-- one choice twice
cond_twice : {A : Type 0} (b : Bool) (x y z : A) → cond b x z ≡ cond b x (cond b y z)
cond_twice true x y z = refl
cond_twice false x y z = refl

-- two choices that do not hold together
cond_apart : {A : Type 0} (b c : Bool) (x y z : A) → (b ≡ true → c ≡ true → ⊥) → cond b y (cond c x z) ≡ cond c x (cond b y z)
cond_apart true true x y z h = absurd (h refl refl)
cond_apart true false x y z h = refl
cond_apart false true x y z h = refl
cond_apart false false x y z h = refl

true_not_false : true ≡ false → ⊥
true_not_false h = cc

-- in place of the first file of a name, one of the name with other bytes
pub find-set : (name q : List ℕ) (fs : List File) (i : ℕ) (x g : File) → StandsAt name fs i → get_or fs i x ≡ x → g.name ≡ x.name
    → find (slice_cmp nat_cmp) q (entries_of (slice_set fs i g)) ≡ cond (eq_by_cmp (slice_cmp nat_cmp) q name) (Some g.bytes.items) (find (slice_cmp nat_cmp) q (entries_of fs))
find-set name q [] i x g h e n = absurd h
find-set name q (f ∷ fs) zero x g h e n =
    let here : name ≡ f.name.items = (bytes_eq-Decides name f.name.items).0 h in
    let put : g.name.items ≡ name = ap (λ v. v.items) n ∙ ap (λ (v : File). v.name.items) (sym e) ∙ sym here in
    ap (λ m. cond (eq_by_cmp (slice_cmp nat_cmp) q m) (Some g.bytes.items) (find (slice_cmp nat_cmp) q (entries_of fs))) put
    ∙ cond_twice (eq_by_cmp (slice_cmp nat_cmp) q name) _ (Some f.bytes.items) _
    ∙ ap (λ m. cond (eq_by_cmp (slice_cmp nat_cmp) q name) (Some g.bytes.items) (cond (eq_by_cmp (slice_cmp nat_cmp) q m) (Some f.bytes.items) (find (slice_cmp nat_cmp) q (entries_of fs)))) here
find-set name q (f ∷ fs) (suc i) x g h e n =
    ap (λ o. cond (eq_by_cmp (slice_cmp nat_cmp) q f.name.items) (Some f.bytes.items) o) (find-set name q fs i x g h.1 e n)
    ∙ cond_apart _ _ _ _ _ (λ a b.
    let here : q ≡ f.name.items = (bytes_eq-Decides q f.name.items).0 (sym (is_eq-slice_cmp q f.name.items) ∙ a) in
    let there : q ≡ name = (bytes_eq-Decides q name).0 (sym (is_eq-slice_cmp q name) ∙ b) in
    true_not_false (sym ((bytes_eq-Decides name f.name.items).1 (sym there ∙ here)) ∙ h.0))

-- a look-up in the map is one in the list
pub get-files_in : (fs : List File) (name : List ℕ) → get (files_in fs) name ≡ find (slice_cmp nat_cmp) name (entries_of fs)
get-files_in fs name = get-from_entries nat_list_cmp_total (entries_of fs) name

-- the first file of a name with other bytes
pub files_in-set : (name : List ℕ) (fs : List File) (i : ℕ) (x g : File) → StandsAt name fs i → get_or fs i x ≡ x → g.name ≡ x.name
    → files_in (slice_set fs i g) ≡ insert (files_in fs) name g.bytes.items
files_in-set name fs i x g h e n =
    same_map nat_list_cmp_total (slice_cmp-IsAntisymmetric nat_cmp-IsAntisymmetric) _ _ (λ q.
    get-files_in _ q ∙ find-set name q fs i x g h e n
    ∙ sym (get-insert nat_list_cmp_total (files_in fs) name g.bytes.items q ∙ ap (cond (eq_by_cmp (slice_cmp nat_cmp) q name) (Some g.bytes.items)) (get-files_in fs q)))

-- a file of a new name
pub files_in-push : (name : List ℕ) (fs : List File) (g : File) → g.name.items ≡ name → position (has_name name) fs ≡ None → files_in (fs ++ g ∷ []) ≡ insert (files_in fs) name g.bytes.items
files_in-push name fs g named none =
    ap (λ es. from_entries es) (map-append (λ f. (f.name.items, f.bytes.items)) fs (g ∷ []) ∙ ap (λ (l : List ℕ). entries_of fs ++ (l, g.bytes.items) ∷ []) named)
    ∙ from_entries_push nat_list_cmp_total (slice_cmp-IsAntisymmetric nat_cmp-IsAntisymmetric) (entries_of fs) name g.bytes.items (position-none name fs none)
