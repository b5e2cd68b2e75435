-- What was gathered, as it is put in order and as more is put behind it.
use Rattle.std.proofs.Common.{◌≡◌, ◌≢◌, ◌⊎◌, inl, inr, ◌<◌, ◌+◌, ℕ, suc, List, [], ◌∷◌, ◌++◌, length, slice_get, get_or, Some, refl, sym, ap, ◌∙◌, arith}
use Rattle.std.specs.List.{SwappedAt}
use Rattle.std.proofs.lemmas.Option.{get_or_from_slice_get, same_Some, slice_get_read, slice_get_within}
use mathlib.Core.Logic.{dite}
use native.Mathlib.Decide.{ℕ_discrete}
use Rattle.floor_rule.specs.Rule.{Among}
use Rattle.floor_rule.specs.declared.rule.Marked.{Marked}
use Rattle.live_gather.specs.Ordered.{AreAmong, AreInOrder, HasAll, HasSub, IsAt}
use Rattle.live_gather.specs.Pieces.{numbers_of}
use Rattle.live_gather.specs.declared.gathered.Gathered.{Gathered}
use Rattle.live_gather.proofs.ListLemmas.{get_front, get_last}

moved : {A : Type 0} (xs ys : List A) (k m : ℕ) (a : A) → ((d : A) → get_or ys k d ≡ get_or xs m d) → k < length ys → slice_get xs m ≡ Some a → slice_get ys k ≡ Some a
moved xs ys k m a same lt at = slice_get_read ys (length ys) k a refl lt (sym (same a ∙ get_or_from_slice_get xs m a a at))

module _ (xs ys : List Gathered) (i j : ℕ) (s : SwappedAt xs ys i j) (size : length ys ≡ length xs) (first : i < length xs) (second : j < length xs) where
  there : (k : ℕ) (g : Gathered) → slice_get xs k ≡ Some g → (m : ℕ) × (slice_get ys m ≡ Some g)
  there k g at =
      dite (ℕ_discrete k i)
      (λ e. (j, moved xs ys j k g (λ d. s.1 d ∙ ap (λ n. get_or xs n d) (sym e)) (omega (arith, size, second)) at))
      (λ ne. dite (ℕ_discrete k j)
      (λ e. (i, moved xs ys i k g (λ d. s.0 d ∙ ap (λ n. get_or xs n d) (sym e)) (omega (arith, size, first)) at))
      (λ no. (k, moved xs ys k k g (λ d. s.2 k d ne no) (omega (arith, size, slice_get_within xs k g at)) at)))

  back : (k : ℕ) (g : Gathered) → slice_get ys k ≡ Some g → (m : ℕ) × (slice_get xs m ≡ Some g)
  back k g at =
      dite (ℕ_discrete k i)
      (λ e. (j, moved ys xs j k g (λ d. sym (s.0 d) ∙ ap (λ n. get_or ys n d) (sym e)) second at))
      (λ ne. dite (ℕ_discrete k j)
      (λ e. (i, moved ys xs i k g (λ d. sym (s.1 d) ∙ ap (λ n. get_or ys n d) (sym e)) first at))
      (λ no. (k, moved ys xs k k g (λ d. sym (s.2 k d ne no)) (omega (arith, size, slice_get_within ys k g at)) at)))

  pub all_swapped : (n : ℕ) → HasAll n xs → HasAll n ys
  all_swapped n h k lt = let t = h k lt in let m = there t.0 t.1.0 t.1.1 in (m.0, (t.1.0, m.1, t.1.2))

  pub among_swapped : (old : List Gathered) → AreAmong xs old → AreAmong ys old
  among_swapped old h k g at = let t = back k g at in h t.0 g t.1

  -- the first i are in order, and that of number i was at j
  pub order_swapped : AreInOrder i xs → IsAt i j xs → AreInOrder (i + 1) ys
  order_swapped h is k g lt at =
      dite (ℕ_discrete k i)
      (λ e.
      let here : slice_get ys k ≡ Some is.0 = ap (slice_get ys) e ∙ moved xs ys i j is.0 s.0 (omega (arith, size, first)) is.1 in
      ap (λ (x : Gathered). x.log.sub.0) (same_Some g is.0 (sym at ∙ here)) ∙ is.2 ∙ sym e)
      (λ ne. h k g (omega (arith, lt, ne)) (moved ys xs k k g (λ d. sym (s.2 k d ne (apart k lt ne))) (omega (arith, size, slice_get_within ys k g at)) at))
    where
      apart : (k : ℕ) → k < i + 1 → k ≢ i → k ≢ j
      apart k lt ne e =
          let below : k < i = omega (arith, lt, ne) in
          let number = h k is.0 below (ap (slice_get xs) e ∙ is.1) in
          absurd (omega (arith, below, number, is.2))

-- one more behind the others

has_push : (j : ℕ) (gs : List Gathered) (g : Gathered) → HasSub j gs → HasSub j (gs ++ g ∷ [])
has_push j gs g h = (h.0, (h.1.0, get_front gs (g ∷ []) h.0 h.1.0 h.1.1, h.1.2))

has_last : (j : ℕ) (gs : List Gathered) (g : Gathered) → g.log.sub.0 ≡ j → HasSub j (gs ++ g ∷ [])
has_last j gs g is = (length gs, (g, get_last gs g [], is))

-- that of the next number behind those of some
pub with_last : (j number : ℕ) (done : List (ℕ × List Marked)) (gs : List Gathered) (g : Gathered) → g.log.sub.0 ≡ number → ((k : ℕ) → Among k (numbers_of done) → HasSub k gs) → (number ≡ j) ⊎ Among j (numbers_of done) → HasSub j (gs ++ g ∷ [])
with_last j number done gs g sub h (inl same) = has_last j gs g (sub ∙ same)
with_last j number done gs g sub h (inr among) = has_push j gs g (h j among)

pub count_numbers : (ls : List (ℕ × List Marked)) → length (numbers_of ls) ≡ length ls
count_numbers [] = refl
count_numbers (l ∷ ls) = ap suc (count_numbers ls)
