-- Beats, one after another.
use Rattle.std.proofs.Common.{◌≡◌, ◌<◌, ◌≤◌, ◌+◌, ◌-◌, ℕ, zero, suc, List, [], ◌∷◌, ◌++◌, refl, sym, ap, ◌∙◌, subst, arith, append-nil, append_assoc}
use mathlib.Core.List.{IsPrefix}
use Rattle.pcm_base.specs.declared.call.Call.TheVariants.{MoveBy, Irq}
use Rattle.pcm_base.specs.declared.config.CardModel.{CardModel}
use Rattle.pcm_base.specs.declared.ids.SubId.{SubId}
use Rattle.pcm_base.specs.declared.state.Dir.{Dir}
use Rattle.room_parts.specs.Passes.{PassView}
use Rattle.live_work.specs.Beats.{HasBeaten, HasBeatenFirst, beat, beats, by_card}
use Rattle.live_work.specs.Called.{Call, HasCalled}
use Rattle.live_work.proofs.Called.{both_called, none_after}

prefix_trans : (xs ys zs : List Call) → IsPrefix xs ys → IsPrefix ys zs → IsPrefix xs zs
prefix_trans xs ys zs a b = (a.0 ++ b.0, sym (append_assoc xs a.0 b.0) ∙ ap (λ (l : List Call). l ++ b.0) a.1 ∙ b.1)

module _ (k : SubId) (frames : ℕ) where
  and_more : (n more : ℕ) → IsPrefix (beats k frames n) (beats k frames (more + n))
  and_more n zero =
      let e : n ≡ zero + n = omega arith in
      subst (λ (m : ℕ). IsPrefix (beats k frames n) (beats k frames m)) e ([], append-nil (beats k frames n))
  and_more n (suc more) =
      let e : suc (more + n) ≡ suc more + n = omega arith in
      subst (λ (m : ℕ). IsPrefix (beats k frames n) (beats k frames m)) e
      (prefix_trans (beats k frames n) (beats k frames (more + n)) (beats k frames (suc (more + n))) (and_more n more) (beat k frames, refl))

  among : (n m : ℕ) → n ≤ m → IsPrefix (beats k frames n) (beats k frames m)
  among n m le =
      let e : m - n + n ≡ m = omega arith in
      subst (λ (x : ℕ). IsPrefix (beats k frames n) (beats k frames x)) e (and_more n (m - n))

  next : (n : ℕ) → (beats k frames n ++ by_card k (MoveBy frames) ∷ []) ++ by_card k Irq ∷ [] ≡ beats k frames (n + 1)
  next n =
      let e : suc n ≡ n + 1 = omega arith in
      append_assoc (beats k frames n) (by_card k (MoveBy frames) ∷ []) (by_card k Irq ∷ []) ∙ ap (λ (m : ℕ). beats k frames m) e

  module _ (cards : List (CardModel × Dir)) (long_max : ℕ) where
    pub beaten_first : (n count : ℕ) (p q : PassView) → n ≤ count → HasBeaten cards long_max k frames n p q → HasBeatenFirst cards long_max k frames count p q
    beaten_first n count p q le h = (beats k frames n, among n count le, h)

    -- no event since
    pub beaten_still : (n : ℕ) (p q r : PassView) → HasBeaten cards long_max k frames n p q → HasCalled cards long_max [] q r → HasBeaten cards long_max k frames n p r
    beaten_still n p q r h none = none_after cards long_max (beats k frames n) p q r h none

    -- a beat without its interrupt
    pub moved_first : (n count : ℕ) (p q r : PassView) → n < count → HasBeaten cards long_max k frames n p q → HasCalled cards long_max (by_card k (MoveBy frames) ∷ []) q r → HasBeatenFirst cards long_max k frames count p r
    moved_first n count p q r lt h m =
        let front = beats k frames n ++ by_card k (MoveBy frames) ∷ [] in (
          front,
          prefix_trans front (beats k frames (n + 1)) (beats k frames count) (by_card k Irq ∷ [], next n) (among (n + 1) count (omega arith)),
          both_called cards long_max (beats k frames n) (by_card k (MoveBy frames) ∷ []) p q r h m,
        )

    pub beaten_more : (n : ℕ) (p q r s : PassView) → HasBeaten cards long_max k frames n p q → HasCalled cards long_max (by_card k (MoveBy frames) ∷ []) q r → HasCalled cards long_max (by_card k Irq ∷ []) r s → HasBeaten cards long_max k frames (n + 1) p s
    beaten_more n p q r s h m i =
        let front = beats k frames n ++ by_card k (MoveBy frames) ∷ [] in
        subst (λ (cs : List Call). HasCalled cards long_max cs p s) (next n)
        (both_called cards long_max front (by_card k Irq ∷ []) p r s (both_called cards long_max (beats k frames n) (by_card k (MoveBy frames) ∷ []) p q r h m) i)
