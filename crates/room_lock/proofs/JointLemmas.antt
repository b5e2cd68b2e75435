-- The parts of a member in the acts of one event, one after another.
use Rattle.std.proofs.Common.{◌≡◌, ◌≤◌, ◌<◌, ◌+◌, ℕ, zero, suc, cond, List, [], ◌∷◌, ◌++◌, length, drop, slice_get, Some, refl, sym, ap, append_assoc, ◌∙◌, subst, arith}
use Rattle.pcm_base.specs.declared.state.State.{State}
use Rattle.pcm_base.specs.declared.state.State.TheVariants as state
use Rattle.pcm_base.specs.declared.votes.Acted.{Acted}
use Rattle.floor_rule.specs.declared.entry.Joint.{Joint}
use Rattle.room_lock.specs.Between.{is_watch}
use Rattle.room_lock.specs.Joints.{AllVoted, FewVoted, joint_at, joints_at, state_after}

pub after_none : (acts : List Acted) (n : ℕ) (t : State) → length acts ≤ n → state_after (drop n acts) t ≡ t
after_none [] zero t h = refl
after_none [] (suc n) t h = refl
after_none (a ∷ acts) zero t h = absurd (omega (arith, h))
after_none (a ∷ acts) (suc n) t h = after_none acts n t (omega (arith, h))

drop_suc : {A : Type 0} (xs : List A) (i : ℕ) (a : A) → slice_get xs i ≡ Some a → drop i xs ≡ a ∷ drop (suc i) xs
drop_suc [] i a h = absurd (cc)
drop_suc (x ∷ xs) zero a h = let e : x ≡ a = cc in ap (λ y. y ∷ xs) e
drop_suc (x ∷ xs) (suc i) a h = drop_suc xs i a h

pub drop_at : {A : Type 0} (xs : List A) (i : ℕ) (a : A) → slice_get xs i ≡ Some a → drop i xs ≡ a ∷ drop (i + 1) xs
drop_at xs i a h = let e : suc i ≡ i + 1 = omega arith in drop_suc xs i a h ∙ ap (λ n. a ∷ drop n xs) e

pub after_some : (acts : List Acted) (n : ℕ) (a : Acted) (t : State) → slice_get acts n ≡ Some a → state_after (drop n acts) t ≡ cond (is_watch a.act) t state.Running
after_some acts n a t h = ap (λ l. state_after l t) (drop_at acts n a h)

pub voted_at : (place : ℕ) (acts : List Acted) (i : ℕ) (a : Acted) → AllVoted place acts → slice_get acts i ≡ Some a → place < length a.votes
voted_at place [] i a h at = absurd (cc)
voted_at place (x ∷ acts) zero a h at = let e : x ≡ a = cc in subst (λ (d : Acted). place < length d.votes) e h.0
voted_at place (x ∷ acts) (suc i) a h at = voted_at place acts i a h.1 at

pub few_at : (acts : List Acted) (i : ℕ) (a : Acted) → FewVoted acts → slice_get acts i ≡ Some a → length a.votes ≤ 16
few_at [] i a h at = absurd (cc)
few_at (x ∷ acts) zero a h at = let e : x ≡ a = cc in subst (λ (d : Acted). length d.votes ≤ 16) e h.0
few_at (x ∷ acts) (suc i) a h at = few_at acts i a h.1 at

pub joints_next : (place room n : ℕ) (acts : List Acted) (i : ℕ) (a : Acted) → slice_get acts i ≡ Some a
    → joints_at place room (n + i) (drop i acts) ≡ joint_at place room (n + i) a ∷ joints_at place room (n + (i + 1)) (drop (i + 1) acts)
joints_next place room n acts i a h =
    let e : n + i + 1 ≡ n + (i + 1) = omega arith in
    ap (joints_at place room (n + i)) (drop_at acts i a h) ∙ ap (λ m. joint_at place room (n + i) a ∷ joints_at place room m (drop (i + 1) acts)) e

-- one joint more, and those that are left
pub joints_on : (place room n : ℕ) (acts : List Acted) (i : ℕ) (a : Acted) (found : List Joint) (j : Joint) → slice_get acts i ≡ Some a → j ≡ joint_at place room (n + i) a
    → found ++ joints_at place room (n + i) (drop i acts) ≡ joints_at place room n acts → (found ++ j ∷ []) ++ joints_at place room (n + (i + 1)) (drop (i + 1) acts) ≡ joints_at place room n acts
joints_on place room n acts i a found j at is h =
    append_assoc found (j ∷ []) (joints_at place room (n + (i + 1)) (drop (i + 1) acts))
    ∙ ap (λ k. found ++ k ∷ joints_at place room (n + (i + 1)) (drop (i + 1) acts)) is
    ∙ sym (ap (λ l. found ++ l) (joints_next place room n acts i a at)) ∙ h

pub joints_end : (place room n : ℕ) (acts : List Acted) (i : ℕ) → length acts ≤ i → joints_at place room n (drop i acts) ≡ []
joints_end place room n [] zero h = refl
joints_end place room n [] (suc i) h = refl
joints_end place room n (a ∷ acts) zero h = absurd (omega (arith, h))
joints_end place room n (a ∷ acts) (suc i) h = joints_end place room n acts i (omega (arith, h))
