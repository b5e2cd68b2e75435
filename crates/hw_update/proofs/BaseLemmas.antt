-- Bases, multiples of a buffer, and the distance that a card went.
use Rattle.std.proofs.Common.{ℕ, zero, suc, ◌≡◌, ◌+◌, ◌-◌, ◌*◌, ◌%◌, ◌≤◌, ◌<◌, ◌⊎◌, inl, inr, Bool, true, false, nat_le, zero-add, subst, sym, ap, ◌∙◌, arith}
use Rattle.std.proofs.lemmas.Grind.{common_steps}
use Rattle.std.proofs.lemmas.Bool.{cases_lt}
use Rattle.std.proofs.lemmas.Nat.{mul-mod_first}
use Rattle.std.proofs.lemmas.Nat.Gcd.{dvd_of_mod-eq-zero}
use Rattle.std.proofs.Math.Nat.{add-mod-mod, mod-add-mod, add-mod_right, mod-eq_of_lt, mod-mod_of_dvd, mod_self, zero-mod}
use Rattle.pcm_base.specs.declared.config.Shape.{Shape}
use Rattle.pcm_base.specs.Boundary.{doubled, boundary_of}
use Rattle.pcm_base.specs.Shape.{IsSoundShape}
use Rattle.hw_update.specs.declared.HwPtr.{HwPtr}
use Rattle.hw_update.specs.HwPtr.{IsBased}

-- a buffer that is doubled stays a multiple of itself
whole_twice : (b m : ℕ) → m % b ≡ 0 → m * 2 % b ≡ 0
whole_twice b m e = sym (mul-mod_first m 2 b) ∙ (ap (λ n. n * 2 % b) e ∙ zero-mod b)

whole_either : (t : Bool) (b x y : ℕ) → x % b ≡ 0 → y % b ≡ 0 → (elim t as (λ _. ℕ) [ true ↦ x | false ↦ y ]) % b ≡ 0
whole_either true b x y e f = e
whole_either false b x y e f = f

whole_doubled : (n b l m : ℕ) → m % b ≡ 0 → doubled n b l m % b ≡ 0
whole_doubled zero b l m e = e
whole_doubled (suc n) b l m e = whole_either (nat_le (m * 2) (l - b)) b (doubled n b l (m * 2)) m (whole_doubled n b l (m * 2) (whole_twice b m e)) e

whole_boundary : (b l long : ℕ) → l ≡ boundary_of b long → l % b ≡ 0
whole_boundary b l long e = ap (λ n. n % b) e ∙ whole_doubled long b long b (mod_self b)

-- a multiple of b that is below another one leaves room for b more
room_for_buffer : (b l n : ℕ) → 0 < b → n % b ≡ 0 → l % b ≡ 0 → n < l → n + b ≤ l
room_for_buffer b l n z e f h = grind (arith, common_steps)

-- a multiple of b, and what lies above it
above_base : (b base p : ℕ) → base % b ≡ 0 → p < b → (base + p) % b ≡ p
above_base b base p e h = sym (mod-add-mod base b p) ∙ (ap (λ n. (n + p) % b) e ∙ (ap (λ n. n % b) (zero-add p) ∙ mod-eq_of_lt h))

-- The card stands p frames above the new base, and has gone a distance below one buffer.
pub record Goes (b l hw p base : ℕ) : Type 0 where
  pub distance : ℕ
  pub near : distance < b
  pub card : (hw + distance) % b ≡ p
  pub reached : base + p ≡ (hw + distance) % l
  pub whole : base % b ≡ 0
  pub below : base < l

-- in the same buffer
goes_here : (b l base hw p : ℕ) → l % b ≡ 0 → base % b ≡ 0 → base < l → base ≤ hw → hw < base + b → p < b → hw ≤ base + p → Goes b l hw p base
goes_here b l base hw p e whole below low high h k =
    let there : hw + (base + p - hw) ≡ base + p = omega arith in
    let room : base + b ≤ l = room_for_buffer b l base (omega arith) whole e below in
    let inside : base + p < l = omega arith in
    record {
      distance = base + p - hw;
      near = omega arith;
      card = ap (λ n. n % b) there ∙ above_base b base p whole h;
      reached = sym (ap (λ n. n % l) there ∙ mod-eq_of_lt inside);
      whole = whole;
      below = below;
    }

-- the base of the next buffer, which is 0 at the boundary
next_reached : (b l base p : ℕ) → base + b ≤ l → l % b ≡ 0 → base % b ≡ 0 → p < b → (base + b < l) ⊎ (l ≤ base + b) → (base + b) % l + p ≡ (base + b + p) % l
next_reached b l base p room e whole h (inl k) =
    let more : base + b + b ≤ l = room_for_buffer b l (base + b) (omega arith) (add-mod_right base b ∙ whole) e k in
    let inside : base + b + p < l = omega arith in
    ap (λ n. n + p) (mod-eq_of_lt k) ∙ sym (mod-eq_of_lt inside)
next_reached b l base p room e whole h (inr k) =
    let there : base + b ≡ l = omega arith in
    let inside : p < l = omega arith in
    let turned : (p + l) % l ≡ p = add-mod_right p l ∙ mod-eq_of_lt inside in
    let swapped : l + p ≡ p + l = omega arith in
    ap (λ n. n % l + p) there ∙ (ap (λ n. n + p) (mod_self l) ∙ (zero-add p ∙ (sym turned ∙ (ap (λ n. n % l) (sym swapped) ∙ ap (λ n. (n + p) % l) (sym there)))))

next_whole : (b l base : ℕ) → base + b ≤ l → base % b ≡ 0 → (base + b < l) ⊎ (l ≤ base + b) → (base + b) % l % b ≡ 0
next_whole b l base room whole (inl k) = ap (λ n. n % b) (mod-eq_of_lt k) ∙ (add-mod_right base b ∙ whole)
next_whole b l base room whole (inr k) =
    let there : base + b ≡ l = omega arith in
    ap (λ n. n % l % b) there ∙ (ap (λ n. n % b) (mod_self l) ∙ zero-mod b)

-- in the next buffer
goes_next : (b l base hw p next : ℕ) → l % b ≡ 0 → base % b ≡ 0 → base < l → base ≤ hw → hw < base + b → p < b → base + p < hw → next ≡ (base + b) % l → Goes b l hw p next
goes_next b l base hw p next e whole below low high h k is =
    let there : hw + (base + b + p - hw) ≡ base + b + p = omega arith in
    let room : base + b ≤ l = room_for_buffer b l base (omega arith) whole e below in
    let turned : (base + b) % b ≡ 0 = add-mod_right base b ∙ whole in
    record {
      distance = base + b + p - hw;
      near = omega arith;
      card = ap (λ n. n % b) there ∙ above_base b (base + b) p turned h;
      reached = ap (λ n. n + p) is ∙ (next_reached b l base p room e whole h (cases_lt (base + b) l) ∙ sym (ap (λ n. n % l) there));
      whole = ap (λ n. n % b) is ∙ next_whole b l base room whole (cases_lt (base + b) l);
      below = omega arith;
    }

-- A base that stays, or moves on to the next buffer, is right.
pub goes : (s : Shape) (old : HwPtr) (p base : ℕ) → IsSoundShape s → p < s.buffer → IsBased s old
    → (old.hw ≤ old.base + p → base ≡ old.base) → (old.base + p < old.hw → base ≡ (old.base + s.buffer) % s.boundary) → Goes s.buffer s.boundary old.hw p base
goes s old p base sound h at same next = by_place (cases_lt (old.base + p) old.hw)
  where
    by_place : (old.base + p < old.hw) ⊎ (old.hw ≤ old.base + p) → Goes s.buffer s.boundary old.hw p base
    by_place (inl k) = goes_next s.buffer s.boundary old.base old.hw p base (whole_boundary s.buffer s.boundary _ sound.boundary) at.whole at.below at.low at.high h k (next k)
    by_place (inr k) = subst (λ n. Goes s.buffer s.boundary old.hw p n) (sym (same k)) (goes_here s.buffer s.boundary old.base old.hw p (whole_boundary s.buffer s.boundary _ sound.boundary) at.whole at.below at.low at.high h k)

-- the pointer itself lies below the boundary
pub based_below : (s : Shape) (p : HwPtr) → IsSoundShape s → IsBased s p → p.base + s.buffer ≤ s.boundary
based_below s p sound at = room_for_buffer s.buffer s.boundary p.base (omega arith) at.whole (whole_boundary s.buffer s.boundary _ sound.boundary) at.below

-- two numbers below l that lead from x to the same remainder are one
other_place : (l x i j : ℕ) → i < j → j < i + l → (x + i) % l ≡ (x + j) % l → ⊥
other_place l x i j h k e = grind (arith, common_steps)

same_place : (l x i j : ℕ) → i < l → j < l → (x + i) % l ≡ (x + j) % l → i ≡ j
same_place l x i j h k e = grind (arith, other_place l x i j, other_place l x j i)

-- what leads from x to x + d is d
leads : (l x d : ℕ) → 0 < l → (x + ((x + d) % l + l - x % l) % l) % l ≡ (x + d) % l
leads l x d z =
    let far : ℕ = (x + d) % l + l - x % l in
    let there : x % l + ((x + d) % l + l - x % l) ≡ (x + d) % l + l = omega arith in
    add-mod-mod x far l
    ∙ (sym (mod-add-mod x l far)
    ∙ (ap (λ n. n % l) there ∙ (add-mod_right ((x + d) % l) l ∙ grind arith)))

-- a distance below l, from the remainders of its ends
distance_is : (l x d : ℕ) → d < l → ((x + d) % l + l - x % l) % l ≡ d
distance_is l x d h = same_place l x (((x + d) % l + l - x % l) % l) d (omega arith) h (leads l x d (omega arith))

-- the distance, from the pointers before and after
pub moved_is : (b l hw p base moved : ℕ) (g : Goes b l hw p base) → b ≤ l → hw < l → moved ≡ (base + p + l - hw) % l → moved ≡ g.distance
moved_is b l hw p base moved g room below is =
    let near : g.distance < l = omega (arith, g.near) in
    is ∙ (ap (λ n. (n + l - hw) % l) g.reached
    ∙ (ap (λ n. ((hw + g.distance) % l + l - n) % l) (sym (mod-eq_of_lt below))
    ∙ distance_is l hw g.distance near))

-- and from the slots of the card before and after
pub moved_from_slots : (b l hw p base : ℕ) (g : Goes b l hw p base) → g.distance ≡ (p + b - hw % b) % b
moved_from_slots b l hw p base g = sym (distance_is b hw g.distance g.near) ∙ ap (λ n. (n + b - hw % b) % b) g.card

-- the same distance, between positions without bound
pub distance_of : (b l hw p base h c : ℕ) (g : Goes b l hw p base) → l % b ≡ 0 → hw ≡ h % l → p ≡ c % b → h ≤ c → c < h + b → g.distance ≡ c - h
distance_of b l hw p base h c g whole is slot low high =
    let there : h + (c - h) ≡ c = omega arith in
    let begun : hw % b ≡ h % b = ap (λ n. n % b) is ∙ mod-mod_of_dvd b h (dvd_of_mod-eq-zero b whole) in
    same_place b h g.distance (c - h) g.near (omega arith)
    (sym (mod-add-mod h b g.distance) ∙ (ap (λ n. (n + g.distance) % b) (sym begun)
    ∙ (mod-add-mod hw b g.distance ∙ (g.card ∙ (slot ∙ ap (λ n. n % b) (sym there))))))

-- and where it ends
pub shown_at : (b l hw p base h c : ℕ) (g : Goes b l hw p base) → hw ≡ h % l → h ≤ c → g.distance ≡ c - h → base + p ≡ c % l
shown_at b l hw p base h c g is low far =
    let there : h + g.distance ≡ c = omega arith in
    g.reached ∙ (ap (λ n. (n + g.distance) % l) is ∙ (mod-add-mod h l g.distance ∙ ap (λ n. n % l) there))

pub card_at : (b l hw p base : ℕ) → Goes b l hw p base → p < b → (base + p) % b ≡ p
card_at b l hw p base g h = above_base b base p g.whole h

pub whole_at : (s : Shape) → IsSoundShape s → s.boundary % s.buffer ≡ 0
whole_at s sound = whole_boundary s.buffer s.boundary _ sound.boundary
