-- Remainders by the buffer and by the boundary.
use Rattle.std.proofs.Common.{ℕ, ◌≡◌, ◌≢◌, ◌+◌, ◌-◌, ◌*◌, ◌/◌, ◌%◌, ◌≤◌, ◌<◌, ◌⊎◌, inl, inr, sym, ap, ◌∙◌, arith}
use Rattle.std.proofs.Math.Nat.{mod-add-mod, add-mod-mod, mod-mod, mod_self, add-mod_right, mod-eq_of_lt, mod-lt, mod-eq-sub-mod, mod-mod_of_dvd, dvd_of_mod-eq-zero, add-mul-mod_self_right, mod-add-div'}
use Rattle.pcm_laws.specs.Rings.{slot_distance}

-- numbers that differ by less than b have different remainders
pub add-mod_other : (b p j : ℕ) → 0 < j → j < b → (p + j) % b ≢ p % b
add-mod_other b p j some few same = by (split (p % b + j) b)
  where
    split : (m n : ℕ) → (m < n) ⊎ (n ≤ m)
    split m n = grind arith

    least : p % b < b
    least = mod-lt p (omega arith)

    sum : (p + j) % b ≡ (p % b + j) % b
    sum = sym (mod-add-mod p b j)

    by : (p % b + j < b) ⊎ (b ≤ p % b + j) → ⊥
    by (inl l) = let e : (p % b + j) % b ≡ p % b + j = mod-eq_of_lt l in omega (arith, sum, e, same)
    by (inr l) =
        let e : (p % b + j) % b ≡ (p % b + j - b) % b = mod-eq-sub-mod l in
        let s : p % b + j - b < b = omega (arith, least) in
        let f : (p % b + j - b) % b ≡ p % b + j - b = mod-eq_of_lt s in
        omega (arith, sum, e, f, same, least)

-- equal remainders stay equal after a sum
pub mod-add_same : (b p q j : ℕ) → p % b ≡ q % b → (p + j) % b ≡ (q + j) % b
mod-add_same b p q j same = sym (mod-add-mod p b j) ∙ (ap (λ r. (r + j) % b) same ∙ mod-add-mod q b j)

-- up to the end of the ring positions are contiguous, and there the next one begins

pub add-mod_run : (b p i : ℕ) → p % b + i < b → (p + i) % b ≡ p % b + i
add-mod_run b p i inside = sym (mod-add-mod p b i) ∙ mod-eq_of_lt inside

pub add-mod_end : (b p n : ℕ) → p % b + n ≡ b → (p + n) % b ≡ 0
add-mod_end b p n whole = sym (mod-add-mod p b n) ∙ (ap (λ x. x % b) whole ∙ mod_self b)

-- from the slot of p on, that of x comes after so many

pub slot_distance-reaches : (b p x : ℕ) → 0 < b → (p + slot_distance b p x) % b ≡ x % b
slot_distance-reaches b p x some =
    let small : p % b < b = mod-lt p some in
    let sum : p % b + (x % b + b - p % b) ≡ x % b + b = omega (arith, small) in
    add-mod-mod p (x % b + b - p % b) b
    ∙ (sym (mod-add-mod p b (x % b + b - p % b))
    ∙ (ap (λ n. n % b) sum
    ∙ (add-mod_right (x % b) b ∙ mod-mod x b)))

pub slot_distance-only : (b p x i : ℕ) → 0 < b → i < b → (p + i) % b ≡ x % b → i ≡ slot_distance b p x
slot_distance-only b p x i some inside same = by (split i (slot_distance b p x))
  where
    split : (m n : ℕ) → (m < n) ⊎ (m ≡ n) ⊎ (n < m)
    split m n = grind arith

    least : slot_distance b p x < b
    least = mod-lt (x % b + b - p % b) some

    both : (p + slot_distance b p x) % b ≡ (p + i) % b
    both = slot_distance-reaches b p x some ∙ sym same

    by : (i < slot_distance b p x) ⊎ (i ≡ slot_distance b p x) ⊎ (slot_distance b p x < i) → i ≡ slot_distance b p x
    by (inl l) = let e : p + i + (slot_distance b p x - i) ≡ p + slot_distance b p x = omega (arith, l) in absurd (add-mod_other b (p + i) (slot_distance b p x - i) (omega (arith, l)) (omega (arith, l, least)) (ap (λ n. n % b) e ∙ both))
    by (inr (inl e)) = e
    by (inr (inr l)) = let e : p + slot_distance b p x + (i - slot_distance b p x) ≡ p + i = omega (arith, l) in absurd (add-mod_other b (p + slot_distance b p x) (i - slot_distance b p x) (omega (arith, l)) (omega (arith, l, inside)) (ap (λ n. n % b) e ∙ sym both))

-- a boundary of whole buffers

pub mod-mod_whole : (b l p : ℕ) → l % b ≡ 0 → p % l % b ≡ p % b
mod-mod_whole b l p whole = mod-mod_of_dvd b p (dvd_of_mod-eq-zero b whole)

pub add-mod_whole : (b l p : ℕ) → l % b ≡ 0 → (l + p) % b ≡ p % b
add-mod_whole b l p whole = sym (mod-add-mod l b p) ∙ (ap (λ r. (r + p) % b) whole ∙ (let e : 0 + p ≡ p = omega arith in ap (λ n. n % b) e))

-- differences

regrouped : (h u l : ℕ) → 0 < l → u ≤ h → h + l - u % l ≡ h - u + (l + u / l * l)
regrouped h u l some below =
    let parts : u % l + u / l * l ≡ u = mod-add-div' u l in
    let small : u % l < l = mod-lt u some in
    omega (arith, parts, small)

whole_part : (n l k : ℕ) → (n + (l + k * l)) % l ≡ n % l
whole_part n l k =
    let e : n + (l + k * l) ≡ n + l + k * l = omega arith in
    ap (λ x. x % l) e ∙ (add-mul-mod_self_right (n + l) k l ∙ add-mod_right n l)

-- h less u, from what is shown of both
pub sub-mod : (l h u : ℕ) → 0 < l → u ≤ h → (h % l + l - u % l) % l ≡ (h - u) % l
sub-mod l h u some below =
    let small : u % l < l = mod-lt u some in
    let group : h % l + l - u % l ≡ h % l + (l - u % l) = omega (arith, small) in
    let group' : h + (l - u % l) ≡ h + l - u % l = omega (arith, small) in
    ap (λ x. x % l) group
    ∙ (mod-add-mod h l (l - u % l)
    ∙ (ap (λ x. x % l) (group' ∙ regrouped h u l some below)
    ∙ whole_part (h - u) l (u / l)))

pub sub-mod_small : (l h u : ℕ) → u ≤ h → h - u < l → (h % l + l - u % l) % l ≡ h - u
sub-mod_small l h u below small = sub-mod l h u (omega arith) below ∙ mod-eq_of_lt small

-- the same, where the upper one is a sum
pub add-sub-mod_small : (l h n u : ℕ) → u ≤ h + n → h + n - u < l → (h % l + n + l - u % l) % l ≡ h + n - u
add-sub-mod_small l h n u below small =
    let some : 0 < l = omega arith in
    let least : u % l < l = mod-lt u some in
    let group : h % l + n + l - u % l ≡ h % l + n + (l - u % l) = omega (arith, least) in
    let group' : (h + n) % l + l - u % l ≡ (h + n) % l + (l - u % l) = omega (arith, least) in
    ap (λ x. x % l) group
    ∙ (sym (mod-add-mod (h % l + n) l (l - u % l))
    ∙ (ap (λ r. (r + (l - u % l)) % l) (mod-add-mod h l n)
    ∙ (ap (λ x. x % l) (sym group')
    ∙ sub-mod_small l (h + n) u below small)))

-- back by n
pub sub-mod_back : (l u n : ℕ) → n ≤ u → n < l → (u % l + l - n) % l ≡ (u - n) % l
sub-mod_back l u n below small = ap (λ r. (u % l + l - r) % l) (sym (mod-eq_of_lt small)) ∙ sub-mod l u n (omega arith) below

-- a position that is shown as p
pub sub-sub-mod : (l h p : ℕ) → 0 < l → p ≤ h → (h - (h - p) % l) % l ≡ p % l
sub-sub-mod l h p some below =
    let parts : (h - p) % l + (h - p) / l * l ≡ h - p = mod-add-div' (h - p) l in
    let e : h - (h - p) % l ≡ p + (h - p) / l * l = omega (arith, parts) in
    ap (λ x. x % l) e ∙ add-mul-mod_self_right p ((h - p) / l) l

-- counted from the boundary
pub add-sub_origin : (l p q : ℕ) → (l + p) - (l + q) ≡ p - q
add-sub_origin l p q = omega arith
