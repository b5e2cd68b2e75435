-- The shape of an accepted configuration.
use Rattle.std.proofs.Common.{ℕ, zero, suc, ◌≡◌, ◌+◌, ◌-◌, ◌*◌, ◌^◌, ◌≤◌, ◌<◌, true, false, nat_le, refl, sym, ap, ◌∙◌, arith}
use Rattle.std.proofs.lemmas.Bool.Decides.{nat_tests}
use Rattle.std.proofs.Math.Nat.{mul-mod_left, mul-le-mul_right, two-pow-succ}
use Rattle.pcm_base.specs.Boundary.{boundary_of, doubled}
use Rattle.pcm_base.specs.CardFacts.{HasChannels}
use Rattle.pcm_base.specs.Numbers.{sample_bytes}
use Rattle.pcm_base.specs.Shape.{IsSoundShape}
use Rattle.pcm_base.specs.declared.config.CardModel.{CardModel}
use Rattle.pcm_base.specs.declared.config.Config.{Config}
use Rattle.pcm_base.specs.declared.format.Format.{Format}
use Rattle.pcm_base.specs.declared.format.Format.TheVariants as format
use Rattle.pcm_base.specs.model.Allowed.{accepts, buffer_of, shape_of}
use Rattle.pcm_laws.proofs.Sizes.{IsAllowed, accepts-allows, accepts-buffer, accepts-long, boundary_of-most, boundary_of-room, boundary_of-times}
use Rattle.pcm_laws.specs.Pointers.{IsDoubled}

-- the boundary is that of the least long_max which leaves room for it

times_two : (x j : ℕ) → x * 2 ^ suc j ≡ x * 2 * 2 ^ j
times_two x j = grind arith

next_power : (x j : ℕ) → x * 2 ^ suc j ≡ x * 2 ^ j * 2
next_power x j = grind arith

least_power : (x j : ℕ) → x ≤ x * 2 ^ j
least_power x zero = omega arith
least_power x (suc j) = let k : x ≤ x * 2 ^ j = least_power x j in omega (arith, k, next_power x j)

more_than_times : (j : ℕ) → j < 2 ^ j
more_than_times zero = omega arith
more_than_times (suc j) = omega (arith, more_than_times j, two-pow-succ j)

doubled-stops : (n buffer long_max x : ℕ) → long_max - buffer < x * 2 → doubled n buffer long_max x ≡ x
doubled-stops zero buffer long_max x h = refl
doubled-stops (suc n) buffer long_max x h =
    let e : nat_le (x * 2) (long_max - buffer) ≡ false = grind (arith, nat_tests, h) in
    ap (λ t. elim t as (λ _. ℕ) [ true ↦ doubled n buffer long_max (x * 2) | false ↦ x ]) e

doubled-reaches : (j n buffer long_max x : ℕ) → 0 < x → long_max - buffer ≡ x * 2 ^ j → j ≤ n → doubled n buffer long_max x ≡ x * 2 ^ j
doubled-reaches zero n buffer long_max x some e h = doubled-stops n buffer long_max x (omega (arith, e, some)) ∙ omega arith
doubled-reaches (suc j) zero buffer long_max x some e h = absurd (omega (arith, h))
doubled-reaches (suc j) (suc n) buffer long_max x some e h =
    let twice : x * 2 ^ suc j ≡ x * 2 * 2 ^ j = times_two x j in
    let room : x * 2 ≤ x * 2 * 2 ^ j = least_power (x * 2) j in
    let fits : x * 2 ≤ long_max - buffer = omega (arith, e, twice, room) in
    let t : nat_le (x * 2) (long_max - buffer) ≡ true = grind (arith, nat_tests, fits) in
    ap (λ t. elim t as (λ _. ℕ) [ true ↦ doubled n buffer long_max (x * 2) | false ↦ x ]) t
    ∙ (doubled-reaches j n buffer long_max (x * 2) (omega (arith, some)) (e ∙ twice) (omega (arith, h)) ∙ sym twice)

reached : (b l k : ℕ) → 0 < b → l ≡ b * 2 ^ k → boundary_of b (l + b) ≡ l
reached b l k some e =
    let less : l + b - b ≡ l = omega arith in
    let power : 1 * 2 ^ k ≤ b * 2 ^ k = mul-le-mul_right (2 ^ k) some in
    doubled-reaches k (l + b) b (l + b) b some (less ∙ e) (omega (arith, more_than_times k, power, e)) ∙ sym e

pub boundary_of-again : (b n : ℕ) → 0 < b → boundary_of b n ≡ boundary_of b (boundary_of b n + b)
boundary_of-again b n some = let d : IsDoubled b (boundary_of b n) = boundary_of-times b n in sym (reached b (boundary_of b n) d.times some d.doublings)

-- frames have at most 32 bytes
sample-least : (f : Format) (n : ℕ) → 1 ≤ n → 1 ≤ sample_bytes f * n
sample-least format.S8 n h = omega (arith, h)
sample-least format.U8 n h = omega (arith, h)
sample-least format.S16Le n h = omega (arith, h)
sample-least format.S16Be n h = omega (arith, h)
sample-least format.S24Le n h = omega (arith, h)
sample-least format.S32Le n h = omega (arith, h)
sample-least format.S32Be n h = omega (arith, h)
sample-least format.S24Le3 n h = omega (arith, h)

sample-most : (f : Format) (n : ℕ) → n ≤ 8 → sample_bytes f * n ≤ 32
sample-most format.S8 n h = omega (arith, h)
sample-most format.U8 n h = omega (arith, h)
sample-most format.S16Le n h = omega (arith, h)
sample-most format.S16Be n h = omega (arith, h)
sample-most format.S24Le n h = omega (arith, h)
sample-most format.S32Le n h = omega (arith, h)
sample-most format.S32Be n h = omega (arith, h)
sample-most format.S24Le3 n h = omega (arith, h)

pub IsSoundShape-shape_of : (m : CardModel) (n : ℕ) (c : Config) → HasChannels m → n < 2 ^ 36 → accepts m n c ≡ true → IsSoundShape (shape_of c n)
IsSoundShape-shape_of m n c has small h =
    let a : IsAllowed m c = accepts-allows m n c h in
    let b : ℕ = buffer_of c in
    let four : 4 * buffer_of c ≤ n = accepts-long m n c h in
    let some : 4 ≤ buffer_of c = accepts-buffer m n c h in
    let one : 1 ≤ c.channels = omega (arith, has.least, a.channels.least) in
    let eight : c.channels ≤ 8 = omega (arith, has.most, a.channels.most) in
    let below : boundary_of (buffer_of c) n + buffer_of c ≤ n = boundary_of-most b n (omega (arith, four)) in
    record {
      periods = refl;
      least = some;
      most = a.buffer.most;
      channel = one;
      channels = eight;
      samples = mul-mod_left (sample_bytes c.format) c.channels;
      frame = sample-least c.format c.channels one;
      frames = sample-most c.format c.channels eight;
      boundary = boundary_of-again b n (omega (arith, some));
      room = boundary_of-room b n (omega (arith, some)) four;
      long = omega (arith, below, small);
    }
