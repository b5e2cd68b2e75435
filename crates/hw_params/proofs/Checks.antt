-- The test of the model and the record of its conditions, and why the sizes of an accepted configuration agree.
use Rattle.std.proofs.Common.{◌≡◌, ℕ, zero, suc, ◌+◌, ◌-◌, ◌*◌, ◌^◌, ◌<◌, ◌≤◌, Bool, true, false, ◌&&◌, ◌||◌, ◌⊎◌, inl, inr, refl, sym, ◌∙◌, ap, subst, arith}
use Rattle.std.specs.Prelude.{nat_eq, nat_le}
use Rattle.std.proofs.lemmas.Bool.Decides.{nat_tests}
use Rattle.std.proofs.lemmas.Bool.{eq-eqb}
use Rattle.std.proofs.Math.Nat.{mul-le-mul, mul-le-mul_left, mul-mod_left, one-le-mul, two-pow-succ}
use Rattle.pcm_base.specs.declared.config.CardModel.{CardModel}
use Rattle.pcm_base.specs.declared.config.Config.{Config}
use Rattle.pcm_base.specs.declared.config.Span.{Span}
use Rattle.pcm_base.specs.Boundary.{doubled, boundary_of}
use Rattle.pcm_base.specs.CardFacts.{HasChannels}
use Rattle.pcm_base.specs.Numbers.{sample_bytes}
use Rattle.pcm_base.specs.Shape.{IsSoundShape}
use Rattle.pcm_base.specs.model.Allowed.{is_in, allows, buffer_of, frame_bytes_of}
use Rattle.hw_params.specs.Hull.{Allowed}
use Rattle.hw_params.specs.Spans.{Within}
use Rattle.hw_params.proofs.MaskLaws.{width-least, width-most}

both : (a b : Bool) → (a && b) ≡ true → (a ≡ true) × (b ≡ true)
both true b h = (refl, h)
both false b h = absurd (cc)

and : (a b : Bool) → a ≡ true → b ≡ true → (a && b) ≡ true
and true b x y = y
and false b x y = x

one : (a b : Bool) → (a || b) ≡ true → (a ≡ true) ⊎ (b ≡ true)
one true b h = inl refl
one false b h = inr h

or-left : (a b : Bool) → a ≡ true → (a || b) ≡ true
or-left true b x = refl
or-left false b x = absurd (cc)

or-right : (a b : Bool) → b ≡ true → (a || b) ≡ true
or-right true b x = refl
or-right false b x = x

is : (a b : ℕ) → nat_eq a b ≡ true → a ≡ b
is a b h = grind (arith, nat_tests)

le : (a b : ℕ) → nat_le a b ≡ true → a ≤ b
le a b h = grind (arith, nat_tests)

le-test : (a b : ℕ) → a ≤ b → nat_le a b ≡ true
le-test a b h = grind (arith, nat_tests)

within : (s : Span) (n : ℕ) → is_in s n ≡ true → Within s n
within s n h = let w = both (nat_le s.least n) (nat_le n s.most) h in record { least = le _ _ w.0; most = le _ _ w.1 }

within-test : (s : Span) (n : ℕ) → Within s n → is_in s n ≡ true
within-test s n w = and (nat_le s.least n) (nat_le n s.most) (le-test _ _ w.least) (le-test _ _ w.most)

-- a configuration that passes the test is allowed
pub tested : (m : CardModel) (c : Config) → allows m c ≡ true → Allowed m c
tested m c h =
    let h1 = both _ _ h in
    let h2 = both _ _ h1.1 in
    let h3 = both _ _ h2.1 in
    let h4 = both _ _ h3.1 in
    let h5 = both _ _ h4.1 in
    let h6 = both _ _ h5.1 in
    let h7 = both _ _ h6.1 in
    let h8 = both _ _ h7.1 in
    record {
      access = is _ _ h1.0;
      format = is _ _ h2.0;
      channels = within _ _ h3.0;
      rate = within _ _ h4.0;
      period = within _ _ h5.0;
      periods = within _ _ h6.0;
      buffer = within _ _ h7.0;
      bytes = le _ _ h8.0;
      wide = elim (one _ _ h8.1) [ inl w ↦ inl (le _ _ w) | inr w ↦ inr (le _ _ w) ];
    }

wide-test : (r w n : ℕ) → (r ≤ w) ⊎ (n ≤ 2) → (nat_le r w || nat_le n 2) ≡ true
wide-test r w n (inl h) = or-left _ _ (le-test r w h)
wide-test r w n (inr h) = or-right (nat_le r w) _ (le-test n 2 h)

-- and the other way round
pub passed : (m : CardModel) (c : Config) → Allowed m c → allows m c ≡ true
passed m c a =
    and _ _ (eq-eqb _ 1 a.access)
    (and _ _ (eq-eqb _ 1 a.format)
    (and _ _ (within-test _ _ a.channels)
    (and _ _ (within-test _ _ a.rate)
    (and _ _ (within-test _ _ a.period)
    (and _ _ (within-test _ _ a.periods)
    (and _ _ (within-test _ _ a.buffer)
    (and _ _ (le-test _ _ a.bytes) (wide-test _ _ _ a.wide))))))))

below-power : (n : ℕ) → n < 2 ^ n
below-power zero = omega arith
below-power (suc n) = omega (arith, below-power n, two-pow-succ n)

twice-power : (b n : ℕ) → b * 2 ^ suc n ≡ b * 2 * 2 ^ n
twice-power b n = grind arith

-- doubling stops at the top, where one more doubling would exceed it
doubled-top : (n buffer long_max top : ℕ) → long_max - buffer ≡ top → 1 ≤ top → doubled n buffer long_max top ≡ top
doubled-top zero buffer long_max top is some = refl
doubled-top (suc n) buffer long_max top is some =
    let e : nat_le (top * 2) (long_max - buffer) ≡ false = grind (arith, nat_tests) in
    ap (λ t. elim t as (λ _. ℕ) [ true ↦ doubled n buffer long_max (top * 2) | false ↦ top ]) e

-- and reaches it in as many doublings as it takes
doubled-to : (k n buffer long_max b top : ℕ) → long_max - buffer ≡ top → 1 ≤ b → k ≤ n → b * 2 ^ k ≡ top → doubled n buffer long_max b ≡ top
doubled-to zero n buffer long_max b top is some enough times =
    let e : b ≡ top = omega (arith, times) in
    subst (λ (x : ℕ). doubled n buffer long_max x ≡ top) (sym e) (doubled-top n buffer long_max top is (omega arith))
doubled-to (suc k) zero buffer long_max b top is some enough times = absurd (omega arith)
doubled-to (suc k) (suc n) buffer long_max b top is some enough times =
    let twice : b * 2 * 2 ^ k ≡ top = sym (twice-power b k) ∙ times in
    let more : 1 ≤ 2 ^ k = omega (arith, below-power k) in
    let fits : b * 2 * 1 ≤ b * 2 * 2 ^ k = mul-le-mul_left (b * 2) more in
    let e : nat_le (b * 2) (long_max - buffer) ≡ true = le-test _ _ (omega arith) in
    ap (λ t. elim t as (λ _. ℕ) [ true ↦ doubled n buffer long_max (b * 2) | false ↦ b ]) e
    ∙ doubled-to k n buffer long_max (b * 2) top is (omega arith) (omega arith) twice

-- a boundary is that of its buffer for the least LONG_MAX that leaves room for it
boundary-least : (buffer boundary k : ℕ) → 1 ≤ buffer → boundary ≡ buffer * 2 ^ k → boundary ≡ boundary_of buffer (boundary + buffer)
boundary-least buffer boundary k some times =
    let large : 1 * 2 ^ k ≤ buffer * 2 ^ k = mul-le-mul some (omega arith) in
    let room : boundary + buffer - buffer ≡ boundary = omega arith in
    let enough : k ≤ boundary + buffer = omega (arith, below-power k) in
    sym (doubled-to k (boundary + buffer) buffer (boundary + buffer) buffer boundary room some enough (sym times))

-- a boundary of more than one buffer and a half is one of at least two
two-buffers : (k buffer boundary : ℕ) → boundary ≡ buffer * 2 ^ k → buffer < boundary → 2 * buffer ≤ boundary
two-buffers zero buffer boundary times h = absurd (omega (arith, times))
two-buffers (suc k) buffer boundary times h =
    let more : 1 ≤ 2 ^ k = omega (arith, below-power k) in
    let fits : buffer * 2 * 1 ≤ buffer * 2 * 2 ^ k = mul-le-mul_left (buffer * 2) more in
    omega (arith, twice-power buffer k)

-- what is known of the boundary of a configuration's buffer
pub record IsBoundary (c : Config) (long_max boundary : ℕ) : Type 0 where
  pub doublings : (k : ℕ) × (boundary ≡ buffer_of c * 2 ^ k)
  pub room : boundary + buffer_of c ≤ long_max
  pub greatest : long_max < 2 * boundary + buffer_of c

pub sound-of : (m : CardModel) (c : Config) (long_max boundary : ℕ) → HasChannels m → long_max < 2 ^ 36
    → Allowed m c → 4 * buffer_of c ≤ long_max → IsBoundary c long_max boundary
    → IsSoundShape (record { frame_bytes = frame_bytes_of c; channels = c.channels; period = c.period; periods = c.periods; buffer = buffer_of c; boundary = boundary })
sound-of m c long_max boundary has small a four bound = record {
  periods = refl;
  least = a.buffer.least;
  most = a.buffer.most;
  channel = channel;
  channels = channels;
  samples = mul-mod_left (sample_bytes c.format) c.channels;
  frame = one-le-mul (width-least c.format) channel;
  frames = let fits : frame_bytes_of c ≤ 4 * 8 = mul-le-mul (width-most c.format) channels in omega arith;
  boundary = boundary-least (buffer_of c) boundary bound.doublings.0 (omega (arith, a.buffer)) bound.doublings.1;
  room = two-buffers bound.doublings.0 (buffer_of c) boundary bound.doublings.1 (omega (arith, bound.greatest, a.buffer));
  long = omega (arith, bound.room);
}
  where
    channel : 1 ≤ c.channels
    channel = omega (arith, has.least, a.channels)

    channels : c.channels ≤ 8
    channels = omega (arith, has.most, a.channels)
