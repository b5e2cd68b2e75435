-- What an allowed configuration says of the sizes.
use Rattle.std.proofs.Common.{ℕ, zero, suc, ◌≡◌, ◌+◌, ◌-◌, ◌*◌, ◌%◌, ◌^◌, ◌≤◌, ◌<◌, Bool, true, false, ◌&&◌, ◌||◌, nat_le, refl, sym, ap, ◌∙◌, subst, arith}
use Rattle.std.proofs.lemmas.Bool.Decides.{nat_tests}
use Rattle.std.proofs.Math.Nat.{mul-mod_right}
use Rattle.pcm_base.specs.Boundary.{boundary_of, doubled}
use Rattle.pcm_base.specs.Numbers.{access_number, format_number}
use Rattle.pcm_base.specs.declared.config.CardModel.{CardModel}
use Rattle.pcm_base.specs.declared.config.Config.{Config}
use Rattle.pcm_base.specs.declared.config.Span.{Span}
use Rattle.pcm_base.specs.model.Allowed.{accepts, allows, buffer_of, frame_bytes_of, has_bit, is_in}
use Rattle.pcm_base.specs.model.Sound.{IsShaped}
use Rattle.pcm_base.specs.model.Stream.{Stream}
use Rattle.pcm_laws.proofs.Tests.{is_le, left, right}
use Rattle.pcm_laws.specs.Pointers.{IsDoubled}

-- n lies in the span
pub record LiesIn (span : Span) (n : ℕ) : Type 0 where
  pub least : span.least ≤ n
  pub most : n ≤ span.most

pub is_in-lies : (span : Span) (n : ℕ) → is_in span n ≡ true → LiesIn span n
is_in-lies span n h = record {
  least = is_le span.least n (left (nat_le span.least n) (nat_le n span.most) h);
  most = is_le n span.most (right (nat_le span.least n) (nat_le n span.most) h);
}

-- the parts of allows
pub record IsAllowed (m : CardModel) (c : Config) : Type 0 where
  pub access : has_bit m.accesses (access_number c.access) ≡ true
  pub format : has_bit m.formats (format_number c.format) ≡ true
  pub channels : LiesIn m.channels c.channels
  pub rate : LiesIn m.rate c.rate
  pub period : LiesIn m.period c.period
  pub periods : LiesIn (record { least = 2; most = 32 }) c.periods
  pub buffer : LiesIn (record { least = 4; most = 65536 }) (buffer_of c)
  pub bytes : buffer_of c * frame_bytes_of c ≤ m.buffer_bytes
  pub wide : (nat_le c.rate m.wide_rate || nat_le c.channels 2) ≡ true

pub allows-parts : (m : CardModel) (c : Config) → allows m c ≡ true → IsAllowed m c
allows-parts m c h =
    let p1 : Bool = has_bit m.accesses (access_number c.access) in
    let p2 : Bool = has_bit m.formats (format_number c.format) in
    let p3 : Bool = is_in m.channels c.channels in
    let p4 : Bool = is_in m.rate c.rate in
    let p5 : Bool = is_in m.period c.period in
    let p6 : Bool = is_in (record { least = 2; most = 32 }) c.periods in
    let p7 : Bool = is_in (record { least = 4; most = 65536 }) (buffer_of c) in
    let p8 : Bool = nat_le (buffer_of c * frame_bytes_of c) m.buffer_bytes in
    let p9 : Bool = nat_le c.rate m.wide_rate || nat_le c.channels 2 in
    let q8 : Bool = p8 && p9 in
    let q7 : Bool = p7 && q8 in
    let q6 : Bool = p6 && q7 in
    let q5 : Bool = p5 && q6 in
    let q4 : Bool = p4 && q5 in
    let q3 : Bool = p3 && q4 in
    let q2 : Bool = p2 && q3 in
    let h2 : q2 ≡ true = right p1 q2 h in
    let h3 : q3 ≡ true = right p2 q3 h2 in
    let h4 : q4 ≡ true = right p3 q4 h3 in
    let h5 : q5 ≡ true = right p4 q5 h4 in
    let h6 : q6 ≡ true = right p5 q6 h5 in
    let h7 : q7 ≡ true = right p6 q7 h6 in
    let h8 : q8 ≡ true = right p7 q8 h7 in
    record {
      access = left p1 q2 h;
      format = left p2 q3 h2;
      channels = is_in-lies m.channels c.channels (left p3 q4 h3);
      rate = is_in-lies m.rate c.rate (left p4 q5 h4);
      period = is_in-lies m.period c.period (left p5 q6 h5);
      periods = is_in-lies (record { least = 2; most = 32 }) c.periods (left p6 q7 h6);
      buffer = is_in-lies (record { least = 4; most = 65536 }) (buffer_of c) (left p7 q8 h7);
      bytes = is_le (buffer_of c * frame_bytes_of c) m.buffer_bytes (left p8 p9 h8);
      wide = right p8 p9 h8;
    }

pub accepts-allows : (m : CardModel) (n : ℕ) (c : Config) → accepts m n c ≡ true → IsAllowed m c
accepts-allows m n c h = allows-parts m c (left (allows m c) (nat_le (4 * buffer_of c) n) h)

pub accepts-buffer : (m : CardModel) (n : ℕ) (c : Config) → accepts m n c ≡ true → 4 ≤ buffer_of c
accepts-buffer m n c h = (accepts-allows m n c h).buffer.least

pub accepts-long : (m : CardModel) (n : ℕ) (c : Config) → accepts m n c ≡ true → 4 * buffer_of c ≤ n
accepts-long m n c h = is_le (4 * buffer_of c) n (right (allows m c) (nat_le (4 * buffer_of c) n) h)

-- the boundary

twice : (b x k : ℕ) → x ≡ b * 2 ^ k → x * 2 ≡ b * 2 ^ suc k
twice b x k e = grind (arith, e)

doubled-times : (n buffer long_max b x k : ℕ) → x ≡ b * 2 ^ k → IsDoubled b (doubled n buffer long_max x)
doubled-times zero buffer long_max b x k e = record { times = k; doublings = e }
doubled-times (suc n) buffer long_max b x k e = by (nat_le (x * 2) (long_max - buffer)) (doubled-times n buffer long_max b (x * 2) (suc k) (twice b x k e))
  where
    by : (t : Bool) → IsDoubled b (doubled n buffer long_max (x * 2)) → IsDoubled b (elim t as (λ _. ℕ) [ true ↦ doubled n buffer long_max (x * 2) | false ↦ x ])
    by true h = h
    by false h = record { times = k; doublings = e }

pub boundary_of-times : (b n : ℕ) → IsDoubled b (boundary_of b n)
boundary_of-times b n = doubled-times n b n b b 0 (omega arith)

pub boundary_of-whole : (b n : ℕ) → boundary_of b n % b ≡ 0
boundary_of-whole b n = let d : IsDoubled b (boundary_of b n) = boundary_of-times b n in ap (λ l. l % b) d.doublings ∙ mul-mod_right b (2 ^ d.times)

doubled-least : (n buffer long_max x : ℕ) → x ≤ doubled n buffer long_max x
doubled-least zero buffer long_max x = omega arith
doubled-least (suc n) buffer long_max x = by (nat_le (x * 2) (long_max - buffer)) (doubled-least n buffer long_max (x * 2))
  where
    by : (t : Bool) → x * 2 ≤ doubled n buffer long_max (x * 2) → x ≤ elim t as (λ _. ℕ) [ true ↦ doubled n buffer long_max (x * 2) | false ↦ x ]
    by true h = omega (arith, h)
    by false h = omega arith

-- it leaves room for two buffers, and for one below long_max

doubled-room : (n b m : ℕ) → 0 < n → 4 * b ≤ m → 2 * b ≤ doubled n b m b
doubled-room zero b m some h = absurd (omega arith)
doubled-room (suc n) b m some h =
    let e : nat_le (b * 2) (m - b) ≡ true = grind (arith, nat_tests, h) in
    let k : b * 2 ≤ doubled n b m (b * 2) = doubled-least n b m (b * 2) in
    subst (λ t. 2 * b ≤ elim t as (λ _. ℕ) [ true ↦ doubled n b m (b * 2) | false ↦ b ]) (sym e) (omega (arith, k))

pub boundary_of-room : (b n : ℕ) → 0 < b → 4 * b ≤ n → 2 * b ≤ boundary_of b n
boundary_of-room b n some h = doubled-room n b n (omega arith) h

doubled-most : (n buffer long_max x : ℕ) → x ≤ long_max - buffer → doubled n buffer long_max x ≤ long_max - buffer
doubled-most zero buffer long_max x h = h
doubled-most (suc n) buffer long_max x h = by (nat_le (x * 2) (long_max - buffer)) refl (doubled-most n buffer long_max (x * 2))
  where
    by : (t : Bool) → nat_le (x * 2) (long_max - buffer) ≡ t → (x * 2 ≤ long_max - buffer → doubled n buffer long_max (x * 2) ≤ long_max - buffer)
        → elim t as (λ _. ℕ) [ true ↦ doubled n buffer long_max (x * 2) | false ↦ x ] ≤ long_max - buffer
    by true e f = f (is_le (x * 2) (long_max - buffer) e)
    by false e f = h

pub boundary_of-most : (b n : ℕ) → 2 * b ≤ n → boundary_of b n + b ≤ n
boundary_of-most b n h = let k : boundary_of b n ≤ n - b = doubled-most n b n b (omega arith) in omega (arith, k)

-- the sizes of a configured stream
pub record Sizes (s : Stream) : Type 0 where
  pub least : 4 ≤ s.setup.buffer
  pub room : 2 * s.setup.buffer ≤ s.setup.boundary
  pub long : s.setup.boundary + s.setup.buffer ≤ s.long_max
  pub whole : s.setup.boundary % s.setup.buffer ≡ 0

pub sizes : (c : Config) (s : Stream) → IsShaped c s → Sizes s
sizes c s h =
    let b : ℕ = buffer_of c in
    let n : ℕ = s.long_max in
    let some : 4 ≤ buffer_of c = accepts-buffer s.model s.long_max c h.allowed in
    let four : 4 * buffer_of c ≤ s.long_max = accepts-long s.model s.long_max c h.allowed in
    let room : 2 * buffer_of c ≤ boundary_of (buffer_of c) s.long_max = boundary_of-room b n (omega (arith, some)) four in
    let long : boundary_of (buffer_of c) s.long_max + buffer_of c ≤ s.long_max = boundary_of-most b n (omega (arith, four)) in
    record {
      least = subst (λ b. 4 ≤ b) (sym h.buffer) some;
      room = omega (arith, room, h.buffer, h.boundary);
      long = omega (arith, long, h.buffer, h.boundary);
      whole = subst (λ b. s.setup.boundary % b ≡ 0) (sym h.buffer) (subst (λ l. l % buffer_of c ≡ 0) (sym h.boundary) (boundary_of-whole b n));
    }
