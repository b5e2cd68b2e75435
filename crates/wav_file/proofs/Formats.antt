-- What reading a "fmt " chunk finds, and what its body says.
use Rattle.std.proofs.Common.{◌≡◌, ℕ, ◌+◌, ◌*◌, ◌/◌, ◌≤◌, Bool, true, false, cond, not, ◌&&◌, ◌||◌, eqb, ltb, length, take, drop, Option, Some, None, Result, Ok, Err, refl, sym, ap, ◌∙◌, arith, inl, inr, ◌⊎◌}
use Rattle.std.proofs.lemmas.Bool.{ltb-false, le-ltb, eqb-true, eqb-false, eq-eqb, ne_eqb, not-false, or_cases, or_parts, or_from, cond-true, cond-false}
use Rattle.std.proofs.lemmas.List.{drop-drop, drop-take}
use Rattle.pcm_base.specs.declared.format.Format.{Format}
use Rattle.wav_file.specs.declared.layout.Layout.{Layout}
use Rattle.wav_file.specs.declared.wav.WavError.{WavError}
use Rattle.wav_file.specs.Recordings.{number_at, format_of}
use Rattle.wav_file.specs.Chunks.{Place, size_at, body_at}
use Rattle.wav_file.specs.Grammar.{IsPlain, IsExtensible, IsFormat, pcm_subtype, valid_bits}
use Rattle.wav_file.specs.Faults.{tag_at, bits_at, valid_at, samples_at, fields_at, is_known_tag, has_size, has_pcm_subtype, has_other_subtype, format_at}
use Rattle.wav_file.proofs.Pieces.{number_at-take, number_at-drop, body_at-length, id_true, id_same}

-- a test that refused nothing
passed : {A : Type 0} (b : Bool) (e : WavError) (r : Result A WavError) (x : A) → cond b (Err e) r ≡ Ok x → (b ≡ false) × (r ≡ Ok x)
passed true e r x h = absurd cc
passed false e r x h = (refl, h)

kept : {A : Type 0} (b : Bool) (e : WavError) (x y : A) → cond b (Ok x) (Err e) ≡ Ok y → (b ≡ true) × (x ≡ y)
kept true e x y h = (refl, cc)
kept false e x y h = absurd cc

abbrev pub layout : Format → ℕ → ℕ → Layout
layout f channels rate = record { format = f; channels = channels; rate = rate }

-- what the fields say
record Says (c : Place) (o : Option Format) (l : Layout) (channels rate align : ℕ) : Type 0 where
  format_is : o ≡ Some l.format
  channels_is : channels ≡ l.channels
  rate_is : rate ≡ l.rate
  valid_is : valid_at c.bytes ≤ bits_at c.bytes
  align_is : number_at 2 20 c.bytes ≡ align

samples_say : (c : Place) (channels rate : ℕ) (o : Option Format) (l : Layout) → samples_at c channels rate (bits_at c.bytes) (valid_at c.bytes) o ≡ Ok l → Says c o l channels rate (channels * bits_at c.bytes / 8)
samples_say c channels rate None l e = absurd cc
samples_say c channels rate (Some f) l e =
    let v = passed (ltb (bits_at c.bytes) (valid_at c.bytes)) _ _ l e in
    let k = kept (eqb (number_at 2 20 c.bytes) (channels * bits_at c.bytes / 8)) _ (layout f channels rate) l v.1 in
    record {
      format_is = ap (λ (x : Layout). Some x.format) k.1;
      channels_is = ap (λ (x : Layout). x.channels) k.1;
      rate_is = ap (λ (x : Layout). x.rate) k.1;
      valid_is = ltb-false _ _ v.0;
      align_is = eqb-true _ _ k.0;
    }

-- a field of the body, by its offset from the head
field_is : (n place : ℕ) (c : Place) → place + n ≤ size_at c.bytes → number_at n place (body_at c.bytes) ≡ number_at n (8 + place) c.bytes
field_is n place c fits = number_at-take n place (size_at c.bytes) (drop 8 c.bytes) fits ∙ number_at-drop n place 8 c.bytes

-- ---- the two kinds, by the tests of a chunk

abbrev PlainAt : Place → Type 0
PlainAt c = (tag_at c.bytes ≡ 1) × ((size_at c.bytes ≡ 16) ⊎ (size_at c.bytes ≡ 18))

abbrev ExtensibleAt : Place → Type 0
ExtensibleAt c = (tag_at c.bytes ≡ 65534) × (size_at c.bytes ≡ 40) × (has_pcm_subtype c.bytes ≡ true)

size_cases : (n : ℕ) → (eqb n 16 || eqb n 18) ≡ true → (n ≡ 16) ⊎ (n ≡ 18)
size_cases n e =
    elim (or_cases (eqb n 16) (eqb n 18) e) [
      | inl p ↦ inl (eqb-true n 16 p)
      | inr p ↦ inr (eqb-true n 18 p)
    ]

size_passes : (n : ℕ) → (n ≡ 16) ⊎ (n ≡ 18) → (eqb n 16 || eqb n 18) ≡ true
size_passes n (inl e) = ap (λ (k : ℕ). eqb k 16 || eqb k 18) e
size_passes n (inr e) = ap (λ (k : ℕ). eqb k 16 || eqb k 18) e

kind_of : (c : Place) → not (is_known_tag (tag_at c.bytes)) ≡ false → not (has_size (tag_at c.bytes) (size_at c.bytes)) ≡ false
    → has_other_subtype c.bytes ≡ false → PlainAt c ⊎ ExtensibleAt c
kind_of c known sized typed =
    let tag = tag_at c.bytes in
    let n = size_at c.bytes in
    let size : has_size tag n ≡ true = not-false _ sized in
    elim (or_cases (eqb tag 1) (eqb tag 65534) (not-false _ known)) [
      | inl p ↦
          let is : tag ≡ 1 = eqb-true tag 1 p in
          inl (is, size_cases n (ap (λ (t : ℕ). has_size t n) (sym is) ∙ size))
      | inr p ↦
          let is : tag ≡ 65534 = eqb-true tag 65534 p in
          inr (is, eqb-true n 40 (ap (λ (t : ℕ). has_size t n) (sym is) ∙ size), not-false _ (ap (λ (t : ℕ). eqb t 65534 && not (has_pcm_subtype c.bytes)) (sym is) ∙ typed))
    ]

record Passes (c : Place) : Type 0 where
  known : not (is_known_tag (tag_at c.bytes)) ≡ false
  sized : not (has_size (tag_at c.bytes) (size_at c.bytes)) ≡ false
  typed : has_other_subtype c.bytes ≡ false

kind_passes : (c : Place) → PlainAt c ⊎ ExtensibleAt c → Passes c
kind_passes c (inl p) = record {
  known = ap (λ (t : ℕ). not (is_known_tag t)) p.0;
  sized = ap (λ (t : ℕ). not (has_size t (size_at c.bytes))) p.0 ∙ ap not (size_passes (size_at c.bytes) p.1);
  typed = ap (λ (t : ℕ). eqb t 65534 && not (has_pcm_subtype c.bytes)) p.0;
}
kind_passes c (inr p) = record {
  known = ap (λ (t : ℕ). not (is_known_tag t)) p.0;
  sized = ap (λ (t : ℕ). not (has_size t (size_at c.bytes))) p.0 ∙ ap (λ (n : ℕ). not (eqb n 40)) p.1;
  typed = ap (λ (t : ℕ). eqb t 65534 && not (has_pcm_subtype c.bytes)) p.0 ∙ ap not p.2;
}

plain_size : (n : ℕ) → (n ≡ 16) ⊎ (n ≡ 18) → 16 ≤ n
plain_size n (inl e) = omega arith
plain_size n (inr e) = omega arith

long_enough : (c : Place) → PlainAt c ⊎ ExtensibleAt c → 16 ≤ size_at c.bytes
long_enough c (inl p) = plain_size (size_at c.bytes) p.1
long_enough c (inr p) = omega (arith, p.1)

-- ---- the two kinds, by the body

subtype_at : (c : Place) → size_at c.bytes ≡ 40 → drop 24 (body_at c.bytes) ≡ take 16 (drop 32 c.bytes)
subtype_at c size = ap (λ (n : ℕ). drop 24 (take n (drop 8 c.bytes))) size ∙ drop-take 24 16 (drop 8 c.bytes) ∙ ap (take 16) (drop-drop 24 8 c.bytes)

kind_says : (c : Place) → length (body_at c.bytes) ≡ size_at c.bytes → PlainAt c ⊎ ExtensibleAt c → IsPlain (body_at c.bytes) ⊎ IsExtensible (body_at c.bytes)
kind_says c len (inl p) =
    let long = long_enough c (inl p) in
    inl (record { size = rw len p.1; tag = field_is 2 0 c (omega arith) ∙ p.0 })
kind_says c len (inr p) =
    let long = long_enough c (inr p) in
    inr (record { size = len ∙ p.1; tag = field_is 2 0 c (omega arith) ∙ p.0; subtype = subtype_at c p.1 ∙ id_true pcm_subtype (take 16 (drop 32 c.bytes)) p.2 })

kind_read : (c : Place) → length (body_at c.bytes) ≡ size_at c.bytes → IsPlain (body_at c.bytes) ⊎ IsExtensible (body_at c.bytes) → PlainAt c ⊎ ExtensibleAt c
kind_read c len (inl p) =
    let size : (size_at c.bytes ≡ 16) ⊎ (size_at c.bytes ≡ 18) = rw (← len) p.size in
    let long : 16 ≤ size_at c.bytes = plain_size _ size in
    inl (sym (field_is 2 0 c (omega arith)) ∙ p.tag, size)
kind_read c len (inr p) =
    let size : size_at c.bytes ≡ 40 = sym len ∙ p.size in
    inr (sym (field_is 2 0 c (omega arith)) ∙ p.tag, size, rw (sym (subtype_at c size) ∙ p.subtype) (id_same pcm_subtype))

valid_is : (c : Place) → PlainAt c ⊎ ExtensibleAt c → valid_bits (body_at c.bytes) ≡ valid_at c.bytes
valid_is c (inl p) =
    let long = long_enough c (inl p) in
    let tag : number_at 2 0 (body_at c.bytes) ≡ 1 = field_is 2 0 c (omega arith) ∙ p.0 in
    cond-false _ _ _ (ap (λ (t : ℕ). eqb t 65534) tag) ∙ field_is 2 14 c (omega arith) ∙ sym (cond-false _ _ _ (ap (λ (t : ℕ). eqb t 65534) p.0))
valid_is c (inr p) =
    let long = long_enough c (inr p) in
    let tag : number_at 2 0 (body_at c.bytes) ≡ 65534 = field_is 2 0 c (omega arith) ∙ p.0 in
    cond-true _ _ _ (ap (λ (t : ℕ). eqb t 65534) tag) ∙ field_is 2 18 c (omega (arith, p.1)) ∙ sym (cond-true _ _ _ (ap (λ (t : ℕ). eqb t 65534) p.0))

-- ---- the two directions

pub format_says : (c : Place) (l : Layout) → format_at c ≡ Ok l → (8 + size_at c.bytes ≤ length c.bytes) × IsFormat (body_at c.bytes) l.format l.channels l.rate
unfolding format_at fields_at
format_says c l e =
    let n = size_at c.bytes in
    let tag = tag_at c.bytes in
    let long = passed (ltb n 16) _ _ l e in
    let whole = passed (ltb (length c.bytes) (8 + n)) _ _ l long.1 in
    let known = passed (not (is_known_tag tag)) _ _ l whole.1 in
    let sized = passed (not (has_size tag n)) _ _ l known.1 in
    let typed = passed (has_other_subtype c.bytes) _ _ l sized.1 in
    let some = passed (ltb (number_at 2 10 c.bytes) 1 || ltb 8 (number_at 2 10 c.bytes)) _ _ l typed.1 in
    let ticks = passed (eqb (number_at 4 12 c.bytes) 0) _ _ l some.1 in
    let says = samples_say c (number_at 2 10 c.bytes) (number_at 4 12 c.bytes) (format_of (bits_at c.bytes) (valid_at c.bytes)) l ticks.1 in
    let kind = kind_of c known.0 sized.0 typed.0 in
    let sixteen : 16 ≤ n = long_enough c kind in
    let fits : 8 + n ≤ length c.bytes = ltb-false _ _ whole.0 in
    let len : length (body_at c.bytes) ≡ n = body_at-length c.bytes fits in
    let span = or_parts _ _ some.0 in
    let least : 1 ≤ number_at 2 10 c.bytes = ltb-false _ _ span.0 in
    let most : number_at 2 10 c.bytes ≤ 8 = ltb-false _ _ span.1 in
    let rate_not : number_at 4 12 c.bytes ≡ 0 → ⊥ = eqb-false _ _ ticks.0 in
    let bits : number_at 2 14 (body_at c.bytes) ≡ bits_at c.bytes = field_is 2 14 c (omega arith) in
    let valid = valid_is c kind in (
      fits,
      record {
        kind = kind_says c len kind;
        channels_are = field_is 2 2 c (omega arith) ∙ says.channels_is;
        least = rw (← says.channels_is) least;
        most = rw (← says.channels_is) most;
        rate_is = field_is 4 4 c (omega arith) ∙ says.rate_is;
        some_rate = rw (← says.rate_is) (omega arith);
        valid = rw (valid, bits) says.valid_is;
        bits = ap (λ (k : ℕ). format_of k (valid_bits (body_at c.bytes))) bits ∙ ap (format_of (bits_at c.bytes)) valid ∙ says.format_is;
        align = field_is 2 12 c (omega arith) ∙ says.align_is ∙ ap (λ (k : ℕ). k * bits_at c.bytes / 8) says.channels_is ∙ ap (λ (k : ℕ). l.channels * k / 8) (sym bits);
      },
    )

pub format_read : (c : Place) (f : Format) (channels rate : ℕ) → 8 + size_at c.bytes ≤ length c.bytes → IsFormat (body_at c.bytes) f channels rate → format_at c ≡ Ok (layout f channels rate)
unfolding format_at fields_at
format_read c f channels rate fits says =
    let n = size_at c.bytes in
    let len : length (body_at c.bytes) ≡ n = body_at-length c.bytes fits in
    let kind = kind_read c len says.kind in
    let passes = kind_passes c kind in
    let sixteen : 16 ≤ n = long_enough c kind in
    let some : number_at 2 10 c.bytes ≡ channels = sym (field_is 2 2 c (omega arith)) ∙ says.channels_are in
    let ticks : number_at 4 12 c.bytes ≡ rate = sym (field_is 4 4 c (omega arith)) ∙ says.rate_is in
    let bits : bits_at c.bytes ≡ number_at 2 14 (body_at c.bytes) = sym (field_is 2 14 c (omega arith)) in
    let valid : valid_at c.bytes ≡ valid_bits (body_at c.bytes) = sym (valid_is c kind) in
    let format : format_of (bits_at c.bytes) (valid_at c.bytes) ≡ Some f = ap (λ (k : ℕ). format_of k (valid_at c.bytes)) bits ∙ ap (format_of (number_at 2 14 (body_at c.bytes))) valid ∙ says.bits in
    let few : valid_at c.bytes ≤ bits_at c.bytes = rw (valid, bits) says.valid in
    let align : number_at 2 20 c.bytes ≡ number_at 2 10 c.bytes * bits_at c.bytes / 8 =
    sym (field_is 2 12 c (omega arith)) ∙ says.align ∙ ap (λ (k : ℕ). k * number_at 2 14 (body_at c.bytes) / 8) (sym some) ∙ ap (λ (k : ℕ). number_at 2 10 c.bytes * k / 8) (sym bits) in
    let least : 1 ≤ number_at 2 10 c.bytes = rw some says.least in
    let most : number_at 2 10 c.bytes ≤ 8 = rw some says.most in
    let rate_not : number_at 4 12 c.bytes ≡ 0 → ⊥ = λ z. absurd (omega (arith, says.some_rate, ticks, z)) in
    cond-false _ _ _ (le-ltb n 16 sixteen)
    ∙ cond-false _ _ _ (le-ltb (length c.bytes) (8 + n) fits)
    ∙ cond-false _ _ _ passes.known
    ∙ cond-false _ _ _ passes.sized
    ∙ cond-false _ _ _ passes.typed
    ∙ cond-false _ _ _ (or_from _ _ (le-ltb (number_at 2 10 c.bytes) 1 least) (le-ltb 8 (number_at 2 10 c.bytes) most))
    ∙ cond-false _ _ _ (ne_eqb _ 0 rate_not)
    ∙ ap (samples_at c (number_at 2 10 c.bytes) (number_at 4 12 c.bytes) (bits_at c.bytes) (valid_at c.bytes)) format
    ∙ cond-false _ _ _ (le-ltb (bits_at c.bytes) (valid_at c.bytes) few)
    ∙ cond-true _ _ _ (eq-eqb _ _ align)
    ∙ ap (λ (k : ℕ). Ok (layout f k (number_at 4 12 c.bytes))) some
    ∙ ap (λ (k : ℕ). Ok (layout f channels k)) ticks

-- ---- what is left after the channels and the rate

pub fields_are : (c : Place) (channels rate bits valid : ℕ) (f : Format) → number_at 2 10 c.bytes ≡ channels → number_at 4 12 c.bytes ≡ rate → bits_at c.bytes ≡ bits → valid_at c.bytes ≡ valid
    → 1 ≤ channels → channels ≤ 8 → (rate ≡ 0 → ⊥) → format_of bits valid ≡ Some f → fields_at c ≡ samples_at c channels rate bits valid (Some f)
unfolding fields_at
fields_are c channels rate bits valid f channels_are rate_is bits_are valid_are least most some format =
    let few : number_at 2 10 c.bytes ≤ 8 = rw channels_are most in
    let one : 1 ≤ number_at 2 10 c.bytes = rw channels_are least in
    let ticks : number_at 4 12 c.bytes ≡ 0 → ⊥ = λ z. some (sym rate_is ∙ z) in
    cond-false _ _ _ (or_from _ _ (le-ltb (number_at 2 10 c.bytes) 1 one) (le-ltb 8 (number_at 2 10 c.bytes) few))
    ∙ cond-false _ _ _ (ne_eqb _ 0 ticks)
    ∙ ap (λ (k : ℕ). samples_at c k (number_at 4 12 c.bytes) (bits_at c.bytes) (valid_at c.bytes) (format_of (bits_at c.bytes) (valid_at c.bytes))) channels_are
    ∙ ap (λ (k : ℕ). samples_at c channels k (bits_at c.bytes) (valid_at c.bytes) (format_of (bits_at c.bytes) (valid_at c.bytes))) rate_is
    ∙ ap (λ (k : ℕ). samples_at c channels rate k (valid_at c.bytes) (format_of k (valid_at c.bytes))) bits_are
    ∙ ap (λ (k : ℕ). samples_at c channels rate bits k (format_of bits k)) valid_are
    ∙ ap (samples_at c channels rate bits valid) format
