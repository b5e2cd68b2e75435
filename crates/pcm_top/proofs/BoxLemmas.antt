-- The least box has a spelling, and its line stands behind the text.
use Rattle.std.proofs.Common.{◌≡◌, ℕ, ◌+◌, ◌*◌, ◌/◌, ◌%◌, ◌^◌, ◌<◌, ◌≤◌, Bool, List, [], ◌∷◌, ◌++◌, sym, ◌∙◌, ap, subst, inl, inr, arith, lit<, append_assoc, Result, Ok, Err, is_ok, OnOk}
use Rattle.std.specs.Prelude.{if◌then◌else◌}
use Rattle.std.specs.declared.alloc.AllocError.{AllocError}
use Rattle.std.specs.Int.{bit_at}
use Rattle.std.proofs.lemmas.Nat.Bits.{same_from_bits, bit_at-lt, bit_at_above, bit_at_cat_low}
use Rattle.std.proofs.lemmas.Bool.{cases_lt}
use Rattle.pcm_base.specs.declared.config.Model.{Model}
use Rattle.pcm_base.specs.declared.config.Model.TheVariants as model
use Rattle.pcm_base.specs.declared.config.Config.{Config}
use Rattle.pcm_base.specs.declared.config.CardModel.{CardModel}
use Rattle.pcm_base.specs.declared.config.Space.{Space as Box}
use Rattle.pcm_base.specs.declared.config.Span.{Span}
use Rattle.pcm_base.specs.declared.format.Access.{Access}
use Rattle.pcm_base.specs.declared.format.Access.TheVariants as access
use Rattle.pcm_base.specs.declared.format.Format.{Format}
use Rattle.pcm_base.specs.declared.format.Format.TheVariants as format
use Rattle.pcm_base.specs.Numbers.{access_number, format_number}
use Rattle.pcm_base.specs.model.Allowed.{buffer_of}
use Rattle.pcm_line.specs.Sayable.{IsNumber, SpanFits, SpaceFits}
use Rattle.card_emul.specs.Limits.{limits_of}
use Rattle.hw_params.specs.Hull.{Occurs, IsMaskOf, IsSpanOf, IsHull}

-- ---- the numbers of a box are below 2 ^ 63

access-below : (a : Access) → access_number a < 33
access-below access.MmapInterleaved = lit< tt
access-below access.MmapNoninterleaved = lit< tt
access-below access.RwInterleaved = lit< tt
access-below access.RwNoninterleaved = lit< tt

format-below : (f : Format) → format_number f < 33
format-below format.S8 = lit< tt
format-below format.U8 = lit< tt
format-below format.S16Le = lit< tt
format-below format.S16Be = lit< tt
format-below format.S24Le = lit< tt
format-below format.S32Le = lit< tt
format-below format.S32Be = lit< tt
format-below format.S24Le3 = lit< tt

-- a number with no bit from k on is below 2 ^ k
bits-below : (n k : ℕ) → ((i : ℕ) → k ≤ i → bit_at n i ≡ 0) → n % 2 ^ k < 2 ^ k → n / 2 ^ k * 2 ^ k + n % 2 ^ k ≡ n → n < 2 ^ k
bits-below n k high low parts =
    let same : n ≡ n % 2 ^ k = same_from_bits n (n % 2 ^ k) (λ i. elim (cases_lt i k) [
      | inl l ↦ subst (λ (m : ℕ). bit_at m i ≡ bit_at (n % 2 ^ k) i) parts (bit_at_cat_low (n / 2 ^ k) k (n % 2 ^ k) i l)
      | inr ge ↦ high i ge ∙ sym (bit_at_above (n % 2 ^ k) k i low ge)
    ]) in
    rw same low

mask-fits : (m : CardModel) (s : Box) (number : Config → ℕ) (mask : ℕ) → ((c : Config) → number c < 33) → IsMaskOf m s number mask → IsNumber mask
mask-fits m s number mask small is =
    let high : (i : ℕ) → 33 ≤ i → bit_at mask i ≡ 0 = λ i ge. elim (cases_lt (bit_at mask i) 1) [
      | inl unset ↦ (let e : bit_at mask i ≡ 0 = omega arith in e)
      | inr least ↦ let set : bit_at mask i ≡ 1 = omega (arith, bit_at-lt mask i) in let c = (is i).0 set in absurd (omega (arith, small c.0, c.2))
    ] in
    let below : mask < 2 ^ 33 = bits-below mask 33 high (omega arith) (omega arith) in
    omega arith

span-fits : (m : CardModel) (s : Box) (number : Config → ℕ) (span : Span) (most : ℕ) → most < 2 ^ 63 → ((c : Config) → Occurs m s c → number c ≤ most) → IsSpanOf m s number span → SpanFits span
span-fits m s number span most small below is = (
  omega (arith, below is.least.0 is.least.1, is.least.2),
  omega (arith, below is.most.0 is.most.1, is.most.2),
)

channels-below : (x : Model) → (limits_of x).channels.most < 2 ^ 63
channels-below model.Basic = lit< tt
channels-below model.Duplex = lit< tt
channels-below model.Studio = lit< tt
channels-below model.NoPause = lit< tt
channels-below model.NoResume = lit< tt
channels-below model.Indirect = lit< tt

rate-below : (x : Model) → (limits_of x).rate.most < 2 ^ 63
rate-below model.Basic = lit< tt
rate-below model.Duplex = lit< tt
rate-below model.Studio = lit< tt
rate-below model.NoPause = lit< tt
rate-below model.NoResume = lit< tt
rate-below model.Indirect = lit< tt

period-below : (x : Model) → (limits_of x).period.most < 2 ^ 63
period-below model.Basic = lit< tt
period-below model.Duplex = lit< tt
period-below model.Studio = lit< tt
period-below model.NoPause = lit< tt
period-below model.NoResume = lit< tt
period-below model.Indirect = lit< tt

pub box-fits : (x : Model) (s h : Box) → IsHull (limits_of x) s h → SpaceFits h
box-fits x s h is = record {
  accesses = mask-fits (limits_of x) s (λ c. access_number c.access) h.accesses (λ c. access-below c.access) is.accesses;
  formats = mask-fits (limits_of x) s (λ c. format_number c.format) h.formats (λ c. format-below c.format) is.formats;
  channels = span-fits (limits_of x) s (λ c. c.channels) h.channels _ (channels-below x) (λ c o. o.allowed.channels.most) is.channels;
  rate = span-fits (limits_of x) s (λ c. c.rate) h.rate _ (rate-below x) (λ c o. o.allowed.rate.most) is.rate;
  period = span-fits (limits_of x) s (λ c. c.period) h.period _ (period-below x) (λ c o. o.allowed.period.most) is.period;
  periods = span-fits (limits_of x) s (λ c. c.periods) h.periods 32 (lit< tt) (λ c o. o.allowed.periods.most) is.periods;
  buffer = span-fits (limits_of x) s buffer_of h.buffer 65536 (lit< tt) (λ c o. o.allowed.buffer.most) is.buffer;
}

-- ---- what a line gives

pub on-appended : (r : Result (Unit {0}) AllocError) (P : List ℕ → Type 0) (old added new failed : List ℕ) → P added
    → new ≡ (if is_ok r then old ++ added else failed) → OnOk r ((x : List ℕ) × P x × (new ≡ old ++ x))
on-appended (Ok u) P old added new failed p e = (added, p, e)
on-appended (Err x) P old added new failed p e = tt

pub appended-twice : (old line mid : List ℕ) (b : Bool) → mid ≡ old ++ line → (if b then mid ++ 10 ∷ [] else mid) ≡ (if b then old ++ (line ++ 10 ∷ []) else mid)
appended-twice old line mid b e =
    let whole : mid ++ 10 ∷ [] ≡ old ++ (line ++ 10 ∷ []) = rw e (append_assoc old line (10 ∷ [])) in
    ap (λ (t : List ℕ). if b then t else mid) whole
