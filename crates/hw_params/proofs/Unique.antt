-- A model and a space have one hull, which is the least box that holds what occurs.
use Rattle.std.proofs.Common.{◌≡◌, ℕ, ◌<◌, arith, refl, sym, ◌∙◌, ap, subst, inl, inr}
use Rattle.std.specs.Int.{bit_at}
use Rattle.std.proofs.lemmas.Nat.Bits.{same_from_bits, bit_at-lt}
use Rattle.std.proofs.lemmas.Bool.{cases_lt}
use Rattle.pcm_base.specs.declared.config.Span.{Span}
use Rattle.pcm_base.specs.declared.config.Config.{Config}
use Rattle.pcm_base.specs.declared.config.Space.{Space}
use Rattle.pcm_base.specs.declared.config.CardModel.{CardModel}
use Rattle.pcm_base.specs.Numbers.{access_number, format_number}
use Rattle.pcm_base.specs.model.Allowed.{buffer_of}
use Rattle.hw_params.specs.Hull.{HasBit, In, Occurs, IsMaskOf, IsSpanOf, IsHull, Covers, HoldsBox}
use Rattle.hw_params.specs.Spans.{Within}

same-bit : (p q : ℕ) → p < 2 → q < 2 → (p ≡ 1 → q ≡ 1) → (q ≡ 1 → p ≡ 1) → p ≡ q
same-bit p q lp lq to from = elim (cases_lt p 1) [
  | inl no_p ↦ elim (cases_lt q 1) [
    | inl no_q ↦ (let e : p ≡ q = omega arith in e)
    | inr has_q ↦ let set : q ≡ 1 = omega arith in from set ∙ sym set
  ]
  | inr has_p ↦ let set : p ≡ 1 = omega arith in set ∙ sym (to set)
]

one-mask : (m : CardModel) (s : Space) (number : Config → ℕ) (a b : ℕ) → IsMaskOf m s number a → IsMaskOf m s number b → a ≡ b
one-mask m s number a b x y = same_from_bits a b (λ i.
    same-bit (bit_at a i) (bit_at b i) (bit_at-lt a i) (bit_at-lt b i) (λ h. (y i).1 ((x i).0 h)) (λ h. (x i).1 ((y i).0 h)))

one-span : (m : CardModel) (s : Space) (number : Config → ℕ) (a b : Span) → IsSpanOf m s number a → IsSpanOf m s number b → a ≡ b
one-span m s number a b x y =
    let low : a.least ≡ b.least = omega (arith, (y.within x.least.0 x.least.1).least, (x.within y.least.0 y.least.1).least, x.least.2, y.least.2) in
    let high : a.most ≡ b.most = omega (arith, (y.within x.most.0 x.most.1).most, (x.within y.most.0 y.most.1).most, x.most.2, y.most.2) in
    ap (λ (n : ℕ). record a { least = n }) low ∙ ap (λ (n : ℕ). record b { most = n }) high

-- a box from its parts
abbrev box : ℕ → ℕ → Span → Span → Span → Span → Span → Space
box accesses formats channels rate period periods buffer = record {
  accesses = accesses;
  formats = formats;
  channels = channels;
  rate = rate;
  period = period;
  periods = periods;
  buffer = buffer;
}

pub one-hull : (m : CardModel) (s h k : Space) → IsHull m s h → IsHull m s k → h ≡ k
one-hull m s h k x y =
    let accesses = one-mask m s (λ c. access_number c.access) _ _ x.accesses y.accesses in
    let formats = one-mask m s (λ c. format_number c.format) _ _ x.formats y.formats in
    let channels = one-span m s (λ c. c.channels) _ _ x.channels y.channels in
    let rate = one-span m s (λ c. c.rate) _ _ x.rate y.rate in
    let period = one-span m s (λ c. c.period) _ _ x.period y.period in
    let periods = one-span m s (λ c. c.periods) _ _ x.periods y.periods in
    let buffer = one-span m s buffer_of _ _ x.buffer y.buffer in
    ap (λ (n : ℕ). box n h.formats h.channels h.rate h.period h.periods h.buffer) accesses
    ∙ (ap (λ (n : ℕ). box k.accesses n h.channels h.rate h.period h.periods h.buffer) formats
    ∙ (ap (λ (n : Span). box k.accesses k.formats n h.rate h.period h.periods h.buffer) channels
    ∙ (ap (λ (n : Span). box k.accesses k.formats k.channels n h.period h.periods h.buffer) rate
    ∙ (ap (λ (n : Span). box k.accesses k.formats k.channels k.rate n h.periods h.buffer) period
    ∙ (ap (λ (n : Span). box k.accesses k.formats k.channels k.rate k.period n h.buffer) periods
    ∙ ap (λ (n : Span). box k.accesses k.formats k.channels k.rate k.period k.periods n) buffer)))))

-- the hull holds what occurs
pub hull-holds : (m : CardModel) (s h : Space) → IsHull m s h → (c : Config) → Occurs m s c → In h c
hull-holds m s h x c o = record {
  access = (x.accesses _).1 (c, o, refl);
  format = (x.formats _).1 (c, o, refl);
  channels = x.channels.within c o;
  rate = x.rate.within c o;
  period = x.period.within c o;
  periods = x.periods.within c o;
  buffer = x.buffer.within c o;
}

covers : (m : CardModel) (s : Space) (number : Config → ℕ) (whole part : Span) → IsSpanOf m s number part
    → ((c : Config) → Occurs m s c → Within whole (number c)) → Covers whole part
covers m s number whole part x inside = record {
  least = omega (arith, inside x.least.0 x.least.1, x.least.2);
  most = omega (arith, inside x.most.0 x.most.1, x.most.2);
}

-- and lies in each box that does
pub hull-least : (m : CardModel) (s h k : Space) → IsHull m s h → ((c : Config) → Occurs m s c → In k c) → HoldsBox k h
hull-least m s h k x inside = record {
  accesses = λ i b. let w = (x.accesses i).0 b in subst (λ (n : ℕ). HasBit k.accesses n) w.2 (inside w.0 w.1).access;
  formats = λ i b. let w = (x.formats i).0 b in subst (λ (n : ℕ). HasBit k.formats n) w.2 (inside w.0 w.1).format;
  channels = covers m s (λ c. c.channels) _ _ x.channels (λ c o. (inside c o).channels);
  rate = covers m s (λ c. c.rate) _ _ x.rate (λ c o. (inside c o).rate);
  period = covers m s (λ c. c.period) _ _ x.period (λ c o. (inside c o).period);
  periods = covers m s (λ c. c.periods) _ _ x.periods (λ c o. (inside c o).periods);
  buffer = covers m s buffer_of _ _ x.buffer (λ c o. (inside c o).buffer);
}
