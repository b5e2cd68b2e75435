-- Why each end of the box occurs, and why nothing that occurs lies beyond it.
use Rattle.std.proofs.Common.{◌≡◌, ℕ, ◌*◌, ◌/◌, ◌≤◌, ◌⊎◌, ◌↔◌, inl, inr, min, bit_and, arith, refl, sym, subst}
use Rattle.std.proofs.Math.Nat.{le-div_iff_mul-le, mul-le-mul, one-le-mul}
use Rattle.pcm_base.specs.declared.config.CardModel.{CardModel}
use Rattle.pcm_base.specs.declared.config.Config.{Config}
use Rattle.pcm_base.specs.declared.config.Space.{Space}
use Rattle.pcm_base.specs.declared.config.Span.{Span}
use Rattle.pcm_base.specs.declared.format.Access.{Access}
use Rattle.pcm_base.specs.declared.format.Format.{Format}
use Rattle.pcm_base.specs.CardFacts.{HasChannels}
use Rattle.pcm_base.specs.Numbers.{sample_bytes, format_number, access_number}
use Rattle.pcm_base.specs.model.Allowed.{buffer_of, frame_bytes_of}
use Rattle.hw_params.specs.declared.base.Base.{Base}
use Rattle.hw_params.specs.declared.sizes.Sizes.{Sizes}
use Rattle.hw_params.specs.Base.{IsBase, room, CanHaveChannels, CanHaveRate}
use Rattle.hw_params.specs.Hull.{HasBit, Occurs, IsMaskOf, IsSpanOf}
use Rattle.hw_params.specs.Masks.{AreAccessesOf, AreFormatsOf}
use Rattle.hw_params.specs.Sizes.{Fits, IsRange, AreRanges}
use Rattle.hw_params.specs.Spans.{Within, IsCommon, IsGreatest}
use Rattle.hw_params.proofs.MaskLaws.{and-left, and-right, and-both, width-least}

-- a smaller buffer of smaller frames takes no more bytes
less-bytes : (b d w v n k t : ℕ) → b ≤ d → w ≤ v → n ≤ k → d * (v * k) ≤ t → b * (w * n) ≤ t
less-bytes b d w v n k t hb hw hn h = let p : b * (w * n) ≤ d * (v * k) = mul-le-mul hb (mul-le-mul hw hn) in omega arith

-- a count is at most the quotient exactly where the product fits
within-frame : (b w n t : ℕ) → 1 ≤ b → 1 ≤ w → (n ≤ t / b / w) ↔ (b * (w * n) ≤ t)
within-frame b w n t hb hw =
    let outer = le-div_iff_mul-le {k = w} {x = n} {y = t / b} (omega arith) in
    let inner = le-div_iff_mul-le {k = b} {x = n * w} {y = t} (omega arith) in
    let same : n * w * b ≡ b * (w * n) = grind arith in (
      (λ h. let p : n * w * b ≤ t = inner.0 (outer.0 h) in omega (arith, same)),
      (λ h. let p : n * w * b ≤ t = omega (arith, same) in outer.1 (inner.1 p)),
    )

-- a number lies in what two spans have in common exactly where it lies in both
cut-left : (a b c : Span) (n : ℕ) → IsCommon a b c → Within c n → Within a n
cut-left a b c n common within = record { least = omega arith; most = omega arith }

cut-right : (a b c : Span) (n : ℕ) → IsCommon a b c → Within c n → Within b n
cut-right a b c n common within = record { least = omega arith; most = omega arith }

cut-both : (a b c : Span) (n : ℕ) → IsCommon a b c → Within a n → Within b n → Within c n
cut-both a b c n common left right = record { least = omega arith; most = omega arith }

-- a configuration that lies in what is left where the model and the space are cut against each other
record Suits (m : CardModel) (s : Space) (b : Base) (c : Config) : Type 0 where
  access : HasBit m.accesses (access_number c.access) × HasBit s.accesses (access_number c.access)
  format : HasBit m.formats (format_number c.format) × HasBit s.formats (format_number c.format)
  channels : Within b.channels c.channels
  rate : Within b.rate c.rate
  sizes : Fits b.sizes c.period c.periods
  bytes : buffer_of c * frame_bytes_of c ≤ m.buffer_bytes
  wide : (c.rate ≤ m.wide_rate) ⊎ (c.channels ≤ 2)

suits-occurs : (m : CardModel) (s : Space) (b : Base) (c : Config) → IsBase m s b → Suits m s b c → Occurs m s c
suits-occurs m s b c base x = record {
  allowed = record {
    access = x.access.0;
    format = x.format.0;
    channels = cut-left _ _ _ _ base.channels x.channels;
    rate = cut-left _ _ _ _ base.rate x.rate;
    period = cut-left _ _ _ _ base.period x.sizes.period;
    periods = cut-left _ _ _ _ base.periods x.sizes.count;
    buffer = record { least = omega (arith, base.buffer, x.sizes.buffer); most = omega (arith, base.buffer, x.sizes.buffer) };
    bytes = x.bytes;
    wide = x.wide;
  };
  inside = record {
    access = x.access.1;
    format = x.format.1;
    channels = cut-right _ _ _ _ base.channels x.channels;
    rate = cut-right _ _ _ _ base.rate x.rate;
    period = cut-right _ _ _ _ base.period x.sizes.period;
    periods = cut-right _ _ _ _ base.periods x.sizes.count;
    buffer = cut-right _ _ _ _ base.buffer x.sizes.buffer;
  };
}

-- the frame that leaves the most room has a byte at least
base-frame : (m : CardModel) (s : Space) (b : Base) → HasChannels m → IsBase m s b → 1 ≤ sample_bytes b.format * b.channels.least
base-frame m s b has base = one-le-mul (width-least b.format) (omega (arith, has.least, base.channels))

-- a buffer of such frames fits exactly where it has at most so many
base-room : (m : CardModel) (s : Space) (b : Base) (n : ℕ) → HasChannels m → IsBase m s b
    → (n ≤ room m b) ↔ (n * (sample_bytes b.format * b.channels.least) ≤ m.buffer_bytes)
base-room m s b n has base =
    le-div_iff_mul-le {k = sample_bytes b.format * b.channels.least} {x = n} {y = m.buffer_bytes} (base-frame m s b has base)

-- what occurs has no narrower samples and no fewer channels
wider : (m : CardModel) (s : Space) (b : Base) (c : Config) → IsBase m s b → Occurs m s c → sample_bytes b.format ≤ sample_bytes c.format
wider m s b c base o = base.narrow c.format o.allowed.format o.inside.format

common-channels : (m : CardModel) (s : Space) (b : Base) (c : Config) → IsBase m s b → Occurs m s c → Within b.channels c.channels
common-channels m s b c base o = cut-both _ _ _ _ base.channels o.allowed.channels o.inside.channels

common-rate : (m : CardModel) (s : Space) (b : Base) (c : Config) → IsBase m s b → Occurs m s c → Within b.rate c.rate
common-rate m s b c base o = cut-both _ _ _ _ base.rate o.allowed.rate o.inside.rate

-- what occurs has sizes that fit
pub fits-of : (m : CardModel) (s : Space) (b : Base) → HasChannels m → IsBase m s b → (c : Config) → Occurs m s c → Fits b.sizes c.period c.periods
fits-of m s b has base c o =
    let channels = common-channels m s b c base o in
    let bytes : buffer_of c * (sample_bytes b.format * b.channels.least) ≤ m.buffer_bytes =
    less-bytes _ _ _ _ _ _ _ (omega arith) (wider m s b c base o) channels.least o.allowed.bytes in
    let enough : buffer_of c ≤ room m b = (base-room m s b (buffer_of c) has base).1 bytes in
    let limit : Within (record { least = 4; most = min (room m b) 65536 }) (buffer_of c) =
    record { least = o.allowed.buffer.least; most = omega (arith, o.allowed.buffer) } in
    record {
      period = cut-both _ _ _ _ base.period o.allowed.period o.inside.period;
      count = cut-both _ _ _ _ base.periods o.allowed.periods o.inside.periods;
      buffer = cut-both _ _ _ _ base.buffer limit o.inside.buffer;
    }

-- a configuration from its parts
abbrev config : Access → Format → ℕ → ℕ → ℕ → ℕ → Config
config a f n r p q = record { access = a; format = f; channels = n; rate = r; period = p; periods = q }

-- the one that leaves the most room, with these sizes
abbrev roomiest : Base → ℕ → ℕ → Config
roomiest b p q = config b.access b.format b.channels.least b.rate.least p q

least-within : (span : Span) → span.least ≤ span.most → Within span span.least
least-within span some = record { least = omega arith; most = some }

roomiest-bytes : (m : CardModel) (s : Space) (b : Base) (p q : ℕ) → HasChannels m → IsBase m s b → Fits b.sizes p q
    → p * q * (sample_bytes b.format * b.channels.least) ≤ m.buffer_bytes
roomiest-bytes m s b p q has base fit = (base-room m s b (p * q) has base).0 (omega (arith, base.buffer, fit.buffer))

roomiest-occurs : (m : CardModel) (s : Space) (b : Base) (p q : ℕ) → HasChannels m → IsBase m s b → Fits b.sizes p q → Occurs m s (roomiest b p q)
roomiest-occurs m s b p q has base fit = suits-occurs m s b (roomiest b p q) base (record {
  access = base.access;
  format = base.format;
  channels = least-within b.channels base.some_channels;
  rate = least-within b.rate base.some_rate;
  sizes = fit;
  bytes = roomiest-bytes m s b p q has base fit;
  wide = base.wide;
})

-- a range of sizes is one of configurations
pub sizes-span : (m : CardModel) (s : Space) (b : Base) (number : ℕ → ℕ → ℕ) (span : Span)
    → HasChannels m → IsBase m s b → IsRange (Fits b.sizes) number span → IsSpanOf m s (λ c. number c.period c.periods) span
sizes-span m s b number span has base r = record {
  least = (roomiest b r.least.0 r.least.1, roomiest-occurs m s b _ _ has base r.least.2, r.least.3);
  most = (roomiest b r.most.0 r.most.1, roomiest-occurs m s b _ _ has base r.most.2, r.most.3);
  within = λ c o. r.within c.period c.periods (fits-of m s b has base c o);
}

-- what the box is made of: what leaves the most room in a model and a space, and the ranges of the sizes that fit beside it
pub record IsBoxed (m : CardModel) (s : Space) (b : Base) (z : Sizes) : Type 0 where
  pub has : HasChannels m
  pub base : IsBase m s b
  pub sizes : AreRanges (Fits b.sizes) z

-- a period and a count that make the least buffer
record Smallest (b : Base) (z : Sizes) : Type 0 where
  period : ℕ
  count : ℕ
  fits : Fits b.sizes period count
  least : period * count ≡ z.buffer.least
  some : 1 ≤ z.buffer.least

smallest : (m : CardModel) (s : Space) (b : Base) (z : Sizes) → IsBoxed m s b z → Smallest b z
smallest m s b z x =
    let l = x.sizes.buffer.least in
    record { period = l.0; count = l.1; fits = l.2; least = l.3; some = omega (arith, x.base.buffer, l.2.buffer, l.3) }

-- the least buffer takes no more bytes than a buffer that occurs, with frames no greater
least-bytes : (m : CardModel) (s : Space) (b : Base) (z : Sizes) (c : Config) (w n : ℕ) → IsBoxed m s b z → Occurs m s c
    → w ≤ sample_bytes c.format → n ≤ c.channels → z.buffer.least * (w * n) ≤ m.buffer_bytes
least-bytes m s b z c w n x o narrow few =
    let least = (x.sizes.buffer.within c.period c.periods (fits-of m s b x.has x.base c o)).least in
    less-bytes _ _ _ _ _ _ _ least narrow few o.allowed.bytes

-- the least buffer with frames of its own
smallest-bytes : (m : CardModel) (b : Base) (z : Sizes) (l : Smallest b z) (w n : ℕ)
    → z.buffer.least * (w * n) ≤ m.buffer_bytes → l.period * l.count * (w * n) ≤ m.buffer_bytes
smallest-bytes m b z l w n h = subst (λ (buffer : ℕ). buffer * (w * n) ≤ m.buffer_bytes) (sym l.least) h

-- the roomiest configuration with the least buffer
abbrev smallest-of : (b : Base) (z : Sizes) → Smallest b z → Config
smallest-of b z l = roomiest b l.period l.count

smallest-occurs : (m : CardModel) (s : Space) (b : Base) (z : Sizes) → IsBoxed m s b z → (l : Smallest b z) → Occurs m s (smallest-of b z l)
smallest-occurs m s b z x l = roomiest-occurs m s b l.period l.count x.has x.base l.fits

pub channels-span : (m : CardModel) (s : Space) (b : Base) (z : Sizes) (n : ℕ) → IsBoxed m s b z
    → IsGreatest (CanHaveChannels m b (m.buffer_bytes / z.buffer.least / sample_bytes b.format)) n
    → IsSpanOf m s (λ c. c.channels) (record { least = b.channels.least; most = n })
channels-span m s b z n x greatest =
    let l = smallest m s b z x in
    let least = smallest-of b z l in
    let occurs = smallest-occurs m s b z x l in
    let frame = λ (k : ℕ). within-frame z.buffer.least (sample_bytes b.format) k m.buffer_bytes l.some (width-least b.format) in
    let first = least-bytes m s b z least (sample_bytes b.format) b.channels.least x occurs (omega arith) (omega arith) in
    let some : b.channels.least ≤ n = greatest.above b.channels.least (x.base.some_channels, (frame b.channels.least).1 first, x.base.wide) in
    let last = record least { channels = n } in
    let suits : Suits m s b last = record {
      access = x.base.access;
      format = x.base.format;
      channels = record { least = some; most = greatest.here.0 };
      rate = least-within b.rate x.base.some_rate;
      sizes = l.fits;
      bytes = smallest-bytes m b z l (sample_bytes b.format) n ((frame n).0 greatest.here.1);
      wide = greatest.here.2;
    } in
    record {
      least = (least, occurs, refl);
      most = (last, suits-occurs m s b last x.base suits, refl);
      within = λ c o.
          let channels = common-channels m s b c x.base o in
          let bytes = least-bytes m s b z c (sample_bytes b.format) c.channels x o (wider m s b c x.base o) (omega arith) in
          let wide : (b.rate.least ≤ m.wide_rate) ⊎ (c.channels ≤ 2) =
          elim o.allowed.wide [ inl h ↦ inl (omega (arith, common-rate m s b c x.base o)) | inr h ↦ inr h ] in
          record { least = channels.least; most = greatest.above c.channels (channels.most, (frame c.channels).1 bytes, wide) };
    }

pub rate-span : (m : CardModel) (s : Space) (b : Base) (z : Sizes) (n : ℕ) → IsBoxed m s b z → IsGreatest (CanHaveRate m b) n
    → IsSpanOf m s (λ c. c.rate) (record { least = b.rate.least; most = n })
rate-span m s b z n x greatest =
    let l = smallest m s b z x in
    let least = smallest-of b z l in
    let occurs = smallest-occurs m s b z x l in
    let last = record least { rate = n } in
    let suits : Suits m s b last = record {
      access = x.base.access;
      format = x.base.format;
      channels = least-within b.channels x.base.some_channels;
      rate = record { least = greatest.above b.rate.least (x.base.some_rate, x.base.wide); most = greatest.here.0 };
      sizes = l.fits;
      bytes = occurs.allowed.bytes;
      wide = greatest.here.1;
    } in
    record {
      least = (least, occurs, refl);
      most = (last, suits-occurs m s b last x.base suits, refl);
      within = λ c o.
          let rate = common-rate m s b c x.base o in
          let wide : (c.rate ≤ m.wide_rate) ⊎ (b.channels.least ≤ 2) =
          elim o.allowed.wide [ inl h ↦ inl h | inr h ↦ inr (omega (arith, common-channels m s b c x.base o)) ] in
          record { least = rate.least; most = greatest.above c.rate (rate.most, wide) };
    }

pub access-mask : (m : CardModel) (s : Space) (b : Base) (z : Sizes) (mask : ℕ) → IsBoxed m s b z
    → AreAccessesOf (bit_and m.accesses s.accesses) mask → IsMaskOf m s (λ c. access_number c.access) mask
access-mask m s b z mask x told i =
    let l = smallest m s b z x in
    let least = smallest-of b z l in
    let occurs = smallest-occurs m s b z x l in (
      (λ h.
          let t = (told i).0 h in
          let both = subst (λ (k : ℕ). HasBit (bit_and m.accesses s.accesses) k) (sym t.2) t.1 in
          let here = record least { access = t.0 } in
          let suits : Suits m s b here = record {
            access = (and-left m.accesses s.accesses _ both, and-right m.accesses s.accesses _ both);
            format = x.base.format;
            channels = least-within b.channels x.base.some_channels;
            rate = least-within b.rate x.base.some_rate;
            sizes = l.fits;
            bytes = occurs.allowed.bytes;
            wide = x.base.wide;
          } in
          (here, suits-occurs m s b here x.base suits, t.2)),
      (λ h.
          let both = and-both m.accesses s.accesses _ h.1.allowed.access h.1.inside.access in
          (told i).1 (h.0.access, subst (λ (k : ℕ). HasBit (bit_and m.accesses s.accesses) k) h.2 both, h.2)),
    )

pub format-mask : (m : CardModel) (s : Space) (b : Base) (z : Sizes) (mask : ℕ) → IsBoxed m s b z
    → AreFormatsOf (bit_and m.formats s.formats) (m.buffer_bytes / z.buffer.least / b.channels.least) mask
    → IsMaskOf m s (λ c. format_number c.format) mask
format-mask m s b z mask x told i =
    let l = smallest m s b z x in
    let least = smallest-of b z l in
    let n = b.channels.least in
    let some : 1 ≤ n = omega (arith, x.has.least, x.base.channels) in
    let frame = λ (w : ℕ). within-frame z.buffer.least n w m.buffer_bytes l.some some in
    let turn = λ (w : ℕ). let e : z.buffer.least * (n * w) ≡ z.buffer.least * (w * n) = grind arith in e in (
      (λ h.
          let t = (told i).0 h in
          let both = subst (λ (k : ℕ). HasBit (bit_and m.formats s.formats) k) (sym t.2) t.1 in
          let here = record least { format = t.0 } in
          let bytes : z.buffer.least * (sample_bytes t.0 * n) ≤ m.buffer_bytes =
          subst (λ (k : ℕ). k ≤ m.buffer_bytes) (turn (sample_bytes t.0)) ((frame (sample_bytes t.0)).0 t.3) in
          let suits : Suits m s b here = record {
            access = x.base.access;
            format = (and-left m.formats s.formats _ both, and-right m.formats s.formats _ both);
            channels = least-within b.channels x.base.some_channels;
            rate = least-within b.rate x.base.some_rate;
            sizes = l.fits;
            bytes = smallest-bytes m b z l (sample_bytes t.0) n bytes;
            wide = x.base.wide;
          } in
          (here, suits-occurs m s b here x.base suits, t.2)),
      (λ h.
          let c = h.0 in
          let o = h.1 in
          let w = sample_bytes c.format in
          let both = and-both m.formats s.formats _ o.allowed.format o.inside.format in
          let bytes = least-bytes m s b z c w n x o (omega arith) (common-channels m s b c x.base o).least in
          let fits = subst (λ (k : ℕ). k ≤ m.buffer_bytes) (sym (turn w)) bytes in
          (told i).1 (c.format, subst (λ (k : ℕ). HasBit (bit_and m.formats s.formats) k) h.2 both, h.2, (frame w).1 fits)),
    )
