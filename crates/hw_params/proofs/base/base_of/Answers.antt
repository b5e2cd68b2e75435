use Rattle.std.proofs.Common.{ℕ, ◌*◌, ◌/◌, inl, inr, min, subst}
use Rattle.hw_params.specs.Spans.{IsCommon}
use Rattle.hw_params.proofs.MaskLaws.{and-left, and-right, and-both}
use Rattle.hw_params.proofs.base.base_of.Goals as goal
use Rattle.hw_params.proofs.base.base_of.Goals.{else-rate-model-via-then-rate-model+else-channels-gt2, else-rate-model-via-else-rate-model}

pub returns-in_default : goal.returns-in_default
returns-in_default c = λ d o.
    let both = and-both c.args.model.now.accesses c.args.space.now.accesses _ o.allowed.access o.inside.access in
    c.in_default.ensures.none d.access both

pub returns-in_default-narrowest : goal.returns-in_default-narrowest
returns-in_default-narrowest c = λ d o.
    let both = and-both c.args.model.now.formats c.args.space.now.formats _ o.allowed.format o.inside.format in
    c.in_default-narrowest.ensures.none d.format both

pub returns : goal.returns
returns c =
    let m = c.args.model.now in
    let s = c.args.space.now in
    let access = c.in-Some.ensures.some in
    let format = c.in-Some-narrowest.ensures.some in
    let channels = c.common_of-channels.result in
    record {
      access = (and-left m.accesses s.accesses _ access, and-right m.accesses s.accesses _ access);
      format = (and-left m.formats s.formats _ format, and-right m.formats s.formats _ format);
      narrow = λ f x y. c.in-Some-narrowest.ensures.least f (and-both m.formats s.formats _ x y);
      channels = c.common_of-channels.ensures;
      some_channels = c.if-channels.false;
      rate = c.common_of-rate.ensures;
      some_rate = c.if-rate.false;
      wide = elim c.else-rate-model.branch [
        | else-rate-model-via-then-rate-model+else-channels-gt2 w ↦ inr w.if-channels-gt2.false
        | else-rate-model-via-else-rate-model w ↦ inl w.if-rate-model.false
      ];
      period = c.sizes_within.ensures.period;
      periods = c.sizes_within.ensures.periods;
      buffer = subst
          (λ (width : ℕ). IsCommon (record { least = 4; most = min (m.buffer_bytes / (width * channels.least)) 65536 }) s.buffer c.sizes_within.result.buffer)
          c.width.ensures.is c.sizes_within.ensures.buffer;
    }
