use Rattle.std.proofs.Common.{ℕ, ◌*◌, ◌/◌, subst}
use Rattle.hw_params.specs.Base.{CanHaveChannels}
use Rattle.hw_params.specs.Spans.{IsGreatest}
use Rattle.hw_params.proofs.Boxes.{IsBoxed, sizes-span, channels-span, rate-span, access-mask, format-mask}
use Rattle.hw_params.proofs.hull.box_of.Goals as goal

pub returns : goal.returns
returns c =
    let m = c.args.model.now in
    let s = c.args.space.now in
    let b = c.args.base.now in
    let z = c.args.sizes.now in
    let has = c.requires.channels in
    let base = c.requires.base in
    let ranges = c.requires.sizes in
    let x : IsBoxed m s b z = record { has = has; base = base; sizes = ranges } in
    let channels = subst (λ (w : ℕ). IsGreatest (CanHaveChannels m b (m.buffer_bytes / z.buffer.least / w)) c.most_channels.result) c.width.ensures.is c.most_channels.ensures in
    record {
      accesses = access-mask m s b z _ x c.accesses_in.ensures;
      formats = format-mask m s b z _ x c.formats_in.ensures;
      channels = channels-span m s b z _ x channels;
      rate = rate-span m s b z _ x c.most_rate.ensures;
      period = sizes-span m s b (λ p q. p) _ has base ranges.period;
      periods = sizes-span m s b (λ p q. q) _ has base ranges.periods;
      buffer = sizes-span m s b (λ p q. p * q) _ has base ranges.buffer;
    }
