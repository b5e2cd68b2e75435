use Rattle.std.proofs.Common.{◌≡◌, ◌+◌, ◌-◌, ◌*◌, [], take, drop, get_or, sym, ap, ◌∙◌, arith}
use Rattle.indirect_card.specs.Hardware.{Hardware}
use Rattle.indirect_card.proofs.Frames.{frames_of-get}
use Rattle.indirect_card.proofs.buffer.HardwareBuffer.frame_at.Goals as goal

pub returns : goal.returns
returns c =
    let b = c.self.inside in
    let size : c.args.slot * c.self.inside.frame_bytes + c.self.inside.frame_bytes - c.args.slot * c.self.inside.frame_bytes ≡ c.self.inside.frame_bytes = omega arith in
    ap (λ n. take n (drop (c.args.slot * c.self.inside.frame_bytes) c.self.inside.bytes)) size
    ∙ (sym (frames_of-get 16 b.frame_bytes c.args.slot b.bytes c.requires)
    ∙ ap (λ (h : Hardware). get_or h.slots c.args.slot []) c.self.view_is)
