use Rattle.std.proofs.Common.{◌≡◌, ◌/◌, length, refl, sym, ◌∙◌, ap}
use Rattle.pcm_stream.proofs.SlotLemmas.{read-as}
use Rattle.pcm_stream.proofs.runtime.Runtime.load.Goals as goal

pub returns : goal.returns
returns c s h =
    let r = c.args.self.now in
    let width : r.ring.frame_bytes ≡ s.setup.frame_bytes = r.sized.frame_bytes ∙ sym h.setup.frame_bytes in
    c.get.ensures s.puts c.args.slot h.frames.ring refl
    ∙ read-as s.puts r.ring.buffer s.setup.buffer c.args.slot (length c.args.out.now / r.ring.frame_bytes) (length c.args.out.now / s.setup.frame_bytes) r.ring.frame_bytes s.setup.frame_bytes
    (r.sized.buffer ∙ sym h.setup.buffer) (ap (λ w. length c.args.out.now / w) width) width
