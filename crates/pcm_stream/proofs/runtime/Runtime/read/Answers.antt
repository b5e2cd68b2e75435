use Rattle.std.proofs.Common.{◌≡◌, ◌*◌, ◌%◌, ◌/◌, sym, ◌∙◌, ap, take, length}
use Rattle.pcm_stream.proofs.SlotLemmas.{size-whole, size-count, read-as, written_whole, slot-again}
use Rattle.pcm_stream.proofs.runtime.Runtime.read.Goals as goal

pub read_front-requires-clause-whole : goal.read_front-requires-clause-whole
read_front-requires-clause-whole c = size-whole c.args.self.now.shape c.args.self.now.ring c.args.count c.args.self.now.sized

pub returns-clause-frames : goal.returns-clause-frames
returns-clause-frames c s at h =
    let r = c.args.self.now in
    let slot : s.at.card % r.ring.buffer ≡ c.args.position % r.ring.buffer = slot-again r.shape.buffer r.ring.buffer c.args.position s.at.card r.sized.buffer at in
    ap (take (c.args.count * r.shape.frame_bytes)) (written_whole r.piece.len c.read_front.new.piece r.piece.items (c.read_front.auto.piece ∙ ap length c.deref_mut.ensures.value) (sym r.piece.ok.0)) ∙ c.read_front.ensures s.puts s.at.card h.frames.ring slot
    ∙ read-as s.puts r.ring.buffer s.setup.buffer s.at.card (c.args.count * r.shape.frame_bytes / r.ring.frame_bytes) c.args.count r.ring.frame_bytes s.setup.frame_bytes
    (r.sized.buffer ∙ sym h.setup.buffer) (size-count r.shape r.ring c.args.count r.sound r.sized) (r.sized.frame_bytes ∙ sym h.setup.frame_bytes)
