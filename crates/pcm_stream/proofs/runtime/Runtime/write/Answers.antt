use Rattle.std.proofs.Common.{◌≡◌, ◌*◌, ◌%◌, List, ◌∙◌, ap, subst, take, length}
use Rattle.pcm_base.specs.model.Frame.{Frame, bytes_of}
use Rattle.pcm_base.specs.model.Standing.{put_at}
use Rattle.ring_memory.specs.Ring.{StandsForPuts, frames_in}
use Rattle.pcm_stream.proofs.SlotLemmas.{size-whole, slot-again, frames_in-bytes_of, length-front}
use Rattle.pcm_stream.proofs.RunsLemmas.{PutsAreWide-put_at}
use Rattle.pcm_stream.proofs.runtime.Runtime.write.Goals as goal

pub put-requires-clause-whole : goal.put-requires-clause-whole
put-requires-clause-whole c =
    let r = c.args.self.now in
    let size : length (take (c.args.count * r.shape.frame_bytes) c.deref.result.now) ≡ c.args.count * r.shape.frame_bytes =
    length-front c.args.count r.shape.buffer r.shape.frame_bytes c.deref.result.now (c.deref.ensures.len ∙ r.room) c.requires.count in
    ap (λ n. n % r.ring.frame_bytes) size ∙ size-whole r.shape r.ring c.args.count r.sized

pub returns-clause-put : goal.returns-clause-put
returns-clause-put c s fs at h count wide front =
    let r = c.args.self.now in
    let bytes : take (c.args.count * r.shape.frame_bytes) c.deref.result.now ≡ bytes_of fs = ap (take (c.args.count * r.shape.frame_bytes)) c.deref.ensures.value ∙ front in
    let frames : frames_in r.ring (take (c.args.count * r.shape.frame_bytes) c.deref.result.now) ≡ fs =
    frames_in-bytes_of r.shape r.ring c.args.count (take (c.args.count * r.shape.frame_bytes) c.deref.result.now) fs r.sound r.sized count wide bytes in
    let slot : s.at.card % r.ring.buffer ≡ c.args.position % r.ring.buffer = slot-again r.shape.buffer r.ring.buffer c.args.position s.at.card r.sized.buffer at in
    record {
      setup = record {
        config = h.setup.config;
        shape = h.setup.shape;
        frame_bytes = h.setup.frame_bytes;
        buffer = h.setup.buffer;
        boundary = h.setup.boundary;
        sw = h.setup.sw;
        mappings = h.setup.mappings;
      };
      pointers = record {
        hw = h.pointers.hw;
        appl = h.pointers.appl;
        filled = h.pointers.filled;
      };
      frames = record {
        ring = subst (λ (x : List Frame). StandsForPuts c.put.new.self (put_at s.at.card x s.puts)) frames (c.put.ensures.puts s.puts s.at.card h.frames.ring slot);
        puts = PutsAreWide-put_at r.shape.frame_bytes s.at.card fs s.puts wide h.frames.puts;
        taken = h.frames.taken;
        to_give = h.frames.to_give;
        moved = h.frames.moved;
      };
    }
