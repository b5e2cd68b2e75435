use Rattle.std.proofs.Common.{◌≡◌, ◌/◌, List, ℕ, length, refl, sym, ◌∙◌, ap, subst}
use Rattle.pcm_base.specs.declared.call.Layout.TheVariants as layout
use Rattle.pcm_base.specs.model.Frame.{Frame, frames_of}
use Rattle.pcm_base.specs.model.Standing.{put_at}
use Rattle.pcm_base.specs.model.Transfer.{frames_in as frames_of_stream}
use Rattle.ring_memory.specs.Ring.{StandsForPuts, frames_in}
use Rattle.pcm_stream.proofs.LayoutLemmas.{AreWide-by}
use Rattle.pcm_stream.proofs.RunsLemmas.{PutsAreWide-put_at}
use Rattle.pcm_stream.proofs.runtime.Runtime.store.Goals as goal

pub returns-clause-stored : goal.returns-clause-stored
returns-clause-stored c s h =
    let r = c.args.self.now in
    let bytes : List ℕ = c.args.frames.now in
    let frames : frames_in r.ring bytes ≡ frames_of_stream s bytes = ap (λ w. frames_of (length bytes / w) w bytes) (r.sized.frame_bytes ∙ sym h.setup.frame_bytes) in
    record {
      setup = record {
        config = h.setup.config;
        shape = h.setup.shape;
        frame_bytes = h.setup.frame_bytes;
        buffer = h.setup.buffer;
        boundary = h.setup.boundary;
        sw = h.setup.sw;
        mappings = h.setup.mappings;
      };
      pointers = record {
        hw = h.pointers.hw;
        appl = h.pointers.appl;
        filled = h.pointers.filled;
      };
      frames = record {
        ring = subst (λ (x : List Frame). StandsForPuts c.put.new.self (put_at c.args.slot x s.puts)) frames (c.put.ensures.puts s.puts c.args.slot h.frames.ring refl);
        puts = PutsAreWide-put_at r.shape.frame_bytes c.args.slot (frames_of_stream s bytes) s.puts (AreWide-by layout.Interleaved r s bytes h) h.frames.puts;
        taken = h.frames.taken;
        to_give = h.frames.to_give;
        moved = h.frames.moved;
      };
    }
