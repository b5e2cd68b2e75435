use Rattle.std.proofs.Common.{◌≡◌, ◌+◌, ◌%◌, List, length, take, drop, sym, ◌∙◌, ap}
use Rattle.pcm_base.specs.model.Frame.{Frame}
use Rattle.pcm_base.specs.model.Transfer.{frames_by}
use Rattle.pcm_stream.proofs.LayoutLemmas.{length-part}
use Rattle.pcm_stream.proofs.runtime.Runtime.put.Goals as goal

pub returns-clause-put : goal.returns-clause-put
returns-clause-put c s h =
    let r = c.place.new.self in
    let kept = c.place.ensures.put s h in
    let fs : List Frame = take c.args.count (drop c.args.first (frames_by c.args.layout s c.args.io.now)) in
    let size : length (take c.args.count (drop c.args.first (frames_by c.args.layout s c.args.io.now))) ≡ c.args.count =
    length-part c.args.layout s c.args.io.now c.args.first c.args.count c.args.self.now.shape.frame_bytes h.setup.frame_bytes c.requires.within in
    record {
      setup = record {
        config = kept.setup.config;
        shape = kept.setup.shape;
        frame_bytes = kept.setup.frame_bytes;
        buffer = kept.setup.buffer;
        boundary = kept.setup.boundary;
        sw = kept.setup.sw;
        mappings = kept.setup.mappings;
      };
      pointers = record {
        hw = kept.pointers.hw;
        appl = c.add-self.ensures.shown s.at.appl kept.pointers.appl ∙ ap (λ x. (s.at.appl + x) % r.shape.boundary) (sym size);
        filled = kept.pointers.filled;
      };
      frames = record {
        ring = kept.frames.ring;
        puts = kept.frames.puts;
        taken = kept.frames.taken;
        to_give = kept.frames.to_give;
        moved = kept.frames.moved;
      };
    }
