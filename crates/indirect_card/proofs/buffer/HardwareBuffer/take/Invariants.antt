use Rattle.std.proofs.Common.{◌≡◌, ◌≤◌, ◌+◌, ◌%◌, length}
use Rattle.std.specs.Option.{ForSome}
use Rattle.pcm_base.specs.CardFacts.{took}
use Rattle.indirect_card.specs.Hardware.{frames_in, after_passing}
use Rattle.indirect_card.proofs.buffer.HardwareBuffer.take.Given as goal

abbrev pub invariant-loop-rest : goal.invariant-loop-rest
invariant-loop-rest g l = record {
  width : l.self.frame_bytes ≡ l.fn.self.frame_bytes;
  set_up : (g.C.Card.facts l.inner).shape ≡ (g.C.Card.facts l.fn.inner).shape;
  whole : length l.rest % l.fn.self.frame_bytes ≡ 0;
  passed : after_passing l.self (frames_in l.self l.rest) ≡ after_passing l.fn.self (frames_in l.fn.self l.frames);
  after : ForSome (g.C.Card.facts l.fn.inner).shape (λ s. took (g.C.Card.facts l.inner) s l.rest ≡ took (g.C.Card.facts l.fn.inner) s l.frames);
  room : g.C.Card.room l.fn.inner + length l.rest ≤ g.C.Card.room l.inner + length l.frames;
  kept : g.C.Card.faults l.inner ≡ g.C.Card.faults l.fn.inner;
}

abbrev pub decreases-loop-rest : goal.decreases-loop-rest
decreases-loop-rest g l = length l.rest
