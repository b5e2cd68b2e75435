use Rattle.std.proofs.Common.{◌≡◌, ◌≤◌, ◌-◌, ◌%◌, ◌++◌, length, take}
use Rattle.std.specs.Option.{ForSome}
use Rattle.pcm_base.specs.CardFacts.{gave, given_bytes}
use Rattle.indirect_card.specs.Hardware.{frames_in, after_passing}
use Rattle.indirect_card.proofs.buffer.HardwareBuffer.give_into.Given as goal

abbrev pub invariant-loop-out : goal.invariant-loop-out
invariant-loop-out g l = record {
  within : l.done ≤ length l.out;
  width : l.self.frame_bytes ≡ l.fn.self.frame_bytes;
  set_up : (g.C.Card.facts l.inner).shape ≡ (g.C.Card.facts l.fn.inner).shape;
  whole : (length l.out - l.done) % l.fn.self.frame_bytes ≡ 0;
  given : take l.done l.out ++ given_bytes (length l.out - l.done) (g.C.Card.facts l.inner).to_give ≡ given_bytes (length l.out) (g.C.Card.facts l.fn.inner).to_give;
  passed : after_passing l.self (frames_in l.self (given_bytes (length l.out - l.done) (g.C.Card.facts l.inner).to_give))
      ≡ after_passing l.fn.self (frames_in l.fn.self (given_bytes (length l.out) (g.C.Card.facts l.fn.inner).to_give));
  after : ForSome (g.C.Card.facts l.fn.inner).shape (λ s. gave (g.C.Card.facts l.inner) s (length l.out - l.done) ≡ gave (g.C.Card.facts l.fn.inner) s (length l.out));
  kept : g.C.Card.faults l.inner ≡ g.C.Card.faults l.fn.inner;
}

abbrev pub decreases-loop-out : goal.decreases-loop-out
decreases-loop-out g l = length l.out - l.done
