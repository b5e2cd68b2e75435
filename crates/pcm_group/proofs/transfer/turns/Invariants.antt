-- The call has been turned so far; its sizes and its bytes fit what rests.
use Rattle.std.proofs.Common.{◌≡◌, ◌+◌, List, true, length}
use Rattle.pcm_base.specs.declared.ids.ClientId.{ClientId}
use Rattle.pcm_base.specs.declared.sleeper.Xfer.{Xfer}
use Rattle.pcm_base.specs.model.Frame.{Frame}
use Rattle.pcm_base.specs.model.Stream.{Stream}
use Rattle.pcm_base.specs.model.Transfer.{frames_by}
use Rattle.pcm_stream.specs.Members.{fixed_of}
use Rattle.pcm_stream.specs.StandsFor.{StandsFor, faults_of}
use Rattle.xfer_loop.specs.Loop.{IsOnTheWay}
use Rattle.pcm_group.specs.Transfers.{IsUnderWay}
use Rattle.pcm_group.proofs.transfer.turns.Given as goal

abbrev pub invariant-turns : goal.invariant-turns
invariant-turns g l = record {
  fixed : fixed_of l.member ≡ fixed_of l.fn.member;
  faults : faults_of l.member.stream ≡ faults_of l.fn.member.stream;
  size : length l.io ≡ length l.fn.io;
  sum : l.xfer.moved + l.xfer.rest ≡ l.fn.xfer.moved + l.fn.xfer.rest;
  written : (s : Stream) → StandsFor l.fn.member.stream s → l.fn.xfer.writing ≡ true → l.io ≡ l.fn.io;
  layout : (s : Stream) → StandsFor l.fn.member.stream s → l.xfer.layout ≡ l.fn.xfer.layout;
  writing : (s : Stream) → StandsFor l.fn.member.stream s → l.xfer.writing ≡ l.fn.xfer.writing;
  goes_on : (c : ClientId) (x : Xfer) (fs : List Frame) (s : Stream) → StandsFor l.fn.member.stream s → IsOnTheWay x l.fn.xfer fs → IsUnderWay c x l.fn.xfer l.xfer fs (frames_by l.fn.xfer.layout s l.fn.io) s l.fn.io l.io l.member.stream;
}

abbrev pub decreases-turns : goal.decreases-turns
decreases-turns g l = l.xfer.rest
