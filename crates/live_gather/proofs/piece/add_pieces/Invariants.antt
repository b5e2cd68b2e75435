use Rattle.std.proofs.Common.{◌≡◌, ◌+◌, ℕ, length, slice_get, Some}
use Rattle.std.specs.Prelude.{vec_len, vec_capacity}
use Rattle.card_emul.specs.declared.any_card.AnyCard.{AnyCard}
use Rattle.card_emul.specs.contracts.any_card.AnyCardCard.TheImpl.{ghosts}
use Rattle.pcm_stream.specs.Members.{members_of}
use Rattle.pcm_stream.specs.declared.members.Member.{Member}
use Rattle.room_parts.specs.Recs.{RecView}
use Rattle.live_gather.specs.Pieces.{HasPlayed, log_of, with_logs}
use Rattle.live_gather.proofs.piece.add_pieces.Given as goal

abbrev pub invariant-loop-rec : goal.invariant-loop-rec
invariant-loop-rec g l = record {
  size : length l.recs.items ≡ length (members_of l.members);
  played : (i : ℕ) (r : RecView) (m : Member AnyCard ghosts) → slice_get l.recs.items i ≡ Some r → slice_get (members_of l.members) i ≡ Some m → HasPlayed g.N.FloorName.cards g.N.FloorName.long_max (log_of r.knows) m.stream;
  pieces : with_logs l.pieces.items l.recs.items ≡ with_logs l.fn.pieces.items l.fn.recs.items;
  count : vec_len l.pieces + length l.recs.items ≡ vec_len l.fn.pieces + length l.fn.recs.items;
  capacity : vec_capacity l.pieces ≡ vec_capacity l.fn.pieces;
}

abbrev pub decreases-loop-rec : goal.decreases-loop-rec
decreases-loop-rec g l = goal.left-loop-rec g l
