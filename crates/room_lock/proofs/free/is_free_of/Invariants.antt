use Rattle.std.proofs.Common.{◌≡◌, ◌<◌, ℕ, false, slice_get, Some}
use Rattle.card_emul.specs.declared.any_card.AnyCard.{AnyCard}
use Rattle.card_emul.specs.contracts.any_card.AnyCardCard.TheImpl.{ghosts}
use Rattle.pcm_group.specs.Waiting.{is_its_own}
use Rattle.pcm_stream.specs.declared.members.Member.{Member}
use Rattle.pcm_stream.specs.Members.{members_of}
use Rattle.sleepers.specs.Clients.{has_client}
use Rattle.room_lock.proofs.free.is_free_of.Given as goal

-- the client is free on those before
abbrev pub invariant-loop-i : goal.invariant-loop-i
invariant-loop-i l = (j : ℕ) (m : Member AnyCard ghosts) → j < l.i → slice_get (members_of l.members) j ≡ Some m → is_its_own l.event.call l.event.sub m.sub ≡ false → has_client l.client m.sleepers ≡ false
