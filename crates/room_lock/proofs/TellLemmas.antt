-- Emulated cards tell their fault plans.
use Rattle.std.proofs.Common.{◌≡◌, true, List, [], ◌∷◌, refl}
use Rattle.card_emul.specs.declared.any_card.AnyCard.{AnyCard}
use Rattle.card_emul.specs.contracts.any_card.AnyCardCard.TheImpl.{ghosts}
use Rattle.pcm_stream.specs.declared.members.Member.{Member}
use Rattle.group_trigger.specs.Votes.{all_tell}
use Rattle.pcm_group.specs.Stepped.{all_true}

pub tells : (ms : List (Member AnyCard ghosts)) → all_true (all_tell ms) ≡ true
tells [] = refl
tells (m ∷ ms) = tells ms
