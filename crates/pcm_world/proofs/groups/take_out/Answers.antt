use Rattle.std.proofs.Common.{◌≡◌, List, true, sym, ◌∙◌, subst}
use Rattle.pcm_base.specs.model.Stream.{Member as ModelMember}
use Rattle.pcm_stream.specs.declared.members.Member.{Member}
use Rattle.pcm_stream.specs.Members.{members_of}
use Rattle.pcm_stream.specs.MembersStand.{AllStandFor}
use Rattle.pcm_group.specs.Waiting.{all_wait}
use Rattle.card_emul.specs.declared.any_card.AnyCard.{AnyCard}
use Rattle.card_emul.specs.contracts.any_card.AnyCardCard.TheImpl.{ghosts}
use Rattle.pcm_world.proofs.LawLemmas.{nobody_woken}
use Rattle.pcm_world.proofs.RestLemmas.{at_rest}
use Rattle.pcm_world.proofs.groups.take_out.Goals as goal

waits : (c : goal.After-into_members) (ms : List ModelMember) → AllStandFor (members_of c.into_members.result) ms → all_wait ms ≡ true
waits c ms h = c.members.ensures.waiting ms (subst (λ (l : List (Member AnyCard ghosts)). AllStandFor l ms) (c.into_members.ensures.members ∙ sym c.members.ensures.members) h)

pub returns-clause-stands : goal.returns-clause-stands
returns-clause-stands c = λ ms h. at_rest (members_of c.into_members.result) ms (waits c ms h) h

pub returns-clause-nobody : goal.returns-clause-nobody
returns-clause-nobody c = λ ms h. nobody_woken ms (waits c ms h)
