-- The members of a group.
use Rattle.std.specs.Prelude.{List}
use Rattle.pcm_base.specs.declared.card.Card.{Ghosts}
use Rattle.pcm_stream.specs.declared.members.Member.{Member}
use Rattle.pcm_stream.specs.Members.{members_of}
use Rattle.pcm_group.specs.declared.group.Group.{Group}

abbrev pub members_in : {C : Type 0} {g : Ghosts C} → Group C g → List (Member C g)
members_in group = members_of group.members
