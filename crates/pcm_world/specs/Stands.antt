-- The world of the model that a world stands for.
use Rattle.std.specs.Prelude.{◌≡◌, ℕ, List}
use Rattle.std.specs.declared.option.Option.{Option}
use Rattle.pcm_base.specs.declared.card.Card.{Ghosts}
use Rattle.pcm_base.specs.model.World.{World}
use Rattle.pcm_group.specs.declared.group.Group.{Group}
use Rattle.pcm_world.specs.declared.calls.Kept.{Kept}
use Rattle.pcm_world.specs.Calls.{AreKept, CallsAgree}
use Rattle.pcm_world.specs.Groups.{GroupsStand}

-- LONG_MAX is the session's, each group stands for the one in its place, and the clients' calls in progress are those of the world.
pub record AreWorld {C : Type 0} {g : Ghosts C} (longest : ℕ) (gs : List (Group C g)) (calls : List (Option Kept)) (w : World) : Type 0 where
  pub long_max : longest ≡ w.long_max
  pub groups : GroupsStand gs w.groups
  pub kept : AreKept calls w.groups w.calls
  pub agree : CallsAgree w.groups w.calls
