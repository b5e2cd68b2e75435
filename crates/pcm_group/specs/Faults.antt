-- The counts of the cards' faults over the acts of a step.
use Rattle.std.specs.Prelude.{◌≡◌, ℕ, List, [], ◌∷◌}
use Rattle.pcm_base.specs.declared.card.Card.{Ghosts}
use Rattle.pcm_base.specs.declared.votes.Acted.{Acted}
use Rattle.pcm_stream.specs.declared.members.Member.{Member}
use Rattle.pcm_stream.specs.Members.{all_faults}
use Rattle.group_trigger.specs.Votes.{FaultsBy, all_tell}

-- one act, and what holds of the counts after it
pub record FaultsThen (d : Acted) (before : List ℕ) (Rest : List ℕ → Type 0) : Type 0 where
  pub between : List ℕ
  pub act : FaultsBy d.votes before between
  pub rest : Rest between

-- The counts before these acts and after them: in each act the count of a card rises where it failed, and no other changes.
abbrev pub FaultsOver : List Acted → List ℕ → List ℕ → Type 0
FaultsOver [] before now = now ≡ before
FaultsOver (d ∷ ds) before now = FaultsThen d before (λ between. FaultsOver ds between now)

-- The same cards tell their plans, and the counts go on with the acts, which were old and are now new.
pub record KeepsCards {C : Type 0} {g : Ghosts C} (old : List Acted) (ms : List (Member C g)) (new : List Acted) (ns : List (Member C g)) : Type 0 where
  pub tells : all_tell ns ≡ all_tell ms
  pub faults : (before : List ℕ) → FaultsOver old before (all_faults ms) → FaultsOver new before (all_faults ns)
