-- What calls on a substream leave as it was (this project's own).
use Rattle.std.specs.Prelude.{◌≡◌}
use Rattle.pcm_base.specs.declared.card.Card.{Ghosts}
use Rattle.pcm_stream.specs.declared.substream.Substream.{Substream}
use Rattle.pcm_stream.specs.StandsFor.{card_of, faults_of, shape_in, tells_plan}

-- Its card has failed no more often, and tells its fault plan or not as before.
pub record KeepsFaults {C : Type 0} {g : Ghosts C} (old : Substream C g) (new : Substream C g) : Type 0 where
  pub count : faults_of new ≡ faults_of old
  pub tells : tells_plan new ≡ tells_plan old

-- That, and the sizes of its configuration are the same.
pub record KeepsSizes {C : Type 0} {g : Ghosts C} (old : Substream C g) (new : Substream C g) : Type 0 where
  pub faults : KeepsFaults old new
  pub shape : shape_in new ≡ shape_in old

-- That, and all that can be said of its card is the same.
pub record KeepsCard {C : Type 0} {g : Ghosts C} (old : Substream C g) (new : Substream C g) : Type 0 where
  pub sizes : KeepsSizes old new
  pub card : card_of new ≡ card_of old
