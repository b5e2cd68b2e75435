-- The cards of a floor.
use Rattle.card_emul.specs.Limits.{limits_of}
use Rattle.pcm_base.specs.declared.config.CardModel.{CardModel}
use Rattle.pcm_base.specs.declared.config.Model.{Model}
use Rattle.pcm_base.specs.declared.state.Dir.{Dir}

-- the limits of a card of this model, with its direction
abbrev pub limits : Model × Dir → CardModel × Dir
limits c = (limits_of c.0, c.1)
