-- What `refine` answers to a space line. This project's own.
use Rattle.std.specs.Prelude.{◌≡◌, ◌⊎◌, ℕ, List, [], ◌∷◌, ◌++◌, codes}
use Rattle.pcm_base.specs.declared.config.Model.{Model}
use Rattle.pcm_base.specs.declared.config.Space.{Space as Box}
use Rattle.pcm_line.specs.declared.line.Line.TheVariants.{Space}
use Rattle.pcm_line.specs.Grammar.{IsLine}
use Rattle.card_emul.specs.Limits.{limits_of}
use Rattle.hw_params.specs.Hull.{IsHull, HasNone}

-- the text is the space line of the least box that holds every configuration left
pub record IsBoxLine (model : Model) (space : Box) (text : List ℕ) : Type 0 where
  pub box : Box
  pub line : List ℕ
  pub hull : IsHull (limits_of model) space box
  pub says : IsLine line (Space model box)
  pub whole : text ≡ line ++ 10 ∷ []

-- the answer to a space line: that box, or the error where no configuration is left
abbrev pub IsAnswer : Model → Box → List ℕ → Type 0
IsAnswer model space text =
    IsBoxLine model space text ⊎ (HasNone (limits_of model) space × (text ≡ codes "err EINVAL 22" ++ 10 ∷ []))
