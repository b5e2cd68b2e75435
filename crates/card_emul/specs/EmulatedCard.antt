-- What contracts see of an emulated card. This project's own.
use Rattle.std.specs.Prelude.{ℕ, Bool, false, List, [], replicate}
use Rattle.std.specs.declared.option.Option.{Option}
use Rattle.std.specs.declared.option.Option.TheVariants.{Some, None}
use Rattle.pcm_base.specs.declared.config.CardModel.{CardModel}
use Rattle.pcm_base.specs.declared.config.Shape.{Shape}
use Rattle.pcm_base.specs.CardFacts.{CardFacts}

-- the facts of a card, where the plan is always told; the bytes for which it has room; how often a trigger has failed
pub record EmulatedCard : Type 0 where
  pub runs : Bool
  pub shape : Option Shape
  pub position : ℕ
  pub taken : List ℕ
  pub to_give : List ℕ
  pub plan : List Bool
  pub model : CardModel
  pub room : ℕ
  pub faults : ℕ

abbrev pub facts_of : EmulatedCard → CardFacts
facts_of c = record {
  runs = c.runs;
  shape = c.shape;
  position = c.position;
  taken = c.taken;
  to_give = c.to_give;
  plan = Some c.plan;
  model = c.model;
}

-- no entry of a fault plan is set
abbrev pub no_fault : List Bool
no_fault = replicate 64 false

-- a card of this model that does not run, was never set up, has no frames taken and none to give, and fails at no trigger
abbrev pub new_card : CardModel → CardFacts
new_card m = record {
  runs = false;
  shape = None;
  position = 0;
  taken = [];
  to_give = [];
  plan = Some no_fault;
  model = m;
}
