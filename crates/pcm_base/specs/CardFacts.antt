-- What a card is, and what its calls make of it. This project's own.
use Rattle.std.specs.Prelude.{ℕ, Bool, true, false, not, List, [], ◌∷◌, ◌++◌, length, replicate, take, drop, get_or, set, ◌+◌, ◌-◌, ◌/◌, ◌%◌, ◌≤◌, if◌then◌else◌}
use Rattle.std.specs.declared.option.Option.{Option}
use Rattle.std.specs.declared.option.Option.TheVariants.{Some, None}
use Rattle.pcm_base.specs.declared.act.Trigger.{Trigger}
use Rattle.pcm_base.specs.declared.act.Trigger.TheVariants as trigger
use Rattle.pcm_base.specs.declared.config.CardModel.{CardModel}
use Rattle.pcm_base.specs.declared.config.Shape.{Shape}
use Rattle.pcm_base.specs.Shape.{count_of}
use Rattle.pcm_base.specs.model.Words.{◌then◌}

-- Whether it runs, the shape of its last set-up, its position modulo the buffer, the frames taken and those to give as bytes, its fault plan where it tells one, and its limits.
pub record CardFacts : Type 0 where
  pub runs : Bool
  pub shape : Option Shape
  pub position : ℕ
  pub taken : List ℕ
  pub to_give : List ℕ
  pub plan : Option (List Bool)
  pub model : CardModel

-- the span of channels lies in 1 to 8
pub record HasChannels (m : CardModel) : Type 0 where
  pub least : 1 ≤ m.channels.least
  pub most : m.channels.most ≤ 8

-- whether the card runs after a trigger
abbrev pub runs_after : Trigger → Bool
runs_after trigger.Start = true
runs_after trigger.Stop = false
runs_after trigger.PausePush = false
runs_after trigger.PauseRelease = true
runs_after trigger.Suspend = false
runs_after trigger.Resume = true

-- the triggers that look at the fault plan
abbrev pub consults : Trigger → Bool
consults trigger.Stop = false
consults trigger.Suspend = false
consults t = true

-- the first entry of a plan
abbrev pub first_set : List Bool → Bool
first_set plan = get_or plan 0 false

-- the plan without its first entry, and with an unset one at its end
abbrev pub moved_on : List Bool → List Bool
moved_on plan = drop 1 plan ++ false ∷ []

-- the plan after a trigger
abbrev pub plan_after : Trigger → Option (List Bool) → Option (List Bool)
plan_after t None = None
plan_after t (Some plan) = Some (if consults t then moved_on plan else plan)

-- a card that made the trigger, that failed to, and one that undid it
abbrev pub triggered : CardFacts → Trigger → CardFacts
triggered f t = record f { runs = runs_after t; plan = plan_after t f.plan }

abbrev pub tripped : CardFacts → Trigger → CardFacts
tripped f t = record f { plan = plan_after t f.plan }

abbrev pub undone : CardFacts → Trigger → CardFacts
undone f t = record f { runs = not (runs_after t) }

-- a card set up with a shape
abbrev pub configured : CardFacts → Shape → CardFacts
configured f s = record f { runs = false; shape = Some s; position = 0; taken = []; to_give = [] }

-- a card whose position is back at the start
abbrev pub rewound_card : CardFacts → CardFacts
rewound_card f = record f { position = 0 }

-- so many frames further round the buffer
abbrev pub advanced : Shape → ℕ → ℕ → ℕ
advanced s position frames = (position + frames) % s.buffer

-- these frames went into the card
abbrev pub took : CardFacts → Shape → List ℕ → CardFacts
took f s frames = record f { position = advanced s f.position (count_of s frames); taken = f.taken ++ frames }

-- so many bytes came out of the card, and which: zero bytes past the end
abbrev pub gave : CardFacts → Shape → ℕ → CardFacts
gave f s bytes = record f { position = advanced s f.position (bytes / s.frame_bytes); to_give = drop bytes f.to_give }

abbrev pub given_bytes : ℕ → List ℕ → List ℕ
given_bytes bytes to_give = take bytes to_give ++ replicate (bytes - length to_give) 0

-- the frames to give are these
abbrev pub loaded : CardFacts → List ℕ → CardFacts
loaded f frames = record f { to_give = frames }

-- the k-th entry of the plan is set, counted from 1
abbrev pub plan_with : ℕ → Option (List Bool) → Option (List Bool)
plan_with k None = None
plan_with k (Some plan) = Some (set plan (k - 1) true)

abbrev pub planned : CardFacts → ℕ → CardFacts
planned f k = record f { plan = plan_with k f.plan }

-- no entry of the plan is set
abbrev pub plan_cleared : Option (List Bool) → Option (List Bool)
plan_cleared None = None
plan_cleared (Some plan) = Some (replicate (length plan) false)

abbrev pub cleared : CardFacts → CardFacts
cleared f = record f { plan = plan_cleared f.plan }
