-- A plan that is still being read, and the lines that it stands for.
use Rattle.std.specs.Prelude.{◌≡◌, ◌≢◌, ◌<◌, ◌≤◌, ◌+◌, ◌-◌, ◌^◌, ℕ, List, min, IfSome}
use Rattle.std.specs.declared.option.Option.{Option}
use Rattle.pcm_line.specs.declared.error.LineError.TheVariants.{Short}
use Rattle.pcm_text.specs.declared.status.Which.TheVariants.{Beats}
use Rattle.live_plan.specs.declared.error.PlanError.{PlanError}
use Rattle.live_plan.specs.declared.error.PlanError.TheVariants as error
use Rattle.live_plan.specs.declared.part.Part.TheVariants.{End}
use Rattle.live_plan.specs.Lines.{beat_limit, line_limit}
use Rattle.live_plan.specs.declared.draft.Draft.{Draft}
use Rattle.live_plan.specs.Plan.{Begins, HasAll, IsSaid}
use Rattle.live_plan.specs.Said.{Said, count_of, part_of, beat_sum}

-- it has what these lines say, their number, the part behind them, and their beats, 2 ^ 64 - 1 standing for any greater sum
pub record StandsFor (draft : Draft) (said : Said) : Type 0 where
  pub has : HasAll draft.plan said
  pub part : draft.part ≡ part_of said
  pub count : draft.count ≡ count_of said
  pub beats : draft.beats ≡ min (beat_sum said) (2 ^ 64 - 1)

-- it stands for all lines of a plan within the limits, where the source tells them
pub record IsDraftOf (draft : Draft) (left : Option (List ℕ)) : Type 0 where
  pub said : Said
  pub stands : StandsFor draft said
  pub lines : List (List ℕ)
  pub begins : Begins lines said
  pub few : draft.count ≤ line_limit
  pub told : IfSome left (λ bytes. IsSaid bytes said)

-- but the line behind them is counted too
pub record StandsBut (draft : Draft) (said : Said) : Type 0 where
  pub has : HasAll draft.plan said
  pub part : draft.part ≡ part_of said
  pub count : draft.count ≡ count_of said + 1
  pub beats : draft.beats ≡ min (beat_sum said) (2 ^ 64 - 1)

-- why the lines are no whole plan: a part is lacking, or there are too many beats
abbrev pub IsUnfinished : Said → PlanError → Type 0
IsUnfinished said (error.BadLine number fault) = (part_of said ≢ End) × (fault ≡ Short) × (number ≡ count_of said + 1)
IsUnfinished said (error.Limit Beats value) = (part_of said ≡ End) × (beat_limit < beat_sum said) × (value ≡ min (beat_sum said) (2 ^ 64 - 1))
IsUnfinished said _ = ⊥
