-- What a setup and the workers have called by the passes of a floor. This project's own.
use Rattle.std.specs.Prelude.{◌≡◌, ℕ, ◌+◌, List, length, map, slice_get, Bool, true, false}
use Rattle.std.specs.declared.option.Option.TheVariants.{Some}
use Rattle.pcm_base.specs.declared.call.Event.{Event as CoreEvent}
use Rattle.pcm_base.specs.declared.config.CardModel.{CardModel}
use Rattle.pcm_base.specs.declared.state.Dir.{Dir}
use Rattle.floor_rule.specs.declared.rule.PassKnows.{PassKnows}
use Rattle.room_parts.specs.Passes.{PassView}
use Rattle.room_parts.specs.declared.pass.Caller.TheVariants.{Card, Client}
use mathlib.Core.List.{IsPrefix}
use Rattle.pcm_line.specs.declared.line.Line.{Line}
use Rattle.live_plan.specs.declared.plan.Plan.{Plan}
use Rattle.live_work.specs.Called.{Call, HasCalled, WasAnswered}
use Rattle.live_work.specs.Runs.{HasRun, HasRunFirst}
use Rattle.live_top.specs.Callers.{Answered, answered_for, asked, beats_in, is_of_card, is_of_client, lines_of}

-- There are the passes of the 16 clients, and those of so many cards, each at its number.
pub record AreWhose (count : ℕ) (ps qs : List PassView) : Type 0 where
  pub clients : length ps ≡ 16
  pub of_cards : length qs ≡ count
  pub client : (c : ℕ) (p : PassView) → slice_get ps c ≡ Some p → p.caller ≡ Client (record { 0 = c })
  pub card : (k : ℕ) (p : PassView) → slice_get qs k ≡ Some p → p.caller ≡ Card (record { 0 = k })

-- the calls of a pass from number `first` on were answered so
abbrev pub AreAnswered : ℕ → List Answered → PassKnows → Type 0
AreAnswered first answered p = (k : ℕ) (a : Answered) → slice_get answered k ≡ Some a → WasAnswered (first + k) a.call a.reply p

-- Between p and q the pass has made these calls, which were answered so, and no other.
pub record HasAnswered (cards : List (CardModel × Dir)) (long_max : ℕ) (answered : List Answered) (p q : PassView) : Type 0 where
  pub called : HasCalled cards long_max (map asked answered) p q
  pub answers : AreAnswered (length p.knows.calls) answered q.knows

-- each pass has made those of these calls whose events are such for its number
abbrev pub EachCalled : List (CardModel × Dir) → ℕ → (ℕ → CoreEvent → Bool) → List Answered → List PassView → List PassView → Type 0
EachCalled cards long_max is answered ps qs = (i : ℕ) (p q : PassView) → slice_get ps i ≡ Some p → slice_get qs i ≡ Some q → HasAnswered cards long_max (answered_for (is i) answered) p q

-- The calls were made, each by the pass of its client or of its card.
pub record HaveCalled (limits : List (CardModel × Dir)) (long_max : ℕ) (answered : List Answered) (ps ps_now qs qs_now : List PassView) : Type 0 where
  pub clients : EachCalled limits long_max is_of_client answered ps ps_now
  pub cards : EachCalled limits long_max is_of_card answered qs qs_now

-- A worker's pass has called what the lines of client c say, or the first of them where it was stopped.
abbrev pub HasWorked : List (CardModel × Dir) → ℕ → Bool → List Line → PassView → PassView → Type 0
HasWorked cards long_max true lines p q = HasRun cards long_max lines p q
HasWorked cards long_max false lines p q = HasRunFirst cards long_max lines p q

-- The same of a card: the beats that these lines plan for it, or the first of their events.
abbrev pub HasMoved : List (CardModel × Dir) → ℕ → Bool → List Call → PassView → PassView → Type 0
HasMoved cards long_max true events p q = HasCalled cards long_max events p q
HasMoved cards long_max false events p q = (calls : List Call) × IsPrefix calls events × HasCalled cards long_max calls p q

-- What the workers of a plan have called by their passes, to the end or not.
pub record HaveWorked (limits : List (CardModel × Dir)) (long_max : ℕ) (is_whole : Bool) (plan : Plan) (ps ps_now qs qs_now : List PassView) : Type 0 where
  pub clients : (c : ℕ) (p q : PassView) → slice_get ps c ≡ Some p → slice_get ps_now c ≡ Some q → HasWorked limits long_max is_whole (lines_of plan c) p q
  pub cards : (k : ℕ) (p q : PassView) → slice_get qs k ≡ Some p → slice_get qs_now k ≡ Some q → HasMoved limits long_max is_whole (beats_in k plan.beats.items) p q
