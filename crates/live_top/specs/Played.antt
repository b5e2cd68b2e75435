-- What the passes of a floor have called in a run of a plan, and what is then gathered. This project's own.
use Rattle.std.specs.Prelude.{◌≡◌, ℕ, Bool, true, false, List, length, map, slice_get, take}
use Rattle.std.specs.declared.option.Option.{Option}
use Rattle.std.specs.declared.option.Option.TheVariants.{Some}
use mathlib.Core.List.{IsPrefix}
use Rattle.pcm_base.specs.declared.config.CardModel.{CardModel}
use Rattle.pcm_base.specs.declared.state.Dir.{Dir}
use Rattle.pcm_io.specs.Shelf.{Files}
use Rattle.floor_rule.specs.declared.rule.Marked.{Marked}
use Rattle.room_parts.specs.Passes.{PassView}
use Rattle.live_gather.specs.declared.gathered.Gathered.{Gathered}
use Rattle.live_plan.specs.declared.plan.Plan.{Plan}
use Rattle.live_work.specs.Called.{Call, HasCalled}
use Rattle.live_top.specs.Callers.{Answered, IsClientRun, IsClientStart, answered_for, asked, card_events, is_of_card, is_of_client}
use Rattle.live_top.specs.Ends.{AreOf}
use Rattle.live_top.specs.Outcome.{IsRun, IsRunStart, IsSetupBy, Played, card_count, entries_by, streams_by}
use Rattle.live_top.specs.Passes.{AreAnswered}

-- these are the calls of a setup, of all its lines or of the first
abbrev pub IsSetUp : Bool → Plan → Option Files → List Answered → Type 0
IsSetUp true plan files answered = IsSetupBy plan files plan.setup.items answered
IsSetUp false plan files answered = (count : ℕ) × IsSetupBy plan files (take count plan.setup.items) answered

-- those of a client, and of a card, to the end of the run or not

abbrev pub IsOfClient : Bool → Plan → List Call → ℕ → List Call → Type 0
IsOfClient true plan setup c calls = IsClientRun plan setup c calls
IsOfClient false plan setup c calls = IsClientStart plan setup c calls

abbrev pub IsOfCard : Bool → Plan → List Call → ℕ → List Call → Type 0
IsOfCard true plan setup k calls = calls ≡ card_events plan setup k
IsOfCard false plan setup k calls = IsPrefix calls (card_events plan setup k)

-- Between p and q the pass has made calls of this kind and no other, and the first of them were answered so.
pub record HasCalledSuch (limits : List (CardModel × Dir)) (long_max : ℕ) (Is : List Call → Type 0) (answered : List Answered) (p q : PassView) : Type 0 where
  pub calls : List Call
  pub such : Is calls
  pub called : HasCalled limits long_max calls p q
  pub answers : AreAnswered (length p.knows.calls) answered q.knows

-- The passes have called what a run of the plan has of them, to its end or not.
pub record HavePlayed (limits : List (CardModel × Dir)) (long_max : ℕ) (is_whole : Bool) (plan : Plan) (files : Option Files) (ps ps_now qs qs_now : List PassView) : Type 0 where
  pub setup : List Answered
  pub set_up : IsSetUp is_whole plan files setup
  pub clients : (c : ℕ) (p q : PassView) → slice_get ps c ≡ Some p → slice_get ps_now c ≡ Some q → HasCalledSuch limits long_max (IsOfClient is_whole plan (map asked setup) c) (answered_for (is_of_client c) setup) p q
  pub cards : (k : ℕ) (p q : PassView) → slice_get qs k ≡ Some p → slice_get qs_now k ≡ Some q → HasCalledSuch limits long_max (IsOfCard is_whole plan (map asked setup) k) (answered_for (is_of_card k) setup) p q

-- the logs are those of a run, to its end or not
abbrev pub IsRunTo : Bool → Plan → Option Files → (ℕ → List Marked) → Type 0
IsRunTo true plan files logs = IsRun plan files logs
IsRunTo false plan files logs = IsRunStart plan files logs

-- What is gathered of a run: the logs that play, and their streams, one for each card.
pub record IsGatheredRun (is_whole : Bool) (plan : Plan) (files : Option Files) (gs : List Gathered) : Type 0 where
  pub played : Played plan
  pub size : length gs ≡ card_count plan
  pub are : AreOf (entries_by played.logs) (streams_by played.ends) gs
  pub run : IsRunTo is_whole plan files played.logs
