-- What each client and each card calls in a run. This project's own.
use Rattle.std.specs.Prelude.{◌≡◌, ℕ, Bool, false, nat_eq, List, [], ◌∷◌, ◌++◌, take, slice_get, if◌then◌else◌}
use Rattle.std.specs.declared.option.Option.{Option}
use Rattle.std.specs.declared.option.Option.TheVariants.{Some, None}
use Rattle.pcm_base.specs.declared.call.Event.{Event as CoreEvent}
use Rattle.pcm_base.specs.declared.ids.ClientId.{ClientId}
use Rattle.pcm_base.specs.declared.ids.SubId.{SubId}
use Rattle.pcm_base.specs.declared.reply.Reply.{Reply}
use Rattle.pcm_line.specs.declared.line.Line.{Line}
use Rattle.pcm_line.specs.declared.line.Line.TheVariants.{Beat}
use Rattle.live_plan.specs.declared.plan.Plan.{Plan}
use Rattle.live_work.specs.Beats.{beats}
use Rattle.live_work.specs.Called.{Call}
use Rattle.live_work.specs.Runs.{AreCallsOf}

-- a call of a setup, and its reply
pub record Answered : Type 0 where
  pub call : Call
  pub reply : Reply

abbrev pub asked : Answered → Call
asked a = a.call

-- whether the event is one of the client of this number, or of the card of the substream of this number

abbrev pub is_by_client : ℕ → Option ClientId → Bool
is_by_client c (Some d) = nat_eq d.0 c
is_by_client c None = false

abbrev pub is_by_card : ℕ → Option ClientId → SubId → Bool
is_by_card k (Some d) sub = false
is_by_card k None sub = nat_eq sub.0 k

abbrev pub is_of_client : ℕ → CoreEvent → Bool
is_of_client c e = is_by_client c e.client

abbrev pub is_of_card : ℕ → CoreEvent → Bool
is_of_card k e = is_by_card k e.client e.sub

-- those of the calls whose events are such, in order
abbrev pub calls_for : (CoreEvent → Bool) → List Call → List Call
calls_for is [] = []
calls_for is (c ∷ calls) = if is c.event then c ∷ calls_for is calls else calls_for is calls

abbrev pub answered_for : (CoreEvent → Bool) → List Answered → List Answered
answered_for is [] = []
answered_for is (a ∷ answered) = if is a.call.event then a ∷ answered_for is answered else answered_for is answered

-- the lines of the client of this number
abbrev pub lines_of : Plan → ℕ → List Line
lines_of plan c = elim (slice_get plan.clients.items c) [ Some lines ↦ lines.items | None ↦ [] ]

-- A client calls what the setup has of it, and then its lines.
pub record IsClientRun (plan : Plan) (setup : List Call) (c : ℕ) (calls : List Call) : Type 0 where
  pub worked : List Call
  pub both : calls ≡ calls_for (is_of_client c) setup ++ worked
  pub lines : AreCallsOf (lines_of plan c) worked

-- The same, but of the first of its lines, the last of which need not have come to its end.
pub record IsClientStart (plan : Plan) (setup : List Call) (c : ℕ) (calls : List Call) : Type 0 where
  pub worked : List Call
  pub both : calls ≡ calls_for (is_of_client c) setup ++ worked
  pub count : ℕ
  pub lines : AreCallsOf (take count (lines_of plan c)) worked

-- the beats of the card of a substream that these lines plan: of each line of it
abbrev pub beats_in : ℕ → List Line → List Call
beats_in k [] = []
beats_in k (Beat s frames count ∷ lines) = if nat_eq s.0 k then beats s frames count else beats_in k lines
beats_in k (line ∷ lines) = beats_in k lines

-- A card makes the events that the setup has of it, and then its beats.
abbrev pub card_events : Plan → List Call → ℕ → List Call
card_events plan setup k = calls_for (is_of_card k) setup ++ beats_in k plan.beats.items
