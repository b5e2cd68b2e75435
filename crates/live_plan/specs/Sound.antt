-- What holds of every plan that was read, for those who run it. This project's own.
use Rattle.std.specs.Prelude.{◌≡◌, ◌≤◌, ◌<◌, ⊤, ℕ, ◌+◌, ◌^◌, true, false, List, [], ◌∷◌, length, slice_index_or, Vec}
use Rattle.std.specs.Global.{Global}
use Rattle.std.specs.List.{AllByRecursion}
use Rattle.pcm_base.specs.declared.call.Event.{Event as CoreEvent}
use Rattle.pcm_line.specs.declared.line.Line.{Line}
use Rattle.pcm_line.specs.declared.line.Line.TheVariants.{Event, Feed, Save, Beat}
use Rattle.pcm_line.specs.Sayable.{IsSayableEvent, IsNumber}
use Rattle.live_plan.specs.declared.plan.Plan.{Plan}
use Rattle.live_plan.specs.Lines.{beat_limit}
use Rattle.live_plan.specs.Rules.{is_go, waits, has_second, is_declared}
use Rattle.live_plan.specs.Said.{is_client, has_beat}

-- a call of a client or an event of a card, but no go, on a declared substream; the second of a link is declared too
pub record IsPlanned (cards : ℕ) (e : CoreEvent) (bytes : List ℕ) : Type 0 where
  pub sayable : IsSayableEvent e bytes
  pub no_go : is_go e.call ≡ false
  pub declared : is_declared cards e.sub ≡ true
  pub second : has_second cards e.call ≡ true

-- of the setup: an event that may not wait, or a feed of a declared substream
abbrev pub IsSetupLine : ℕ → Line → Type 0
IsSetupLine cards (Event e bytes) = IsPlanned cards e bytes × (waits e.call ≡ false)
IsSetupLine cards (Feed s name) = is_declared cards s ≡ true
IsSetupLine cards line = ⊥

-- of the client of this number: a call of its own
abbrev pub IsClientLine : ℕ → ℕ → Line → Type 0
IsClientLine cards c (Event e bytes) = IsPlanned cards e bytes × (is_client c e.client ≡ true)
IsClientLine cards c line = ⊥

-- beats of a declared substream
abbrev pub IsBeatLine : ℕ → Line → Type 0
IsBeatLine cards (Beat s frames count) = (is_declared cards s ≡ true) × IsNumber frames × IsNumber count
IsBeatLine cards line = ⊥

-- a file for what a declared substream took
abbrev pub IsSaveLine : ℕ → Line → Type 0
IsSaveLine cards (Save s name) = is_declared cards s ≡ true
IsSaveLine cards line = ⊥

-- no substream has two `beat` lines
abbrev pub IsOneEach : List Line → Type 0
IsOneEach [] = ⊤
IsOneEach (Beat s frames count ∷ lines) = (has_beat s lines ≡ false) × IsOneEach lines
IsOneEach (line ∷ lines) = IsOneEach lines

-- how many beats these lines plan
abbrev pub sum_of : List Line → ℕ
sum_of [] = 0
sum_of (Beat s frames count ∷ lines) = count + sum_of lines
sum_of (line ∷ lines) = sum_of lines

-- A plan that can be run: each line of each list has its place there, and every substream that it names has a card.
pub record IsSound (plan : Plan) : Type 0 where
  pub long : 15 ≤ plan.long_max
  pub longest : plan.long_max < 2 ^ 36
  pub some_card : 1 ≤ length plan.cards.items
  pub cards : length plan.cards.items ≤ 16
  pub setup : AllByRecursion (IsSetupLine (length plan.cards.items)) plan.setup.items
  pub clients : length plan.clients.items ≡ 16
  pub calls : (c : ℕ) (none : Vec Line Global) → c < 16 → AllByRecursion (IsClientLine (length plan.cards.items) c) (slice_index_or plan.clients.items c none).items
  pub beats : AllByRecursion (IsBeatLine (length plan.cards.items)) plan.beats.items
  pub one_each : IsOneEach plan.beats.items
  pub few : sum_of plan.beats.items ≤ beat_limit
  pub saves : AllByRecursion (IsSaveLine (length plan.cards.items)) plan.saves.items
