-- What a plan is, and which fault other bytes have. This project's own.
use Rattle.std.specs.Prelude.{◌≡◌, ◌≢◌, ◌⊎◌, ◌≤◌, ◌<◌, ⊤, ℕ, ◌+◌, ◌-◌, ◌^◌, min, true, false, List, [], ◌∷◌, ◌++◌, length, slice_index_or, Vec, Result, Ok, Err}
use Rattle.std.specs.Global.{Global}
use Rattle.std.specs.declared.option.Option.TheVariants.{Some, None}
use Rattle.pcm_line.specs.declared.error.LineError.{LineError}
use Rattle.pcm_line.specs.declared.error.LineError.TheVariants.{Short}
use Rattle.pcm_line.specs.declared.line.Line.{Line}
use Rattle.pcm_line.specs.Grammar.{IsLine, LineFault}
use Rattle.pcm_text.specs.declared.status.Which.{Which}
use Rattle.pcm_text.specs.declared.status.Which.TheVariants.{PlanBytes, PlanLines, Beats}
use Rattle.live_plan.specs.declared.error.PlanError.{PlanError}
use Rattle.live_plan.specs.declared.error.PlanError.TheVariants as error
use Rattle.live_plan.specs.declared.part.Part.TheVariants.{End}
use Rattle.live_plan.specs.declared.plan.Plan.{Plan}
use Rattle.live_plan.specs.Lines.{line_limit, byte_limit, beat_limit, lines_of, plan_lines, is_over, is_last}
use Rattle.live_plan.specs.Rules.{fault_of}
use Rattle.live_plan.specs.Said.{Said, Nothing, Then, count_of, part_of, long_max_of, cards_of, setup_of, calls_of, beats_of, beat_sum, saves_of}

-- behind some lines stands this one, which says this and may stand there
pub record IsBehind (Before : List (List ℕ) → Type 0) (lines : List (List ℕ)) (said : Said) (line : Line) : Type 0 where
  pub front : List (List ℕ)
  pub bytes : List ℕ
  pub cut : lines ≡ front ++ bytes ∷ []
  pub before : Before front
  pub says : IsLine bytes line
  pub stands : fault_of said line bytes ≡ None

-- These lines are a sound beginning of a plan: no line is one, and so is a sound beginning with one line more that may stand behind it.
abbrev pub Begins : List (List ℕ) → Said → Type 0
Begins lines Nothing = lines ≡ []
Begins lines (Then said line) = IsBehind (λ front. Begins front said) lines said line

-- the plan has what these lines say: LONG_MAX, the cards, and the lines of each of its lists in their order
pub record HasAll (plan : Plan) (said : Said) : Type 0 where
  pub long : plan.long_max ≡ long_max_of said
  pub cards : plan.cards.items ≡ cards_of said
  pub setup : plan.setup.items ≡ setup_of said
  pub clients : length plan.clients.items ≡ 16
  pub calls : (c : ℕ) (none : Vec Line Global) → c < 16 → (slice_index_or plan.clients.items c none).items ≡ calls_of c said
  pub beats : plan.beats.items ≡ beats_of said
  pub saves : plan.saves.items ≡ saves_of said

-- Of a plan within the limits of lines and bytes these are all lines, each of which may stand behind those before it.
pub record IsSaid (bytes : List ℕ) (said : Said) : Type 0 where
  pub begins : Begins (lines_of bytes) said
  pub lines : length (lines_of bytes) ≤ line_limit
  pub few : length bytes ≤ byte_limit

-- They have all three parts, and not too many beats.
pub record IsWhole (bytes : List ℕ) (said : Said) : Type 0 where
  pub lines : IsSaid bytes said
  pub parts : part_of said ≡ End
  pub beats : beat_sum said ≤ beat_limit

-- The bytes are those of a plan, and it is this one.
pub record IsPlan (bytes : List ℕ) (plan : Plan) : Type 0 where
  pub said : Said
  pub whole : IsWhole bytes said
  pub has : HasAll plan said

-- Behind a sound beginning stands this line, and others behind it.
pub record IsReached (bytes : List ℕ) (said : Said) (here : List ℕ) (others : List (List ℕ)) : Type 0 where
  pub front : List (List ℕ)
  pub cut : plan_lines bytes ≡ front ++ here ∷ others
  pub begins : Begins front said

-- what is wrong with a line behind these: it is no line, or one that may not stand there
abbrev pub HasFault : Said → List ℕ → LineError → Type 0
HasFault said here fault = LineFault here fault ⊎ ((line : Line) × IsLine here line × (fault_of said line here ≡ Some fault))

-- the line of this number, within the limits, is the first at fault
pub record IsFaulty (bytes : List ℕ) (number : ℕ) (fault : LineError) : Type 0 where
  pub said : Said
  pub here : List ℕ
  pub others : List (List ℕ)
  pub reached : IsReached bytes said here others
  pub lines : count_of said < line_limit
  pub few : is_last (is_over bytes) others ≡ false
  pub wrong : HasFault said here fault
  pub at : number ≡ count_of said + 1

-- no line is at fault, but some part is lacking: the line behind the last one is too short
pub record IsShort (bytes : List ℕ) (number : ℕ) (fault : LineError) : Type 0 where
  pub said : Said
  pub lines : IsSaid bytes said
  pub lacks : part_of said ≢ End
  pub short : fault ≡ Short
  pub at : number ≡ count_of said + 1

-- The first fault of the bytes is in the line of this number, and is this.
abbrev pub IsBadLine : List ℕ → ℕ → LineError → Type 0
IsBadLine bytes number fault = IsFaulty bytes number fault ⊎ IsShort bytes number fault

-- the line past the limit is reached
pub record HasManyLines (bytes : List ℕ) (value : ℕ) : Type 0 where
  pub said : Said
  pub here : List ℕ
  pub others : List (List ℕ)
  pub reached : IsReached bytes said here others
  pub full : count_of said ≡ line_limit
  pub above : value ≡ line_limit + 1

-- the line with the byte past the limit is reached, within the limit of lines
pub record HasManyBytes (bytes : List ℕ) (value : ℕ) : Type 0 where
  pub said : Said
  pub here : List ℕ
  pub reached : IsReached bytes said here []
  pub lines : count_of said < line_limit
  pub over : is_over bytes ≡ true
  pub above : value ≡ byte_limit + 1

-- all lines may stand, in all three parts, and there are too many beats over all
pub record HasManyBeats (bytes : List ℕ) (value : ℕ) : Type 0 where
  pub said : Said
  pub lines : IsSaid bytes said
  pub parts : part_of said ≡ End
  pub many : beat_limit < beat_sum said
  pub above : value ≡ min (beat_sum said) (2 ^ 64 - 1)

-- The bytes reach this limit before any fault, and the quantity has this value.
abbrev pub IsOver : List ℕ → Which → ℕ → Type 0
IsOver bytes PlanLines value = HasManyLines bytes value
IsOver bytes PlanBytes value = HasManyBytes bytes value
IsOver bytes Beats value = HasManyBeats bytes value
IsOver bytes _ value = ⊥

-- Why these bytes are no plan. A failed read and want of memory say nothing of the bytes.
abbrev pub IsRefused : List ℕ → PlanError → Type 0
IsRefused bytes (error.BadLine number fault) = IsBadLine bytes number fault
IsRefused bytes (error.Limit which value) = IsOver bytes which value
IsRefused bytes error.Read = ⊤
IsRefused bytes error.Memory = ⊤

-- what bytes come to as a plan: all its lines, the first fault, or a limit with the value above it
pub data Answer : Type 0 where
  Whole : Said → Answer
  Bad : ℕ → LineError → Answer
  Over : Which → ℕ → Answer

abbrev pub ComesTo : List ℕ → Answer → Type 0
ComesTo bytes (Whole said) = IsWhole bytes said
ComesTo bytes (Bad number fault) = IsBadLine bytes number fault
ComesTo bytes (Over which value) = IsOver bytes which value

-- The call gives this answer. A failed read and want of memory may come in its place.
abbrev pub Gives : Result Plan PlanError → Answer → Type 0
Gives (Ok plan) (Whole said) = HasAll plan said
Gives (Err (error.BadLine number fault)) (Bad n f) = (number ≡ n) × (fault ≡ f)
Gives (Err (error.Limit which value)) (Over w v) = (which ≡ w) × (value ≡ v)
Gives (Err error.Read) answer = ⊤
Gives (Err error.Memory) answer = ⊤
Gives _ answer = ⊥
