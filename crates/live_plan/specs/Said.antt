-- The lines of a plan so far, one behind another, and what they come to. This project's own.
use Rattle.std.specs.Prelude.{ℕ, ◌+◌, ◌==◌, ◌&&◌, Bool, true, false, List, [], ◌∷◌, ◌++◌}
use Rattle.std.specs.List.{list_any}
use Rattle.std.specs.declared.option.Option.{Option}
use Rattle.std.specs.declared.option.Option.TheVariants.{Some, None}
use Rattle.pcm_base.specs.declared.ids.ClientId.{ClientId}
use Rattle.pcm_base.specs.declared.ids.SubId.{SubId}
use Rattle.pcm_base.specs.declared.config.Model.{Model}
use Rattle.pcm_base.specs.declared.state.Dir.{Dir}
use Rattle.pcm_line.specs.declared.line.Line.{Line}
use Rattle.pcm_line.specs.declared.line.Line.TheVariants.{LongMax, Card, Event, Feed, Save, Beat, Threads, Join}
use Rattle.live_plan.specs.declared.part.Part.{Part}
use Rattle.live_plan.specs.declared.part.Part.TheVariants.{Setup, Workers, End}

-- no line, or some lines and one behind them
pub data Said : Type 0 where
  Nothing : Said
  Then : Said → Line → Said

-- how many lines there are
abbrev pub count_of : Said → ℕ
count_of Nothing = 0
count_of (Then said line) = count_of said + 1

-- the part in which the line behind them stands
abbrev pub part_of : Said → Part
part_of Nothing = Setup
part_of (Then said Threads) = Workers
part_of (Then said Join) = End
part_of (Then said line) = part_of said

abbrev pub is_setup : Part → Bool
is_setup Setup = true
is_setup _ = false

abbrev pub is_workers : Part → Bool
is_workers Workers = true
is_workers _ = false

abbrev pub is_end : Part → Bool
is_end End = true
is_end _ = false

-- LONG_MAX of the session: the number of its `long` line, or that of a machine of 32 bits
abbrev pub long_max_of : Said → ℕ
long_max_of Nothing = 2147483647
long_max_of (Then said (LongMax n)) = n
long_max_of (Then said line) = long_max_of said

-- the cards, that of s0 first
abbrev pub cards_of : Said → List (Model × Dir)
cards_of Nothing = []
cards_of (Then said (Card s model dir)) = cards_of said ++ (model, dir) ∷ []
cards_of (Then said line) = cards_of said

-- how many substreams are declared: s0 and so on
abbrev pub card_count : Said → ℕ
card_count Nothing = 0
card_count (Then said (Card s model dir)) = card_count said + 1
card_count (Then said line) = card_count said

abbrev pub only_if : Bool → Line → List Line
only_if true line = line ∷ []
only_if false line = []

-- the client calls, the card events and the feeds of the setup
abbrev pub setup_of : Said → List Line
setup_of Nothing = []
setup_of (Then said (Event e bytes)) = setup_of said ++ only_if (is_setup (part_of said)) (Event e bytes)
setup_of (Then said (Feed s name)) = setup_of said ++ Feed s name ∷ []
setup_of (Then said line) = setup_of said

abbrev pub is_client : ℕ → Option ClientId → Bool
is_client c None = false
is_client c (Some client) = client.0 == c

-- the calls of the client of this number behind `threads`
abbrev pub calls_of : ℕ → Said → List Line
calls_of c Nothing = []
calls_of c (Then said (Event e bytes)) = calls_of c said ++ only_if (is_workers (part_of said) && is_client c e.client) (Event e bytes)
calls_of c (Then said line) = calls_of c said

abbrev pub beats_of : Said → List Line
beats_of Nothing = []
beats_of (Then said (Beat s frames count)) = beats_of said ++ Beat s frames count ∷ []
beats_of (Then said line) = beats_of said

-- how many beats there are over all
abbrev pub beat_sum : Said → ℕ
beat_sum Nothing = 0
beat_sum (Then said (Beat s frames count)) = beat_sum said + count
beat_sum (Then said line) = beat_sum said

abbrev pub saves_of : Said → List Line
saves_of Nothing = []
saves_of (Then said (Save s name)) = saves_of said ++ Save s name ∷ []
saves_of (Then said line) = saves_of said

-- a `beat` line of this substream
abbrev pub is_beat_of : SubId → Line → Bool
is_beat_of s (Beat other frames count) = other.0 == s.0
is_beat_of s line = false

abbrev pub has_beat : SubId → List Line → Bool
has_beat s lines = list_any (is_beat_of s) lines
