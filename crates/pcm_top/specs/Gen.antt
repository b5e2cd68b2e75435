-- What `gen` writes: what the lines of the generated script came to. This project's own.
use Rattle.std.specs.Prelude.{◌≡◌, ◌≤◌, ◌<◌, ◌+◌, ◌*◌, ◌^◌, ℕ, Bool, true, false, List, [], ◌∷◌, ◌++◌, codes, count_ones, decimal, if◌then◌else◌}
use Rattle.std.specs.Io.KnownBytes.{Appends}
use Rattle.std.specs.List.{AllByRecursion}
use Rattle.std.specs.declared.option.Option.{Option}
use Rattle.std.specs.declared.option.Option.TheVariants.{None}
use Rattle.pcm_base.specs.declared.call.Call.{Call}
use Rattle.pcm_base.specs.declared.call.Call.TheVariants.{Write}
use Rattle.pcm_base.specs.declared.reply.Reply.{Reply}
use Rattle.pcm_base.specs.declared.reply.Reply.TheVariants as reply
use Rattle.pcm_base.specs.declared.reply.Told.{Told as Shown}
use Rattle.pcm_base.specs.model.World.{World, Told, declare, empty, set_long, stays, step}
use Rattle.pcm_line.specs.declared.line.Line.{Line}
use Rattle.pcm_line.specs.declared.line.Line.TheVariants.{LongMax, Card, Event}
use Rattle.pcm_line.specs.Grammar.{IsLine}
use Rattle.card_emul.specs.Limits.{limits_of}
use Rattle.pcm_gen.specs.Script.{script}
use Rattle.pcm_text.specs.declared.status.Status.{Status}
use Rattle.pcm_text.specs.declared.status.Status.TheVariants as status
use Rattle.pcm_text.specs.declared.status.Which.TheVariants as which
use Rattle.pcm_world.specs.Shown.{IsWorld, shown}
use Rattle.pcm_world.specs.declared.world.World.{World as CodeWorld}
use Rattle.pcm_top.specs.declared.generated.Totals.{Totals}
use Rattle.pcm_top.specs.Lines.{lines_of}
use Rattle.pcm_top.specs.Output.{IsFront}

-- the greatest number of a generated script
abbrev pub most_rounds : ℕ
most_rounds = 1000

-- before the first line
abbrev pub no_totals : Totals
no_totals = record { lines = 0; frames = 0; moved = 0; errors = 0; wakes = 0 }

abbrev pub is_write_call : Call → Bool
is_write_call (Write layout mode) = true
is_write_call _ = false

-- the line is a write
abbrev pub is_write : Line → Bool
is_write (Event e bytes) = is_write_call e.call
is_write _ = false

abbrev pub frames_of : Reply → ℕ
frames_of (reply.Frames n) = n
frames_of _ = 0

abbrev pub moved_of : Reply → ℕ
moved_of (reply.Moved n) = n
moved_of _ = 0

abbrev pub errors_of : Reply → ℕ
errors_of (reply.Err e) = 1
errors_of _ = 0

-- The totals with this line and its answer: the frames of a write, those that a card moved, an error, and the clients that the answer shows as marked awake.
abbrev pub counted : Line → Shown → Totals → Totals
counted line told sums = record {
  lines = sums.lines + 1;
  frames = sums.frames + (if is_write line then frames_of told.reply else 0);
  moved = sums.moved + moved_of told.reply;
  errors = sums.errors + errors_of told.reply;
  wakes = sums.wakes + count_ones told.woken;
}

-- a line of a generated script declares a card or makes an event, or sets LONG_MAX
abbrev pub is_generated : Line → Bool
is_generated (LongMax n) = true
is_generated (Card k model dir) = true
is_generated (Event e bytes) = true
is_generated _ = false

-- the answer to such a line
abbrev pub answer_to : Line → World → Told
answer_to (LongMax n) w = set_long n w
answer_to (Card k model dir) w = declare k (limits_of model) dir w
answer_to (Event e bytes) w = step w e bytes
answer_to _ w = stays reply.Ok None w

-- the lines, executed one after another from this world, lead from the one totals to the other
abbrev pub Totalled : List (List ℕ) → World → Totals → Totals → Type 0
Totalled [] w sums all = all ≡ sums
Totalled (bytes ∷ lines) w sums all =
    (line : Line) × IsLine bytes line × (is_generated line ≡ true) × Totalled lines (answer_to line w).world (counted line (shown (answer_to line w)) sums) all

-- `lines L frames F moved M errors E wakes W`
abbrev pub totals_line : Totals → List ℕ
totals_line t =
    codes "lines " ++ decimal t.lines ++ codes " frames " ++ decimal t.frames ++ codes " moved " ++ decimal t.moved
    ++ codes " errors " ++ decimal t.errors ++ codes " wakes " ++ decimal t.wakes ++ 10 ∷ []

-- what the script of this number comes to
pub record IsTotalOf (n : ℕ) (all : Totals) : Type 0 where
  pub totalled : Totalled (lines_of (script n)) empty no_totals all

-- The answer, with what it says of what was written.
abbrev pub GenEnds : ℕ → Option (List ℕ) → Option (List ℕ) → Status → Type 0
GenEnds n before now status.Ok = (n ≤ most_rounds) × (all : Totals) × IsTotalOf n all × Appends before now (totals_line all)
GenEnds n before now (status.Limit w value) = (most_rounds < n) × (w ≡ which.GenNumber) × (value ≡ n) × Appends before now []
GenEnds n before now status.Memory = (n ≤ most_rounds) × Appends before now []
GenEnds n before now status.WriteFault = (n ≤ most_rounds) × (all : Totals) × IsTotalOf n all × (text : List ℕ) × Appends before now text × IsFront text (totals_line all)
GenEnds n before now _ = ⊥

-- ---- as the code keeps them

-- the bytes are a line as generated scripts have them
pub record IsGeneratedLine (bytes : List ℕ) : Type 0 where
  pub line : Line
  pub says : IsLine bytes line
  pub kind : is_generated line ≡ true

abbrev pub AreGenerated : List (List ℕ) → Type 0
AreGenerated lines = AllByRecursion IsGeneratedLine lines

-- a line was executed in this world, and counted
pub record IsExecuted (bytes : List ℕ) (w : World) (c : CodeWorld) (sums now : Totals) : Type 0 where
  pub line : Line
  pub says : IsLine bytes line
  pub kind : is_generated line ≡ true
  pub world : IsWorld c (answer_to line w).world
  pub totals : now ≡ counted line (shown (answer_to line w)) sums

-- No line adds as much as 2 ^ 64.
pub record AreSums (t : Totals) : Type 0 where
  pub frames : t.frames ≤ t.lines * 2 ^ 64
  pub moved : t.moved ≤ t.lines * 2 ^ 64
  pub errors : t.errors ≤ t.lines * 2 ^ 64
  pub wakes : t.wakes ≤ t.lines * 2 ^ 64
