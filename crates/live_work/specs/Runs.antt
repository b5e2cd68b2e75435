-- The calls of a client's worker. This project's own.
use Rattle.std.specs.Prelude.{◌≡◌, ⊤, ℕ, ◌*◌, List, [], ◌∷◌, ◌++◌, length, replicate, take}
use Rattle.pcm_base.specs.declared.call.Call.{Call as CoreCall}
use Rattle.pcm_base.specs.declared.call.Call.TheVariants as call
use Rattle.pcm_base.specs.declared.call.Event.{Event as CoreEvent}
use Rattle.pcm_base.specs.declared.config.CardModel.{CardModel}
use Rattle.pcm_base.specs.declared.state.Dir.{Dir}
use Rattle.pcm_line.specs.declared.line.Line.{Line}
use Rattle.pcm_line.specs.declared.line.Line.TheVariants.{Event}
use Rattle.room_parts.specs.Passes.{PassView}
use Rattle.live_work.specs.Called.{Call, HasCalled}

-- what a planned call is handed: the bytes of its line, or zeros, 32 for each frame that it reads
abbrev pub io_of : CoreCall → List ℕ → List ℕ
io_of (call.Read layout mode frames) bytes = replicate (32 * frames) 0
io_of (call.Load offset frames) bytes = replicate (32 * frames) 0
io_of _ bytes = bytes

-- the call that carries on this one
abbrev pub go_of : CoreEvent → CoreEvent
go_of e = record e { call = call.Go }

-- what carries on a call that was handed these bytes is handed the same, or where it reads as many
abbrev pub IsHandedAgain : CoreCall → List ℕ → List ℕ → Type 0
IsHandedAgain (call.Read layout mode frames) io now = length now ≡ length io
IsHandedAgain (call.Load offset frames) io now = length now ≡ length io
IsHandedAgain _ io now = now ≡ io

-- these calls carry on that of the event, which was handed these bytes
abbrev pub AreGosOf : CoreEvent → List ℕ → List Call → Type 0
AreGosOf e io [] = ⊤
AreGosOf e io (c ∷ gos) = (c.event ≡ go_of e) × IsHandedAgain e.call io c.io × AreGosOf e io gos

-- the calls of an event: its own, handed these bytes, and those that carry it on
abbrev pub AreCallsOfEvent : CoreEvent → List ℕ → List Call → Type 0
AreCallsOfEvent e io calls = (gos : List Call) × (calls ≡ record { event = e; io = io } ∷ gos) × AreGosOf e io gos

-- the calls of a line
abbrev pub AreCallsOfLine : Line → List Call → Type 0
AreCallsOfLine (Event e bytes) calls = AreCallsOfEvent e (io_of e.call bytes) calls
AreCallsOfLine line calls = calls ≡ []

-- These are the calls of the lines in order, each followed by those that carry it on.
abbrev pub AreCallsOf : List Line → List Call → Type 0
AreCallsOf [] calls = calls ≡ []
AreCallsOf (line ∷ lines) calls = (own : List Call) × (others : List Call) × (calls ≡ own ++ others) × AreCallsOfLine line own × AreCallsOf lines others

-- the pass has made the calls of these lines
abbrev pub HasRun : List (CardModel × Dir) → ℕ → List Line → PassView → PassView → Type 0
HasRun cards long_max lines p q = (calls : List Call) × AreCallsOf lines calls × HasCalled cards long_max calls p q

-- those of so many of the lines, from the first on
abbrev pub HasRunFirst : List (CardModel × Dir) → ℕ → List Line → PassView → PassView → Type 0
HasRunFirst cards long_max lines p q = (count : ℕ) × HasRun cards long_max (take count lines) p q

-- the calls of one line, and no other
abbrev pub HasRunLine : List (CardModel × Dir) → ℕ → Line → PassView → PassView → Type 0
HasRunLine cards long_max line p q = (calls : List Call) × AreCallsOfLine line calls × HasCalled cards long_max calls p q

-- calls that carry on that of the event, which was handed these bytes, and no other
abbrev pub HasCarriedOn : List (CardModel × Dir) → ℕ → CoreEvent → List ℕ → PassView → PassView → Type 0
HasCarriedOn cards long_max e io p q = (gos : List Call) × AreGosOf e io gos × HasCalled cards long_max gos p q
