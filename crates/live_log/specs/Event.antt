-- An event of a log and what it came to. Its bytes are those that its one step moved. This project's own.
use Rattle.std.specs.Prelude.{ℕ, Bool, true, false, List, [], ◌∷◌, ◌++◌, codes, if◌then◌else◌}
use Rattle.std.specs.declared.option.Option.TheVariants.{Some, None}
use Rattle.pcm_base.specs.declared.call.Call.{Call}
use Rattle.pcm_base.specs.declared.call.Call.TheVariants as call
use Rattle.pcm_base.specs.declared.call.Event.{Event}
use Rattle.pcm_base.specs.declared.reply.Reply.{Reply}
use Rattle.pcm_base.specs.declared.reply.Reply.TheVariants as reply
use Rattle.pcm_base.specs.declared.state.Dir.{Dir}
use Rattle.pcm_base.specs.declared.state.Dir.TheVariants.{Playback, Capture}
use Rattle.pcm_line.specs.declared.line.Line.TheVariants as line
use Rattle.pcm_line.specs.Spelling.{spelling}
use Rattle.pcm_text.specs.Hex.{hex_text}
use Rattle.pcm_text.specs.Told.{answer_text}

-- The piece that a log puts behind the script's line: what a Go has moved, if anything, and what a Read has read that falls asleep.
abbrev pub step_piece : Call → Reply → List ℕ → List ℕ
step_piece call.Go r [] = []
step_piece call.Go r (b ∷ bytes) = codes " " ++ hex_text (b ∷ bytes)
step_piece (call.Read layout mode frames) reply.Asleep bytes = codes " " ++ hex_text bytes
step_piece c r bytes = []

-- the event as its script line, with the bytes of the step
abbrev pub event_text : Event → Reply → List ℕ → List ℕ
event_text e r bytes = spelling (line.Event e bytes) ++ step_piece e.call r bytes

-- Whether a count of frames is answered with their bytes: where a client reads them, and where a playback card takes them. What goes on on a capture substream is a Read, and on a playback one a Write.
abbrev pub shows_bytes : Dir → Call → Bool
shows_bytes dir (call.Read layout mode frames) = true
shows_bytes dir (call.Load offset frames) = true
shows_bytes Playback (call.MoveBy frames) = true
shows_bytes Capture call.Go = true
shows_bytes dir c = false

-- the answer, as a transcript has it
abbrev pub answer_shown : Dir → Call → Reply → List ℕ → List ℕ
answer_shown dir c r bytes = answer_text r (if shows_bytes dir c then Some bytes else None)
