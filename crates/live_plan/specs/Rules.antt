-- Which line may stand behind those before it, and what is wrong with one that may not. This project's own.
use Rattle.std.specs.Prelude.{ℕ, ◌==◌, ◌&&◌, Bool, true, false, not, List, length, nat_lt, nat_le, ◌^◌, if◌then◌else◌, is_some}
use Rattle.std.specs.declared.option.Option.{Option}
use Rattle.std.specs.declared.option.Option.TheVariants.{Some, None}
use Rattle.pcm_base.specs.declared.ids.ClientId.{ClientId}
use Rattle.pcm_base.specs.declared.ids.SubId.{SubId}
use Rattle.pcm_base.specs.declared.call.Call.{Call}
use Rattle.pcm_base.specs.declared.call.Call.TheVariants.{Drain, Write, Read, Link, Go}
use Rattle.pcm_base.specs.declared.call.Mode.TheVariants.{Block}
use Rattle.pcm_base.specs.declared.call.Event.{Event as CoreEvent}
use Rattle.pcm_line.specs.declared.error.LineError.{LineError}
use Rattle.pcm_line.specs.declared.error.LineError.TheVariants.{Word, Number}
use Rattle.pcm_line.specs.declared.line.Line.{Line}
use Rattle.pcm_line.specs.declared.line.Line.TheVariants.{LongMax, Card, Event, Feed, Save, Beat, Threads, Join}
use Rattle.live_plan.specs.declared.part.Part.{Part}
use Rattle.live_plan.specs.declared.part.Part.TheVariants.{Setup, Workers, End}
use Rattle.live_plan.specs.Lines.{piece_at}
use Rattle.live_plan.specs.Said.{Said, count_of, part_of, card_count, setup_of, beats_of, has_beat, is_setup, is_workers, is_end}

-- this fault, unless so much holds; then what else is wrong
abbrev pub unless : Bool → LineError → Option LineError → Option LineError
unless holds fault next = if holds then next else Some fault

-- the word of a line that has no place here
abbrev pub out_of_place : LineError
out_of_place = Word 0

-- the piece of this number, the keyword being piece 0
abbrev pub wrong_piece : List ℕ → ℕ → LineError
wrong_piece bytes n = Word (piece_at bytes n)

-- the substreams are declared from s0 on
abbrev pub is_declared : ℕ → SubId → Bool
is_declared cards s = nat_lt s.0 cards

-- a `long` line stands first, and its number is from 15 to 2 ^ 36 - 1
abbrev pub long_fault : ℕ → ℕ → List ℕ → Option LineError
long_fault count n bytes = unless (count == 0) out_of_place (unless (nat_le 15 n && nat_lt n (2 ^ 36)) (Number (piece_at bytes 1)) None)

-- a `card` line stands in the setup before every call, event and feed, and declares the next substream
abbrev pub card_fault : Part → Bool → ℕ → SubId → List ℕ → Option LineError
card_fault part early cards s bytes = unless (is_setup part && early) out_of_place (unless (s.0 == cards) (wrong_piece bytes 1) None)

abbrev pub is_go : Call → Bool
is_go Go = true
is_go _ = false

-- the call may wait
abbrev pub waits : Call → Bool
waits (Drain Block) = true
waits (Write layout Block) = true
waits (Read layout Block frames) = true
waits _ = false

-- the second substream of a link is declared
abbrev pub has_second : ℕ → Call → Bool
has_second cards (Link second) = is_declared cards second
has_second cards _ = true

-- No go is planned; the setup has calls of clients and events of cards, the workers' part calls of clients.
abbrev pub is_made_in : Part → CoreEvent → Bool
is_made_in Setup e = not (is_go e.call)
is_made_in Workers e = not (is_go e.call) && is_some e.client
is_made_in End e = false

-- in the setup no call may wait
abbrev pub is_mode_of : Part → Call → Bool
is_mode_of Setup call = not (waits call)
is_mode_of _ call = true

-- the client of a call stands before its substream
abbrev pub sub_piece : Option ClientId → ℕ
sub_piece None = 1
sub_piece (Some client) = 2

-- the mode of a call and the second substream of a link are piece 3
abbrev pub event_fault : Part → ℕ → CoreEvent → List ℕ → Option LineError
event_fault part cards e bytes =
    unless (is_made_in part e) out_of_place
    (unless (is_declared cards e.sub) (wrong_piece bytes (sub_piece e.client))
    (unless (is_mode_of part e.call && has_second cards e.call) (wrong_piece bytes 3) None))

-- a line in its part, on a declared substream
abbrev pub sub_fault : Bool → ℕ → SubId → List ℕ → Option LineError
sub_fault here cards s bytes = unless here out_of_place (unless (is_declared cards s) (wrong_piece bytes 1) None)

-- a `beat` line stands in the workers' part, and is the only one of its substream
abbrev pub beat_fault : Part → ℕ → List Line → SubId → List ℕ → Option LineError
beat_fault part cards beats s bytes =
    unless (is_workers part) out_of_place (unless (is_declared cards s) (wrong_piece bytes 1) (unless (not (has_beat s beats)) (wrong_piece bytes 1) None))

-- What is wrong with this line, of these bytes, behind those before it: the leftmost fault, or nothing.
abbrev pub fault_of : Said → Line → List ℕ → Option LineError
fault_of said (LongMax n) bytes = long_fault (count_of said) n bytes
fault_of said (Card s model dir) bytes = card_fault (part_of said) (length (setup_of said) == 0) (card_count said) s bytes
fault_of said (Event e data_bytes) bytes = event_fault (part_of said) (card_count said) e bytes
fault_of said (Feed s name) bytes = sub_fault (is_setup (part_of said)) (card_count said) s bytes
fault_of said (Beat s frames count) bytes = beat_fault (part_of said) (card_count said) (beats_of said) s bytes
fault_of said (Save s name) bytes = sub_fault (is_end (part_of said)) (card_count said) s bytes
fault_of said Threads bytes = unless (is_setup (part_of said) && nat_lt 0 (card_count said)) out_of_place None
fault_of said Join bytes = unless (is_workers (part_of said)) out_of_place None
fault_of said line bytes = Some out_of_place
