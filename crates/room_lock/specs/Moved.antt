-- The frames that a step moves between the bytes of a call and its substream, and where they lie in those bytes. This project's own.
use Rattle.std.specs.Prelude.{◌≡◌, ◌≢◌, ℕ, zero, suc, true, false, ◌*◌, ◌/◌, ◌≤◌, List, [], ◌++◌, length, take, drop}
use Rattle.std.specs.declared.option.Option.{Option}
use Rattle.std.specs.declared.option.Option.TheVariants.{Some}
use Rattle.pcm_base.specs.declared.act.Outcome.{Outcome}
use Rattle.pcm_base.specs.declared.call.Call.{Call}
use Rattle.pcm_base.specs.declared.call.Call.TheVariants as call
use Rattle.pcm_base.specs.declared.call.Layout.{Layout}
use Rattle.pcm_base.specs.declared.call.Layout.TheVariants as layout
use Rattle.pcm_base.specs.declared.config.Shape.{Shape}
use Rattle.pcm_base.specs.declared.ids.ClientId.{ClientId}
use Rattle.pcm_base.specs.declared.sleeper.Task.{Task}
use Rattle.pcm_base.specs.declared.sleeper.Task.TheVariants as task
use Rattle.pcm_base.specs.declared.sleeper.Xfer.{Xfer}
use Rattle.pcm_base.specs.model.Events.{waiting_of}
use Rattle.pcm_base.specs.model.Frame.{Frame}
use Rattle.pcm_base.specs.model.Program.{Answer, Program, Ends, Makes}
use Rattle.pcm_base.specs.model.Stream.{Stream}
use Rattle.pcm_base.specs.model.Transfer.{frames_by}
use Rattle.ring_memory.specs.Round.{part}

-- so many bytes from a place on of each of the channels' areas, one after another
abbrev pub parts : ℕ → ℕ → ℕ → ℕ → List ℕ → List ℕ
parts zero area from size bytes = []
parts (suc channels) area from size bytes = part from size bytes ++ parts channels area from size (drop area bytes)

-- n frames from the first on, as they lie in the bytes of a transfer
abbrev pub part_by : Layout → Shape → ℕ → ℕ → List ℕ → List ℕ
part_by layout.Interleaved h first n bytes = part (first * h.frame_bytes) (n * h.frame_bytes) bytes
part_by layout.Planar h first n bytes = parts h.channels (length bytes / h.channels) (first * (h.frame_bytes / h.channels)) (n * (h.frame_bytes / h.channels)) bytes

-- A step of the transfer y: the frames that it moves come behind those moved before, and are no more than rest; a write's are those of its bytes, all of whose frames are these.
pub record IsMovedBy (y : Xfer) (all : List Frame) (a : Answer) : Type 0 where
  pub first : length a.frames ≢ 0 → a.first ≡ y.moved
  pub most : length a.frames ≤ y.rest
  pub frames : y.writing ≡ true → a.frames ≡ take (length a.frames) (drop y.moved all)

-- what the transfer of a waiting client moves; a drain moves nothing
abbrev pub MovesTask : Option Task → List ℕ → Stream → Answer → Type 0
MovesTask (Some (task.Transfer y wanted)) io s a = IsMovedBy y (frames_by y.layout s io) a
MovesTask _ io s a = a.frames ≡ []

-- what a call moves between its bytes and the stream
abbrev pub Moves : Call → ClientId → List ℕ → Stream → Answer → Type 0
Moves (call.Write w m) c io s a = IsMovedBy (record { writing = true; layout = w; mode = m; rest = length io / s.setup.frame_bytes; moved = 0 }) (frames_by w s io) a
Moves (call.Read w m n) c io s a = IsMovedBy (record { writing = false; layout = w; mode = m; rest = n; moved = 0 }) [] a
Moves call.Go c io s a = MovesTask (waiting_of c s.sleepers) io s a
Moves (call.Store o) c io s a = Unit {0}
Moves (call.Load o n) c io s a = Unit {0}
Moves call.Give c io s a = Unit {0}
Moves (call.MoveBy n) c io s a = Unit {0}
Moves _ c io s a = a.frames ≡ []

-- each answer of the program has this property
abbrev pub Ever : (Answer → Type 0) → Program → Type 0
Ever P (Ends a s) = P a
Ever P (Makes a s f) = (o : Outcome) (t : Stream) → Ever P (f o t)
