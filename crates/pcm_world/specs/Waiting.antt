-- Who waits on a stream after a step of its group, and what a call in progress tells.
use Rattle.std.specs.Prelude.{◌≡◌, ◌≢◌, ◌+◌, ◌*◌, ◌/◌, ◌%◌, ◌<◌, ◌≤◌, ℕ, true, false, not, ◌&&◌, nat_eq, List, length}
use Rattle.std.specs.declared.option.Option.{Option}
use Rattle.std.specs.declared.option.Option.TheVariants.{Some, None}
use Rattle.pcm_base.specs.declared.call.Call.{Call}
use Rattle.pcm_base.specs.declared.call.Call.TheVariants as call
use Rattle.pcm_base.specs.declared.ids.ClientId.{ClientId}
use Rattle.pcm_base.specs.declared.reply.Reply.{Reply}
use Rattle.pcm_base.specs.declared.reply.Reply.TheVariants as reply
use Rattle.pcm_base.specs.declared.sleeper.Task.{Task}
use Rattle.pcm_base.specs.declared.sleeper.Task.TheVariants as task
use Rattle.pcm_base.specs.declared.sleeper.Xfer.{Xfer}
use Rattle.pcm_base.specs.model.Events.{is_busy, opens, waiting_of}
use Rattle.pcm_base.specs.model.Program.{Answer}
use Rattle.pcm_base.specs.model.Stream.{Stream, is_bare}
use Rattle.pcm_base.specs.model.Words.{is_closed}
use Rattle.pcm_base.specs.model.World.{is_go}
use Rattle.pcm_laws.specs.Waiting.{HaveDistinctClients}
use Rattle.pcm_stream.specs.Wide.{AreWide, PutsAreWide}

-- the frames of their bytes are the same
pub record IsSameFrames (s t : Stream) : Type 0 where
  pub config : t.setup.config ≡ s.setup.config
  pub frame_bytes : t.setup.frame_bytes ≡ s.setup.frame_bytes

-- what a call may wait for, as it begins or goes on
abbrev pub task_begun : Call → ClientId → List ℕ → Stream → Option Task
task_begun (call.Write w m) c io s = Some (task.Transfer (record { writing = true; layout = w; mode = m; rest = length io / s.setup.frame_bytes; moved = 0 }) 0)
task_begun (call.Read w m n) c io s = Some (task.Transfer (record { writing = false; layout = w; mode = m; rest = n; moved = 0 }) 0)
task_begun (call.Drain m) c io s = Some task.Drain
task_begun call.Go c io s = waiting_of c s.sleepers
task_begun _ c io s = None

-- the transfer y, n frames further
pub record IsFurther (y : Xfer) (n : ℕ) (x : Xfer) : Type 0 where
  pub writing : x.writing ≡ y.writing
  pub layout : x.layout ≡ y.layout
  pub moved : x.moved ≡ y.moved + n
  pub all : x.moved + x.rest ≡ y.moved + y.rest

abbrev pub IsContinued : Option Task → ℕ → Task → Type 0
IsContinued (Some (task.Transfer y v)) n (task.Transfer x w) = IsFurther y n x
IsContinued (Some task.Drain) n task.Drain = Unit {0}
IsContinued _ n t = ⊥

-- The caller waits exactly where the answer is Asleep, for what its call has come to; n frames were moved.
abbrev pub IsLeftWaiting : Reply → Option Task → ℕ → Option Task → Type 0
IsLeftWaiting reply.Asleep begun n (Some t) = IsContinued begun n t
IsLeftWaiting reply.Asleep begun n None = ⊥
IsLeftWaiting _ begun n o = o ≡ None

-- what the answer of the transfer y tells
pub record IsTransferTold (y : Xfer) (s : Stream) (a : Answer) : Type 0 where
  pub count : (n : ℕ) → a.reply ≡ reply.Frames n → n ≡ y.moved + length a.frames
  pub first : length a.frames ≢ 0 → a.first ≡ y.moved
  pub most : length a.frames ≤ y.rest
  pub wide : y.writing ≡ false → AreWide s.setup.frame_bytes a.frames

abbrev pub IsTold : Option Task → Stream → Answer → Type 0
IsTold (Some (task.Transfer y v)) s a = IsTransferTold y s a
IsTold _ s a = Unit {0}

-- the bytes of a write that sleeps are whole frames
abbrev pub AreWritten : Call → List ℕ → Stream → Type 0
AreWritten (call.Write w m) io s = length io % s.setup.frame_bytes ≡ 0
AreWritten _ io s = Unit {0}

-- a stream before and after its part in a step of client c
pub record IsStepped (e : Call) (c : ClientId) (io : List ℕ) (s : Stream) (a : Answer) (t : Stream) : Type 0 where
  pub others : (d : ClientId) → nat_eq d.0 c.0 ≡ false → waiting_of d t.sleepers ≡ waiting_of d s.sleepers
  pub caller : IsLeftWaiting a.reply (task_begun e c io s) (length a.frames) (waiting_of c t.sleepers)
  pub busy : is_busy s ≡ true → IsSameFrames s t
  pub asleep : a.reply ≡ reply.Asleep → IsSameFrames s t
  pub told : IsTold (task_begun e c io s) s a
  pub written : a.reply ≡ reply.Asleep → AreWritten e io s

-- the bytes of a call that goes on are its own
abbrev pub IsOwn : Option Task → List ℕ → Stream → Type 0
IsOwn None io s = ⊥
IsOwn (Some (task.Transfer x v)) io s = (length io ≡ (x.moved + x.rest) * s.setup.frame_bytes) × (0 < s.setup.frame_bytes) × (is_bare s ≡ false)
IsOwn (Some task.Drain) io s = length io ≡ 0

abbrev pub HasOwnBytes : Call → ClientId → List ℕ → Stream → Type 0
HasOwnBytes call.Go c io s = IsOwn (waiting_of c s.sleepers) io s
HasOwnBytes _ c io s = Unit {0}

-- A client may make this call on the stream, which is open or is opened: it has no call in progress there but the one that goes on, with its own bytes.
pub record IsEntered (e : Call) (c : ClientId) (io : List ℕ) (s : Stream) : Type 0 where
  pub opened : (is_closed s.state && not (opens e)) ≡ false
  pub distinct : HaveDistinctClients s.sleepers
  pub free : is_go e ≡ false → waiting_of c s.sleepers ≡ None
  pub own : HasOwnBytes e c io s
  pub puts : is_bare s ≡ false → PutsAreWide s.setup.frame_bytes s.puts
