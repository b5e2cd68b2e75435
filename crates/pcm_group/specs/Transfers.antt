-- The turns of one transfer on one member, up to where its call ends, its group is asked, or it can move no frame (the loop of __snd_pcm_lib_xfer).
use Rattle.std.specs.Prelude.{◌≡◌, ◌≢◌, ◌+◌, ◌*◌, ◌^◌, ◌<◌, ◌≤◌, ◌&&◌, nat_le, ℕ, Bool, true, false, not, IsSome, nat_eq, List, [], ◌++◌, length, drop, slice_get, if◌then◌else◌}
use Rattle.std.specs.Option.{ForSome}
use Rattle.std.specs.declared.option.Option.TheVariants.{Some, None}
use Rattle.pcm_base.specs.Shape.{AreFrames, count_of}
use Rattle.pcm_base.specs.declared.act.Act.TheVariants as act
use Rattle.pcm_base.specs.declared.call.CallKind.{CallKind}
use Rattle.pcm_base.specs.declared.call.CallKind.TheVariants as kind
use Rattle.pcm_base.specs.declared.call.Layout.{Layout}
use Rattle.pcm_base.specs.declared.call.Mode.TheVariants as mode
use Rattle.pcm_base.specs.declared.card.Card.{Ghosts}
use Rattle.pcm_base.specs.declared.ids.ClientId.{ClientId}
use Rattle.pcm_base.specs.declared.ids.SubId.{SubId}
use Rattle.pcm_base.specs.declared.reply.Reply.TheVariants as reply
use Rattle.pcm_base.specs.declared.sleeper.Xfer.{Xfer}
use Rattle.pcm_base.specs.declared.state.Errno.TheVariants as errno
use Rattle.pcm_base.specs.model.Acts.{table}
use Rattle.pcm_base.specs.model.Frame.{Frame}
use Rattle.pcm_base.specs.model.Group.{put_stream, stream_of}
use Rattle.pcm_base.specs.model.Program.{Program, Makes, says, unless, updated_or_epipe}
use Rattle.pcm_base.specs.model.Replay.{bytes_by}
use Rattle.pcm_base.specs.model.Stream.{Stream, Member as ModelMember}
use Rattle.pcm_base.specs.model.Transfer.{after_start, fits, frames_by, misfit, read_on, start_reading, write_on}
use Rattle.pcm_base.specs.model.Words.{is_playback, is_prepared, when}
use Rattle.ring_memory.specs.Round.{over}
use Rattle.pcm_stream.specs.declared.members.Member.{Member}
use Rattle.pcm_stream.specs.declared.substream.Substream.{Substream}
use Rattle.pcm_stream.specs.StandsFor.{StandsFor, shape_in}
use Rattle.xfer_loop.specs.Loop.{IsOnTheWay, after_stuck}
use Rattle.xfer_loop.specs.declared.XferStep.{XferStep}
use Rattle.xfer_loop.specs.declared.XferStep.TheVariants as step
use Rattle.pcm_group.specs.Ended.{IsAt}

-- In these definitions the call was kept as x before this step and is now as y, all are the frames of its bytes, and fs those that this step has moved so far.

-- what rests of the call
abbrev pub going_by : Bool → ClientId → Xfer → Xfer → List Frame → List Frame → Stream → Program
going_by writing c x y fs all s = if writing then write_on c x fs (drop y.moved all) s else read_on c x fs y.rest s

abbrev pub going : ClientId → Xfer → Xfer → List Frame → List Frame → Stream → Program
going c x y fs all s = going_by y.writing c x y fs all s

-- what a turn of this answer leaves to its group: the start that it asks for, or the end of the call
abbrev pub halted : ClientId → Xfer → Xfer → List Frame → List Frame → Stream → XferStep → Program
halted c x y fs all s step.WantsStart = Makes act.Start s (after_start c x fs (drop y.moved all))
halted c x y fs all s p = after_stuck c x y fs s p

-- the call waits
abbrev pub IsWait : XferStep → Type 0
IsWait (step.Wait n) = Unit {0}
IsWait _ = ⊥

-- The stream that the turns leave: its positions and its puts alone are others.
pub record IsTurned (s t : Stream) : Type 0 where
  pub dir : t.dir ≡ s.dir
  pub setup : t.setup ≡ s.setup
  pub state : t.state ≡ s.state
  pub sleepers : t.sleepers ≡ s.sleepers

-- The bytes of a call after these frames were moved, the first of them at this place in the call: a read's stand in the bytes, whose other frames are as before; a write's bytes stay.
abbrev pub bytes_with : Bool → Layout → ℕ → List Frame → Stream → List ℕ → List ℕ
bytes_with true w first fs s io = io
bytes_with false w first fs s io = if nat_eq (length fs) 0 then io else bytes_by w s (over first fs (frames_by w s io))

-- so many frames of the call y were moved
pub record IsMovedInto (y : Xfer) (fs : List Frame) (s : Stream) (io now : List ℕ) : Type 0 where
  pub frames : y.writing ≡ false → frames_by y.layout s now ≡ over y.moved fs (frames_by y.layout s io)
  pub bytes : now ≡ bytes_with y.writing y.layout y.moved fs s io

-- The call, kept as y, has been turned until it is kept as z: what rests of it is what rested before. Its bytes were io and are now others.
pub record IsUnderWay {C : Type 0} {g : Ghosts C} (c : ClientId) (x y z : Xfer) (fs all : List Frame) (s : Stream) (io now : List ℕ) (sub : Substream C g) : Type 0 where
  pub left : Stream
  pub moved : List Frame
  pub stands : StandsFor sub left
  pub turned : IsTurned s left
  pub way : IsOnTheWay x z (fs ++ moved)
  pub layout : z.layout ≡ y.layout
  pub count : z.moved ≡ y.moved + length moved
  pub into : IsMovedInto y moved s io now
  pub goes_on : going c x y fs all s ≡ going c x z (fs ++ moved) all left

-- The same, up to a turn of this answer. A call that waits blocks, and has frames left; one that wants a start is a write that finds the stream PREPARED.
pub record IsHalted {C : Type 0} {g : Ghosts C} (c : ClientId) (x y z : Xfer) (fs all : List Frame) (s : Stream) (io now : List ℕ) (p : XferStep) (sub : Substream C g) : Type 0 where
  pub left : Stream
  pub moved : List Frame
  pub stands : StandsFor sub left
  pub turned : IsTurned s left
  pub way : IsOnTheWay x z (fs ++ moved)
  pub layout : z.layout ≡ y.layout
  pub into : IsMovedInto y moved s io now
  pub goes_on : going c x y fs all s ≡ halted c x z (fs ++ moved) all left p
  pub waits : IsWait p → (z.mode ≡ mode.Block) × (z.rest ≢ 0)
  pub starts : p ≡ step.WantsStart → (z.writing ≡ true) × (is_prepared s.state ≡ true)

-- the same of the member at this place of a group
pub record IsHaltedAt {C : Type 0} {g : Ghosts C} (c : ClientId) (x y z : Xfer) (fs all : List Frame) (place : ℕ) (k : SubId) (tells : List Bool) (xs : List ModelMember) (io now : List ℕ) (p : XferStep) (ms : List (Member C g)) : Type 0 where
  pub sub : Substream C g
  pub halted : IsHalted c x y z fs all (stream_of k xs) io now p sub
  pub at : IsAt ms place k tells (put_stream k halted.left xs)

-- ---- the beginning of a transfer

-- what goes on once the update has found nothing: all are the frames of a write's bytes
abbrev pub entering : Bool → ClientId → Xfer → List Frame → Stream → Program
entering true c x all = write_on c x [] all
entering false c x all = start_reading c x

abbrev pub kind_by : Bool → CallKind
kind_by true = kind.Write
kind_by false = kind.Read

-- a transfer that fits its stream
abbrev pub begun : Bool → ClientId → Xfer → List Frame → Stream → Program
begun writing c x all s = if nat_eq x.rest 0 then says (reply.Frames 0) s else unless (table (kind_by writing) s) s (updated_or_epipe s (entering writing c x all))

-- A transfer in this direction and layout fits the stream, whose frames have so many bytes: only its own bytes can be refused before the table.
pub record IsFit (s : Stream) (writing : Bool) (w : Layout) (n : ℕ) : Type 0 where
  pub refused : (whole : Bool) → misfit s writing w whole ≡ when (not whole) errno.Einval
  pub frame : s.setup.frame_bytes ≡ n
  pub least : 1 ≤ n
  pub most : n ≤ 32
  pub way : writing ≡ is_playback s.dir
  pub layout : fits w s.setup.config ≡ true

-- the bytes are whole frames on this substream, all that have moved and that rest
pub record HasBytes {C : Type 0} {g : Ghosts C} (sub : Substream C g) (x : Xfer) (io : List ℕ) : Type 0 where
  pub shape : IsSome (shape_in sub)
  pub whole : ForSome (shape_in sub) (λ shape. AreFrames shape io)
  pub count : ForSome (shape_in sub) (λ shape. count_of shape io ≡ x.moved + x.rest)

-- The bytes have the call's length, where the table lets it through.
abbrev pub IsLong : Xfer → List ℕ → Stream → Type 0
IsLong x io s = x.rest ≢ 0 → table (kind_by x.writing) s ≡ None → length io ≡ x.rest * s.setup.frame_bytes

-- The bytes of a read have its length, where the rules on its length and layout and the table let it through.
abbrev pub IsReadable : Layout → ℕ → List ℕ → Stream → Type 0
IsReadable w n io s = misfit s false w (nat_le n 1048576) ≡ None → n ≢ 0 → table kind.Read s ≡ None → length io ≡ n * s.setup.frame_bytes

-- a read that starts its group
pub record IsStartingRead (x : Xfer) (s : Stream) : Type 0 where
  pub writing : x.writing ≡ false
  pub starts : (is_prepared s.state && nat_le s.setup.sw.start_threshold x.rest) ≡ true

-- A transfer of the stream: it goes the stream's way, its layout fits the access, and its bytes can be counted.
pub record IsTransferOf (s : Stream) (x : Xfer) : Type 0 where
  pub writing : x.writing ≡ is_playback s.dir
  pub layout : fits x.layout s.setup.config ≡ true
  pub bytes : (x.moved + x.rest) * s.setup.frame_bytes < 2 ^ 64

-- The bytes of the call are whole frames, all that have moved and that rest, on the member at this place.
pub record AreBytesOf {C : Type 0} {g : Ghosts C} (ms : List (Member C g)) (place : ℕ) (x : Xfer) (io : List ℕ) : Type 0 where
  pub shape : (m : Member C g) → slice_get ms place ≡ Some m → IsSome (shape_in m.stream)
  pub whole : (m : Member C g) → slice_get ms place ≡ Some m → ForSome (shape_in m.stream) (λ shape. AreFrames shape io)
  pub count : (m : Member C g) → slice_get ms place ≡ Some m → ForSome (shape_in m.stream) (λ shape. count_of shape io ≡ x.moved + x.rest)
