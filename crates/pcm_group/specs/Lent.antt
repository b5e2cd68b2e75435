-- The bytes that an event is lent, and what it leaves in them.
use Rattle.std.specs.Prelude.{◌≡◌, ℕ, Bool, true, false, not, ◌||◌, List, length}
use Rattle.std.specs.declared.option.Option.{Option}
use Rattle.pcm_base.specs.declared.call.Call.{Call}
use Rattle.pcm_base.specs.declared.call.Call.TheVariants as call
use Rattle.pcm_base.specs.declared.reply.Reply.{Reply}
use Rattle.pcm_base.specs.declared.reply.Reply.TheVariants as reply
use Rattle.pcm_base.specs.declared.state.Errno.{Errno}
use Rattle.pcm_base.specs.declared.state.Errno.TheVariants as errno
use Rattle.pcm_base.specs.model.Frame.{bytes_of}
use Rattle.pcm_base.specs.model.Stream.{Stream, is_bare}
use Rattle.pcm_base.specs.model.Transfer.{frames_in, is_whole}
use Rattle.pcm_base.specs.model.Words.{when, is_playback}
use Rattle.pcm_stream.specs.Buffer.{loaded_from}

-- the events of one member that look at the bytes and make no act
abbrev pub is_lent_call : Call → Bool
is_lent_call (call.Store o) = true
is_lent_call (call.Load o n) = true
is_lent_call call.Give = true
is_lent_call _ = false

-- A Load that answers Frames leaves the frames that stand there in all of its bytes; any other answer leaves them as they were.
abbrev pub Loads : Call → Stream → Reply → List ℕ → List ℕ → Type 0
Loads (call.Load o n) s (reply.Frames m) io out = out ≡ bytes_of (loaded_from o n s)
Loads (call.Load o n) s _ io out = out ≡ io
Loads _ s r io out = Unit {0}

-- the events that leave something else in the bytes
abbrev pub is_reading : Call → Bool
is_reading (call.Load o n) = true
is_reading _ = false

-- what refuses frames that a card is to give
abbrev pub give_refusal : List ℕ → Stream → Option Errno
give_refusal bytes s = when (is_bare s || is_playback s.dir || not (is_whole s bytes)) errno.Einval

-- the frames that a card was handed, by the answer
abbrev pub frames_given : Reply → Stream → List ℕ → ℕ
frames_given reply.Ok s io = length (frames_in s io)
frames_given _ s io = 0
