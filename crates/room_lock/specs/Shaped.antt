-- What is looked at before a step, and what the step leaves in the bytes of its call. This project's own.
use Rattle.std.specs.Prelude.{◌≡◌, ℕ, ◌<◌, ◌%◌, false, List, length}
use Rattle.std.specs.declared.option.Option.{Option}
use Rattle.std.specs.declared.option.Option.TheVariants.{Some, None}
use Rattle.pcm_base.specs.declared.call.Call.{Call}
use Rattle.pcm_base.specs.declared.config.Shape.{Shape}
use Rattle.pcm_base.specs.declared.ids.ClientId.{ClientId}
use Rattle.pcm_base.specs.model.Program.{Answer}
use Rattle.pcm_base.specs.model.Stream.{Stream}
use Rattle.pcm_base.specs.model.Transfer.{channels_of}
use Rattle.pcm_group.specs.Built.{is_waiting_call}
use Rattle.pcm_group.specs.Bytes.{bytes_left}
use Rattle.pcm_group.specs.Lent.{Loads, is_lent_call, is_reading}

-- the sizes of a stream's frames
pub record IsSized (s : Stream) (h : Shape) : Type 0 where
  pub frame : s.setup.frame_bytes ≡ h.frame_bytes
  pub buffer : s.setup.buffer ≡ h.buffer
  pub channels : channels_of s.setup.config ≡ h.channels
  pub some : 0 < h.frame_bytes
  pub one : 0 < h.channels
  pub samples : h.frame_bytes % h.channels ≡ 0

-- the shape of a stream, where it has one
pub record HasShape (s : Stream) (o : Option Shape) : Type 0 where
  pub sized : (h : Shape) → o ≡ Some h → IsSized s h
  pub bare : o ≡ None → s.setup.config ≡ None
  pub none : o ≡ None → s.setup.frame_bytes ≡ 0

-- the bytes of an event afterwards
pub record IsLeft (e : Call) (c : ClientId) (s : Stream) (a : Answer) (io out : List ℕ) : Type 0 where
  pub left : is_lent_call e ≡ false → out ≡ bytes_left e c s a io
  pub loads : Loads e s a.reply io out
  pub same : is_waiting_call e ≡ false → is_reading e ≡ false → out ≡ io
  pub size : length out ≡ length io
