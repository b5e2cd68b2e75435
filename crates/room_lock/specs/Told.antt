-- What the own entry of an event has of its bytes, by what its step told. This project's own.
use Rattle.std.specs.Prelude.{ℕ, Bool, true, false, nat_eq, List, [], if◌then◌else◌}
use Rattle.std.specs.declared.option.Option.{Option}
use Rattle.std.specs.declared.option.Option.TheVariants.{Some, None}
use Rattle.pcm_base.specs.declared.call.Call.{Call}
use Rattle.pcm_base.specs.declared.call.Call.TheVariants as call
use Rattle.pcm_base.specs.declared.call.Layout.{Layout}
use Rattle.pcm_base.specs.declared.config.Shape.{Shape}
use Rattle.pcm_base.specs.declared.reply.Reply.{Reply}
use Rattle.pcm_base.specs.declared.reply.Reply.TheVariants as reply
use Rattle.room_lock.specs.Moved.{part_by}

abbrev pub is_transfer : Call → Bool
is_transfer (call.Write w m) = true
is_transfer (call.Read w m n) = true
is_transfer call.Go = true
is_transfer _ = false

abbrev pub is_movement : Call → Bool
is_movement (call.MoveBy n) = true
is_movement _ = false

-- all of them where it was answered so

abbrev pub on_ok : Reply → List ℕ → List ℕ
on_ok reply.Ok io = io
on_ok _ io = []

abbrev pub on_frames : Reply → List ℕ → List ℕ
on_frames (reply.Frames n) io = io
on_frames _ io = []

-- those of the frames that a transfer has moved
abbrev pub moved_part : Layout → Option Shape → ℕ → ℕ → List ℕ → List ℕ
moved_part l None first n io = []
moved_part l (Some h) first n io = if nat_eq n 0 then [] else part_by l h first n io

-- what a card took in a movement; what it was given, or was stored or loaded, whole; of a transfer what it moved
abbrev pub told_bytes : Call → Layout → Option Shape → Reply → ℕ → ℕ → List ℕ → List ℕ → List ℕ
told_bytes (call.MoveBy k) l h r first n io tail = tail
told_bytes call.Give l h r first n io tail = on_ok r io
told_bytes (call.Store o) l h r first n io tail = on_frames r io
told_bytes (call.Load o k) l h r first n io tail = on_frames r io
told_bytes (call.Write w m) l h r first n io tail = moved_part l h first n io
told_bytes (call.Read w m k) l h r first n io tail = moved_part l h first n io
told_bytes call.Go l h r first n io tail = moved_part l h first n io
told_bytes _ l h r first n io tail = []
