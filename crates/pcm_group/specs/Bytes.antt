-- The bytes of a transfer: their length, and what it leaves in them.
use Rattle.std.specs.Prelude.{◌≡◌, ℕ, false, List, length, ◌*◌, if◌then◌else◌}
use Rattle.std.specs.Option.{is_some}
use Rattle.std.specs.declared.option.Option.TheVariants.{None}
use Rattle.pcm_base.specs.declared.call.Call.{Call}
use Rattle.pcm_base.specs.declared.call.Call.TheVariants as call
use Rattle.pcm_base.specs.declared.ids.ClientId.{ClientId}
use Rattle.pcm_base.specs.model.Program.{Answer}
use Rattle.pcm_base.specs.model.Replay.{layout_of, reading_length}
use Rattle.pcm_base.specs.model.Stream.{Stream}
use Rattle.mmap_pages.specs.Mapped.{load_refusal}
use Rattle.pcm_group.specs.Transfers.{IsReadable, bytes_with}

-- The bytes of a call that reads or loads have its length, where its rules let it through. Any other may have any.
abbrev pub HasLength : Call → List ℕ → Stream → Type 0
HasLength (call.Read w m n) io s = IsReadable w n io s
HasLength (call.Load o n) io s = load_refusal o n s ≡ None → length io ≡ n * s.setup.frame_bytes
HasLength _ io s = Unit {0}

-- the bytes of an event that gave this answer: the frames that a call has read stand at their place in its bytes, and all else is as before
abbrev pub bytes_left : Call → ClientId → Stream → Answer → List ℕ → List ℕ
bytes_left e c s a io = if is_some (reading_length e c s) then bytes_with false (layout_of e c s) a.first a.frames s io else io
