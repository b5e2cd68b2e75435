use Rattle.std.proofs.Common.{ℕ, ◌≡◌, ◌*◌, min, true, List, length, take, replicate}
use Rattle.pcm_base.specs.declared.config.Config.{Config}
use Rattle.pcm_base.specs.declared.state.State.TheVariants.{Running}
use Rattle.pcm_base.specs.model.Allowed.{frame_bytes_of}
use Rattle.pcm_base.specs.model.Frame.{Frame, bytes_of}
use Rattle.pcm_base.specs.model.Movement.{padded}
use Rattle.pcm_stream.specs.Members.{numbers_of}
use Rattle.pcm_group.specs.Inside.{members_in}
use Rattle.play_record.specs.Devices.{IsAt}
use Rattle.play_record.specs.Stages.{IsSized, records}
use Rattle.play_record.proofs.recording.record_all.Given as goal

abbrev pub invariant-loop-number : goal.invariant-loop-number
invariant-loop-number g l =
    (numbers_of (members_in l.group) ≡ numbers_of (members_in l.fn.group))
    × (length l.out ≡ l.frames * l.frame)
    × ((h : Config) (given : List Frame) → IsSized h → h.period ≡ 256 → l.frame ≡ frame_bytes_of h → IsAt l.sub (records h given Running true 0 0 0) (members_in l.fn.group)
    → (IsAt l.sub (records h given Running true (l.number * 256) (min (l.number * 256) l.frames) (l.number * 256)) (members_in l.group)
    × (take (min (l.number * 256) l.frames * l.frame) l.out ≡ bytes_of (padded (min (l.number * 256) l.frames) given (replicate l.frame 0)))))
