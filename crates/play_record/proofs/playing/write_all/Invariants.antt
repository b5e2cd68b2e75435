use Rattle.std.proofs.Common.{◌≡◌, ◌-◌, ◌*◌, true, length}
use Rattle.pcm_base.specs.declared.state.State.TheVariants.{Running}
use Rattle.pcm_stream.specs.Members.{numbers_of}
use Rattle.pcm_group.specs.Inside.{members_in}
use Rattle.wav_file.specs.Recordings.{recording}
use Rattle.play_record.specs.Devices.{IsAt}
use Rattle.play_record.specs.Sounds.{config_for, played}
use Rattle.play_record.specs.Stages.{plays}
use Rattle.play_record.proofs.playing.write_all.Given as goal

abbrev pub invariant-loop-written : goal.invariant-loop-written
invariant-loop-written g l =
    (numbers_of (members_in l.group) ≡ numbers_of (members_in l.fn.group))
    × (length l.piece.items ≡ l.shape.period * l.shape.frame_bytes)
    × IsAt l.sub (plays (config_for (recording l.wav) l.shape.period l.shape.periods) (played l.shape.period (recording l.wav)).frames Running true
    ((l.written - l.shape.periods) * l.shape.period) (l.written * l.shape.period) ((l.written - l.shape.periods) * l.shape.period)) (members_in l.group)
