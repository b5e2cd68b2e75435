use Rattle.std.proofs.Common.{ℕ, ◌≡◌, ◌-◌, ◌*◌, ◌<◌, ◌≤◌, true, false, List}
use Rattle.pcm_base.specs.declared.config.Config.{Config}
use Rattle.pcm_base.specs.declared.state.State.TheVariants.{Draining, Running, Setup}
use Rattle.pcm_base.specs.model.Allowed.{frame_bytes_of, shape_of}
use Rattle.pcm_group.specs.Inside.{members_in}
use Rattle.play_record.specs.Devices.{IsAt}
use Rattle.play_record.specs.Sounds.{most_bytes}
use Rattle.pcm_stream.specs.Members.{numbers_of}
use Rattle.play_record.specs.Stages.{IsSized, long_max, plays}
use Rattle.play_record.proofs.playing.drain.Given as goal

abbrev pub invariant-loop-played : goal.invariant-loop-played
invariant-loop-played g l =
    (numbers_of (members_in l.group) ≡ numbers_of (members_in l.fn.group))
    × ((h : Config) (bytes : List ℕ) → IsSized h → l.fn.shape ≡ shape_of h long_max → l.count * h.period * frame_bytes_of h ≤ most_bytes
    → IsAt l.sub (plays h bytes Running true ((l.count - h.periods) * h.period) (l.count * h.period) ((l.count - h.periods) * h.period)) (members_in l.fn.group)
    → ((l._played < l.count → IsAt l.sub (plays h bytes Draining true (l._played * h.period) (l.count * h.period) (l._played * h.period)) (members_in l.group))
    × (l._played ≡ l.count → IsAt l.sub (plays h bytes Setup false (l.count * h.period) (l.count * h.period) (l.count * h.period)) (members_in l.group))))
