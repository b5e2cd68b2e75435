-- Rewind, forward and sync (snd_pcm_rewind, snd_pcm_forward, snd_pcm_sync_ptr).
use Rattle.std.specs.Prelude.{ℕ, ◌+◌, ◌-◌, ◌%◌}
use Rattle.pcm_base.specs.model.Stream.{Stream, head, avail}

-- the frames that may be taken back; none where more are available than the buffer holds
abbrev pub hw_avail : Stream → ℕ
hw_avail s = s.setup.buffer - avail s

abbrev pub back_by : ℕ → Stream → Stream
back_by n s = record s { at = record s.at { appl = s.at.appl - n } }

abbrev pub on_by : ℕ → Stream → Stream
on_by n s = record s { at = record s.at { appl = s.at.appl + n } }

-- the application position that is shown as p
abbrev pub sync_to : ℕ → Stream → Stream
sync_to p s = record s { at = record s.at { appl = head s - (head s - p) % s.setup.boundary } }
