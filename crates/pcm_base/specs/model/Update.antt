-- Silence, and the update of the hardware position (snd_pcm_update_hw_ptr, snd_pcm_playback_silence; the silence rule is this project's own).
use Rattle.std.specs.Prelude.{ℕ, Bool, false, nat_eq, nat_lt, nat_le, replicate, min, max, ◌+◌, ◌-◌, if◌then◌else◌}
use Rattle.std.specs.declared.option.Option.{Option}
use Rattle.std.specs.declared.option.Option.TheVariants.{Some, None}
use Rattle.pcm_base.specs.declared.act.Updated.{Updated}
use Rattle.pcm_base.specs.declared.act.Updated.TheVariants as updated
use Rattle.pcm_base.specs.declared.config.Config.{Config}
use Rattle.pcm_base.specs.declared.format.Format.TheVariants as format
use Rattle.pcm_base.specs.declared.state.Dir.TheVariants as dir
use Rattle.pcm_base.specs.declared.state.State.{State}
use Rattle.pcm_base.specs.declared.state.State.TheVariants as state
use Rattle.pcm_base.specs.model.Frame.{Frame}
use Rattle.pcm_base.specs.model.Standing.{put_at}
use Rattle.pcm_base.specs.model.Stream.{Stream, avail}
use Rattle.pcm_base.specs.model.Words.{◌then◌}

-- a stream after an update, and what that found
pub record Refreshed : Type 0 where
  pub found : Updated
  pub stream : Stream

abbrev pub set_state : State → Stream → Stream
set_state t s = record s { state = t }

abbrev pub set_runs : Bool → Stream → Stream
set_runs b s = record s { card = record s.card { runs = b } }

-- where the count of free frames reaches the boundary, the application position moves on by it
abbrev pub lapped : Stream → ℕ
lapped s = if nat_le s.setup.boundary (avail s) then s.at.appl + s.setup.boundary else s.at.appl

abbrev pub lap : Stream → Stream
lap s = record s { at = record s.at { appl = lapped s } }

abbrev pub silence_byte : Option Config → ℕ
silence_byte None = 0
silence_byte (Some c) = elim c.format [ format.U8 ↦ 128 | _ ↦ 0 ]

-- where silence begins, and how many frames of it
abbrev pub fill_start : Stream → ℕ
fill_start s = max (max s.at.appl s.at.filled) s.at.hw

abbrev pub fill_count_at : ℕ → Stream → ℕ
fill_count_at x s =
    if nat_le s.setup.boundary s.setup.sw.silence_size then s.at.hw + s.setup.buffer - x
    else if nat_lt x (s.at.hw + s.setup.sw.silence_threshold) then min s.setup.sw.silence_size (s.at.hw + s.setup.sw.silence_threshold - x)
    else 0

abbrev pub fill_count : Stream → ℕ
fill_count s = elim s.dir [ dir.Playback ↦ fill_count_at (fill_start s) s | dir.Capture ↦ 0 ]

abbrev pub silent_frame : Stream → Frame
silent_frame s = replicate s.setup.frame_bytes (silence_byte s.setup.config)

abbrev pub fill : Stream → Stream
fill s =
    let x = fill_start s in
    let n = fill_count s in
    record s { puts = put_at x (replicate n (silent_frame s)) s.puts; at = record s.at { filled = if nat_eq n 0 then s.at.filled else x + n } }

abbrev pub reported : Stream → Stream
reported s = record s { at = record s.at { hw = s.at.card } }

abbrev pub found_in : State → ℕ → ℕ → ℕ → Updated
found_in state.Draining b stop a = if nat_le b a then updated.DrainDone else updated.Nothing
found_in state.Running b stop a = if nat_le stop a then updated.StopXrun else updated.Nothing
found_in _ b stop a = updated.Nothing

abbrev pub found : Stream → Updated
found s = found_in s.state s.setup.buffer s.setup.sw.stop_threshold (avail s)

abbrev pub settled : Updated → Stream → Stream
settled updated.DrainDone s = set_runs false (set_state state.Setup s)
settled _ s = s

abbrev pub moved_up : Stream → Stream
moved_up s = fill (lap (reported s))

abbrev pub update : Stream → Refreshed
update s =
    let t = moved_up s in
    if s.card.runs then record { found = found t; stream = settled (found t) t }
    else record { found = updated.Nothing; stream = s }
