-- The card's own movement: frames that stand in the buffer are taken, frames to give are put there. That a movement of a whole buffer before it is reported is refused is this project's own.
use Rattle.std.specs.Prelude.{ℕ, not, nat_lt, nat_le, List, [], ◌++◌, length, replicate, take, drop, ◌+◌, ◌-◌, ◌*◌, if◌then◌else◌}
use Rattle.pcm_base.specs.declared.reply.Reply.{Reply}
use Rattle.pcm_base.specs.declared.reply.Reply.TheVariants as reply
use Rattle.pcm_base.specs.declared.state.Dir.{Dir}
use Rattle.pcm_base.specs.declared.state.Dir.TheVariants as dir
use Rattle.pcm_base.specs.model.Frame.{Frame}
use Rattle.pcm_base.specs.model.Standing.{put_at, standing_at}
use Rattle.pcm_base.specs.model.Stream.{Stream, zero_frame}
use Rattle.pcm_base.specs.model.Words.{◌then◌}

-- the card moves on by n frames
pub record Movement : Type 0 where
  pub reply : Reply
  pub frames : List Frame
  pub stream : Stream

abbrev pub padded : ℕ → List Frame → Frame → List Frame
padded n fs z = take n fs ++ replicate (n - length fs) z

abbrev pub taken_by : ℕ → Stream → List Frame
taken_by n s = standing_at s.puts s.setup.buffer s.at.card n (zero_frame s)

abbrev pub given_by : ℕ → Stream → List Frame
given_by n s = padded n s.card.to_give (zero_frame s)

-- the card has moved n frames, by its direction
abbrev pub carried_by : Dir → ℕ → Stream → Stream
carried_by dir.Playback n s = record s { card = record s.card { taken = s.card.taken ++ taken_by n s }; at = record s.at { card = s.at.card + n }; moved = s.moved + n }
carried_by dir.Capture n s = record s { card = record s.card { to_give = drop n s.card.to_give }; puts = put_at s.at.card (given_by n s) s.puts; at = record s.at { card = s.at.card + n }; moved = s.moved + n }

abbrev pub carried : ℕ → Stream → Stream
carried n s = carried_by s.dir n s

-- the frames that it took
abbrev pub frames_taken : Dir → ℕ → Stream → List Frame
frames_taken dir.Playback n s = taken_by n s
frames_taken dir.Capture n s = []

abbrev pub carried_frames : ℕ → Stream → List Frame
carried_frames n s = frames_taken s.dir n s

-- the bytes that it has taken, these among them
abbrev pub bytes_taken : Dir → ℕ → Stream → ℕ
bytes_taken dir.Playback n s = (length s.card.taken + n) * s.setup.frame_bytes
bytes_taken dir.Capture n s = 0

abbrev pub taken_bytes : ℕ → Stream → ℕ
taken_bytes n s = bytes_taken s.dir n s

abbrev pub move : ℕ → Stream → Movement
move n s =
    if not s.card.runs then record { reply = reply.Idle; frames = []; stream = s }
    else if nat_le (s.at.hw + s.setup.buffer) (s.at.card + n) then record { reply = reply.Late (s.setup.buffer - 1 - (s.at.card - s.at.hw)); frames = []; stream = s }
    else if nat_lt 67108864 (taken_bytes n s) then record { reply = reply.Limit (taken_bytes n s); frames = []; stream = s }
    else record { reply = reply.Moved n; frames = carried_frames n s; stream = carried n s }
