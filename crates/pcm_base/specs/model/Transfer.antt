-- Transfers of one stream (__snd_pcm_lib_xfer of pcm_lib.c): the checks, and the loop in closed form. The access rule, the refusal of the wrong direction and the limit of one read are this project's own.
use Rattle.std.specs.Prelude.{ℕ, Bool, true, false, not, ◌&&◌, ◌||◌, nat_eq, nat_le, List, [], ◌∷◌, ◌++◌, length, take, drop, min, zero, suc, ◌+◌, ◌-◌, ◌/◌, ◌%◌, if◌then◌else◌}
use Rattle.std.specs.declared.option.Option.{Option}
use Rattle.std.specs.declared.option.Option.TheVariants.{Some, None}
use Rattle.pcm_base.specs.declared.act.Act.TheVariants as act
use Rattle.pcm_base.specs.declared.act.Outcome.{Outcome}
use Rattle.pcm_base.specs.declared.act.Outcome.TheVariants as outcome
use Rattle.pcm_base.specs.declared.call.CallKind.TheVariants as kind
use Rattle.pcm_base.specs.declared.call.Layout.{Layout}
use Rattle.pcm_base.specs.declared.call.Layout.TheVariants as layout
use Rattle.pcm_base.specs.declared.call.Mode.{Mode}
use Rattle.pcm_base.specs.declared.call.Mode.TheVariants as mode
use Rattle.pcm_base.specs.declared.config.Config.{Config}
use Rattle.pcm_base.specs.declared.format.Access.TheVariants as access
use Rattle.pcm_base.specs.declared.ids.ClientId.{ClientId}
use Rattle.pcm_base.specs.declared.reply.Reply.{Reply}
use Rattle.pcm_base.specs.declared.reply.Reply.TheVariants as reply
use Rattle.pcm_base.specs.declared.sleeper.Task.TheVariants as task
use Rattle.pcm_base.specs.declared.sleeper.Xfer.{Xfer}
use Rattle.pcm_base.specs.declared.state.Errno.{Errno}
use Rattle.pcm_base.specs.declared.state.Errno.TheVariants as errno
use Rattle.pcm_base.specs.declared.state.State.TheVariants as state
use Rattle.pcm_base.specs.model.Acts.{table}
use Rattle.pcm_base.specs.model.Frame.{Frame, frames_of, planar_frames}
use Rattle.pcm_base.specs.model.PointerCalls.{on_by}
use Rattle.pcm_base.specs.model.Program.{Program, Ends, Makes, says, unless, making, updated_or_epipe}
use Rattle.pcm_base.specs.model.Standing.{put_at, standing_at}
use Rattle.pcm_base.specs.model.Stream.{Waiting, Stream, is_bare, avail, zero_frame}
use Rattle.pcm_base.specs.model.Words.{when, ◌then◌, is_playback, is_prepared, is_draining}

-- the position p + i ends a ring, or all n frames are moved
abbrev pub is_halt : ℕ → ℕ → ℕ → ℕ → Bool
is_halt b p n i = nat_eq i n || nat_eq ((p + i) % b) 0

-- at least start_threshold frames are queued once i more are written
abbrev pub is_filled : Stream → ℕ → Bool
is_filled s i = nat_le (s.setup.sw.start_threshold + avail s) (s.setup.buffer + i)

-- the least number from i on, among the next k, of which t holds
abbrev pub least : (ℕ → Bool) → ℕ → ℕ → Option ℕ
least t i zero = None
least t i (suc k) = if t i then Some i else least t (i + 1) k

-- the halt at which a playback write of n frames starts the group
abbrev pub starting_halt : Stream → ℕ → Option ℕ
starting_halt s n =
    if is_prepared s.state then least (λ i. is_halt s.setup.buffer s.at.appl n i && is_filled s i) 1 n else None

-- these frames put at the application position
abbrev pub put_next : List Frame → Stream → Stream
put_next fs s = on_by (length fs) (record s { puts = put_at s.at.appl fs s.puts })

-- the next n frames to read
abbrev pub read_next : ℕ → Stream → List Frame
read_next n s = standing_at s.puts s.setup.buffer s.at.appl n (zero_frame s)

-- frames where some were moved, else the error
abbrev pub frames_or : ℕ → Errno → Reply
frames_or m e = if nat_eq m 0 then reply.Err e else reply.Frames m

-- a call that sleeps is kept with its stream
abbrev pub sleeping : Waiting → Stream → Stream
sleeping p s = record s { sleepers = s.sleepers ++ p ∷ [] }

-- The call's answer, where this step moved the frames fs of a call that had moved x.moved before.
abbrev pub tells : Reply → Xfer → List Frame → Stream → Program
tells r x fs s = Ends (record { reply = r; first = (if nat_eq (length fs) 0 then 0 else x.moved); frames = fs }) s

-- the call as it is kept: rest frames to go, m moved
abbrev pub waiting_for : ClientId → Xfer → ℕ → ℕ → ℕ → Waiting
waiting_for c x rest m wanted = record { client = c; task = task.Transfer (record x { rest = rest; moved = m }) wanted }

-- In these definitions fs are the frames that this step has moved so far. None of the rest can move now: the call ends or sleeps by its mode.
abbrev pub stuck_in : Mode → ClientId → Xfer → List Frame → ℕ → Stream → Program
stuck_in mode.NonBlock c x fs rest s = tells (frames_or (x.moved + length fs) errno.Eagain) x fs s
stuck_in mode.Block c x fs rest s = tells reply.Asleep x fs (sleeping (waiting_for c x rest (x.moved + length fs) (min rest s.setup.sw.avail_min)) s)

-- or a drain of a capture stream is at its end
abbrev pub stuck : ClientId → Xfer → List Frame → ℕ → Stream → Program
stuck c x fs rest s =
    if not x.writing && is_draining s.state then Makes (act.Stop state.Setup) s (λ o. tells (reply.Frames (x.moved + length fs)) x fs)
    else stuck_in x.mode c x fs rest s

-- the frames that can move have moved; rest are left
abbrev pub after_moves : ClientId → Xfer → List Frame → ℕ → Stream → Program
after_moves c x fs rest s = if nat_eq rest 0 then tells (reply.Frames (x.moved + length fs)) x fs s else stuck c x fs rest s

-- a playback write of the frames ws that rest, which starts nothing
abbrev pub write_plain : ClientId → Xfer → List Frame → List Frame → Stream → Program
write_plain c x fs ws s =
    let n = min (length ws) (avail s) in
    after_moves c x (fs ++ take n ws) (length ws - n) (put_next (take n ws) s)

-- after the start of the group
abbrev pub after_start : ClientId → Xfer → List Frame → List Frame → Outcome → Stream → Program
after_start c x fs ws outcome.Done s = write_plain c x fs ws s
after_start c x fs ws (outcome.Refused j e) s = tells (frames_or (x.moved + length fs) e) x fs s
after_start c x fs ws (outcome.Failed j) s = tells (frames_or (x.moved + length fs) errno.Eio) x fs s

-- a write that starts the group after t frames, or not at all
abbrev pub write_from : ClientId → Xfer → List Frame → List Frame → Stream → Option ℕ → Program
write_from c x fs ws s None = write_plain c x fs ws s
write_from c x fs ws s (Some t) = Makes act.Start (put_next (take t ws) s) (after_start c x (fs ++ take t ws) (drop t ws))

-- a playback write of the frames ws that rest
abbrev pub write_on : ClientId → Xfer → List Frame → List Frame → Stream → Program
write_on c x fs ws s = write_from c x fs ws s (starting_halt s (min (length ws) (avail s)))

-- a capture read of the frames that rest
abbrev pub read_on : ClientId → Xfer → List Frame → ℕ → Stream → Program
read_on c x fs rest s =
    let n = min rest (avail s) in
    after_moves c x (fs ++ read_next n s) (rest - n) (on_by n s)

-- the layout fits the access
abbrev pub fits : Layout → Option Config → Bool
fits w None = false
fits layout.Interleaved (Some c) = nat_eq c.channels 1 || elim c.access [ access.RwInterleaved ↦ true | _ ↦ false ]
fits layout.Planar (Some c) = elim c.access [ access.RwNoninterleaved ↦ true | _ ↦ false ]

abbrev pub beq : Bool → Bool → Bool
beq true b = b
beq false b = not b

-- the refusals that come before the table
abbrev pub misfit : Stream → Bool → Layout → Bool → Option Errno
misfit s writing w whole =
    when (not (beq writing (is_playback s.dir))) errno.Einval
    then (when (is_bare s) errno.Ebadfd
    then (when (not (fits w s.setup.config)) errno.Einval
    then when (not whole) errno.Einval))

abbrev pub channels_of : Option Config → ℕ
channels_of None = 0
channels_of (Some c) = c.channels

-- whole frames
abbrev pub is_whole : Stream → List ℕ → Bool
is_whole s bytes = nat_eq (length bytes % s.setup.frame_bytes) 0

-- the whole frames of these bytes
abbrev pub frames_in : Stream → List ℕ → List Frame
frames_in s bytes = frames_of (length bytes / s.setup.frame_bytes) s.setup.frame_bytes bytes

-- the whole frames of a transfer's bytes
abbrev pub frames_by : Layout → Stream → List ℕ → List Frame
frames_by layout.Interleaved s bytes = frames_in s bytes
frames_by layout.Planar s bytes = planar_frames (length bytes / s.setup.frame_bytes) (channels_of s.setup.config) (s.setup.frame_bytes / channels_of s.setup.config) bytes

-- a write of these bytes by client c
abbrev pub write : ClientId → Layout → Mode → List ℕ → Stream → Program
write c w m bytes s =
    let n = length bytes / s.setup.frame_bytes in
    let x : Xfer = record { writing = true; layout = w; mode = m; rest = n; moved = 0 } in
    unless (misfit s true w (is_whole s bytes)) s
    (if nat_eq n 0 then says (reply.Frames 0) s
    else unless (table kind.Write s) s (updated_or_epipe s (write_on c x [] (frames_by w s bytes))))

-- a capture read in PREPARED of at least start_threshold frames starts the group
abbrev pub start_reading : ClientId → Xfer → Stream → Program
start_reading c x s = if is_prepared s.state && nat_le s.setup.sw.start_threshold x.rest then making act.Start s (read_on c x [] x.rest) else read_on c x [] x.rest s

-- a read of n frames by client c
abbrev pub read : ClientId → Layout → Mode → ℕ → Stream → Program
read c w m n s =
    let x : Xfer = record { writing = false; layout = w; mode = m; rest = n; moved = 0 } in
    unless (misfit s false w (nat_le n 1048576)) s
    (if nat_eq n 0 then says (reply.Frames 0) s
    else unless (table kind.Read s) s (updated_or_epipe s (start_reading c x)))
