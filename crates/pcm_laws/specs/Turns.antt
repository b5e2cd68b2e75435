-- One turn of a transfer, followed by the closed form of what is left, is the closed form of all. A turn ends at the ring's end (__snd_pcm_lib_xfer of pcm_lib.c).
use Rattle.std.specs.Prelude.{◌≡◌, ℕ, true, false, List, [], ◌++◌, length, take, drop, min, ◌+◌, ◌-◌, ◌%◌, ◌<◌, ◌≤◌}
use Rattle.pcm_base.specs.declared.act.Act.TheVariants as act
use Rattle.pcm_base.specs.declared.ids.ClientId.{ClientId}
use Rattle.pcm_base.specs.declared.reply.Reply.TheVariants as reply
use Rattle.pcm_base.specs.declared.sleeper.Xfer.{Xfer}
use Rattle.pcm_base.specs.model.Frame.{Frame}
use Rattle.pcm_base.specs.model.PointerCalls.{on_by}
use Rattle.pcm_base.specs.model.Program.{Makes}
use Rattle.pcm_base.specs.model.Stream.{Stream, avail}
use Rattle.pcm_base.specs.model.Transfer.{is_filled, put_next, read_next, tells, stuck, write_plain, after_start, write_on, read_on}
use Rattle.pcm_base.specs.model.Words.{is_prepared}

-- the frames of a turn, where rest are to go: all that can move, or those up to the ring's end
abbrev pub turn : ℕ → Stream → ℕ
turn rest s = min (min rest (avail s)) (s.setup.buffer - s.at.appl % s.setup.buffer)

-- In PREPARED, a turn after which start_threshold frames are queued starts the group.
abbrev pub StartingTurn : Type 0
StartingTurn = (c : ClientId) (x : Xfer) (fs ws : List Frame) (s : Stream) (n : ℕ) → 0 < s.setup.buffer → 0 < min (length ws) (avail s) → n ≡ turn (length ws) s
    → is_prepared s.state ≡ true → is_filled s n ≡ true
    → write_on c x fs ws s ≡ Makes act.Start (put_next (take n ws) s) (after_start c x (fs ++ take n ws) (drop n ws))

-- a turn after which fewer are queued
abbrev pub QuietTurn : Type 0
QuietTurn = (c : ClientId) (x : Xfer) (fs ws : List Frame) (s : Stream) (n : ℕ) → 0 < s.setup.buffer → 0 < min (length ws) (avail s) → n ≡ turn (length ws) s
    → is_filled s n ≡ false
    → write_on c x fs ws s ≡ write_on c x (fs ++ take n ws) (drop n ws) (put_next (take n ws) s)

-- a write in another state than PREPARED starts nothing
abbrev pub StartsInPrepared : Type 0
StartsInPrepared = (c : ClientId) (x : Xfer) (fs ws : List Frame) (s : Stream) → is_prepared s.state ≡ false → write_on c x fs ws s ≡ write_plain c x fs ws s

-- any part of a write that starts nothing, before the rest
abbrev pub PlainTurn : Type 0
PlainTurn = (c : ClientId) (x : Xfer) (fs ws : List Frame) (s : Stream) (n : ℕ) → n ≤ min (length ws) (avail s)
    → write_plain c x fs ws s ≡ write_plain c x (fs ++ take n ws) (drop n ws) (put_next (take n ws) s)

-- a write that finds no room
abbrev pub StuckWrite : Type 0
StuckWrite = (c : ClientId) (x : Xfer) (fs ws : List Frame) (s : Stream) → avail s ≡ 0 → 0 < length ws → write_on c x fs ws s ≡ stuck c x fs (length ws) s

abbrev pub StuckPlainWrite : Type 0
StuckPlainWrite = (c : ClientId) (x : Xfer) (fs ws : List Frame) (s : Stream) → avail s ≡ 0 → 0 < length ws → write_plain c x fs ws s ≡ stuck c x fs (length ws) s

-- a write with no frames left
abbrev pub WholeWrite : Type 0
WholeWrite = (c : ClientId) (x : Xfer) (fs : List Frame) (s : Stream) → write_on c x fs [] s ≡ tells (reply.Frames (x.moved + length fs)) x fs s

abbrev pub WholePlainWrite : Type 0
WholePlainWrite = (c : ClientId) (x : Xfer) (fs : List Frame) (s : Stream) → write_plain c x fs [] s ≡ tells (reply.Frames (x.moved + length fs)) x fs s

-- any part of a read, before the rest
abbrev pub ReadTurn : Type 0
ReadTurn = (c : ClientId) (x : Xfer) (fs : List Frame) (rest : ℕ) (s : Stream) (n : ℕ) → n ≤ min rest (avail s)
    → read_on c x fs rest s ≡ read_on c x (fs ++ read_next n s) (rest - n) (on_by n s)

-- a read that finds no frame
abbrev pub StuckRead : Type 0
StuckRead = (c : ClientId) (x : Xfer) (fs : List Frame) (rest : ℕ) (s : Stream) → avail s ≡ 0 → 0 < rest → read_on c x fs rest s ≡ stuck c x fs rest s

-- a read with no frames left
abbrev pub WholeRead : Type 0
WholeRead = (c : ClientId) (x : Xfer) (fs : List Frame) (s : Stream) → read_on c x fs 0 s ≡ tells (reply.Frames (x.moved + length fs)) x fs s
