use Rattle.std.proofs.Common.{◌≡◌, ◌+◌, ◌≤◌, ℕ, true, false, ◌&&◌, List, length, take, drop, sym, ◌∙◌, ap, arith}
use Rattle.pcm_base.specs.declared.sleeper.Xfer.{Xfer}
use Rattle.pcm_base.specs.model.Transfer.{frames_by}
use Rattle.pcm_laws.specs.Turns.{turn}
use Rattle.pcm_stream.specs.StandsFor.{StandsFor}
use Rattle.xfer_loop.specs.Turn.{frames_moved, stream_after, stream_moved, xfer_moved}
use Rattle.xfer_loop.proofs.TurnLemmas.{HasConfig, IsTurn, both, bytes-moved, bytes-stay, config-moved, config_in, few, frames-stay, neither-left, neither-right, part-length, room-of, room_in, stands-for, starts-is, starts_by, step-moved, step-starts, step-stuck, stream-stays, sum_fits, turn-full, turn-none, xfer-stays}
use Rattle.xfer_loop.proofs.transfer.Goals as goal
use Rattle.xfer_loop.proofs.transfer.Goals.{else-xfer-via-then-xfer+else-filled, else-xfer-via-else-xfer}

-- nothing rests

pub returns-then-xfer-eq0-clause-frames : goal.returns-then-xfer-eq0-clause-frames
returns-then-xfer-eq0-clause-frames g c s h =
    let x : Xfer = c.args.xfer.now in
    frames-stay x (turn x.rest s) c.args.io.now s (turn-none s x.rest c.if-xfer-eq0.true)

pub returns-then-xfer-eq0-clause-stream : goal.returns-then-xfer-eq0-clause-stream
returns-then-xfer-eq0-clause-stream g c s h =
    let x : Xfer = c.args.xfer.now in
    stands-for c.args.member.now.stream s (stream_after x c.args.io.now s) (stream-stays x (turn x.rest s) c.args.io.now s (turn-none s x.rest c.if-xfer-eq0.true)) h

-- no frame can move

pub returns-then-count-eq0-clause-step : goal.returns-then-count-eq0-clause-step
returns-then-count-eq0-clause-step g c s h =
    let x : Xfer = c.args.xfer.now in
    let k : HasConfig s = config_in c.args.member.now.stream s c.requires.shape h in
    let count : c.turn-count.result ≡ turn x.rest s = c.turn-count.ensures.model s k.config h k.is in
    c.stuck.ensures.step s k.config h k.is
    ∙ step-stuck x s c.if-xfer-eq0.false (turn-full x.rest c.turn-count.result s (room_in s k h.sound) c.if-xfer-eq0.false count c.if-count-eq0.true)

pub returns-then-count-eq0-clause-stream : goal.returns-then-count-eq0-clause-stream
returns-then-count-eq0-clause-stream g c s h =
    let x : Xfer = c.args.xfer.now in
    let k : HasConfig s = config_in c.args.member.now.stream s c.requires.shape h in
    let none : turn x.rest s ≡ 0 = sym (c.turn-count.ensures.model s k.config h k.is) ∙ c.if-count-eq0.true in
    stands-for c.args.member.now.stream s (stream_after x c.args.io.now s) (stream-stays x (turn x.rest s) c.args.io.now s none) h

pub returns-then-count-eq0-clause-xfer : goal.returns-then-count-eq0-clause-xfer
returns-then-count-eq0-clause-xfer g c s h =
    let x : Xfer = c.args.xfer.now in
    let k : HasConfig s = config_in c.args.member.now.stream s c.requires.shape h in
    xfer-stays x (turn x.rest s) (sym (c.turn-count.ensures.model s k.config h k.is) ∙ c.if-count-eq0.true)

pub returns-then-count-eq0-clause-frames : goal.returns-then-count-eq0-clause-frames
returns-then-count-eq0-clause-frames g c s h =
    let x : Xfer = c.args.xfer.now in
    let k : HasConfig s = config_in c.args.member.now.stream s c.requires.shape h in
    frames-stay x (turn x.rest s) c.args.io.now s (sym (c.turn-count.ensures.model s k.config h k.is) ∙ c.if-count-eq0.true)

pub returns-then-count-eq0-clause-bytes : goal.returns-then-count-eq0-clause-bytes
returns-then-count-eq0-clause-bytes g c s h =
    let x : Xfer = c.args.xfer.now in
    let k : HasConfig s = config_in c.args.member.now.stream s c.requires.shape h in
    bytes-stay x c.args.io.now s (sym (c.turn-count.ensures.model s k.config h k.is) ∙ c.if-count-eq0.true)

-- some frames move

pub overflow_add-xfer : goal.overflow_add-xfer
overflow_add-xfer g c =
    let most : c.args.xfer.now.moved + c.turn-count.result ≤ length c.args.io.now =
    sum_fits _ c.args.io.now c.args.xfer.now.moved c.args.xfer.now.rest c.turn-count.result c.requires.shape c.requires.count c.turn-count.ensures.rest in
    omega (arith, most, c.type_inv.io)

pub returns-then-filled-clause-step : goal.returns-then-filled-clause-step
returns-then-filled-clause-step g c s h =
    let x : Xfer = c.args.xfer.now in
    let n : ℕ = c.turn-count.result in
    let io : List ℕ = c.args.io.now in
    let k : HasConfig s = config_in c.args.member.now.stream s c.requires.shape h in
    let t : IsTurn x n s = record { rests = c.if-xfer-eq0.false; count = c.turn-count.ensures.model s k.config h k.is; some = c.if-count-eq0.false } in
    let moved : StandsFor c.move_frames.new.stream (stream_moved x n io s) = c.move_frames.ensures.stream s h (few x n s t) in
    let size : length (take n (drop x.moved (frames_by x.layout s io))) ≡ n = part-length c.args.member.now.stream s x io n c.requires.shape c.requires.count h c.turn-count.ensures.rest in
    let starts : starts_by x s ≡ true =
    starts-is x n io s c.starts-filled.result true t size (c.starts-filled.ensures (stream_moved x n io s) k.config moved (config-moved x n io s k.config k.is))
    (both x.writing c.starts-filled.result c.if-xfer.true c.if-filled.true) in
    step-starts x n s t.rests t.count t.some starts

pub returns-then-filled-clause-stream : goal.returns-then-filled-clause-stream
returns-then-filled-clause-stream g c s h =
    let x : Xfer = c.args.xfer.now in
    let n : ℕ = c.turn-count.result in
    let io : List ℕ = c.args.io.now in
    let k : HasConfig s = config_in c.args.member.now.stream s c.requires.shape h in
    let t : IsTurn x n s = record { rests = c.if-xfer-eq0.false; count = c.turn-count.ensures.model s k.config h k.is; some = c.if-count-eq0.false } in
    stands-for c.move_frames.new.stream (stream_moved x n io s) (stream_after x io s) (ap (λ i. stream_moved x i io s) t.count) (c.move_frames.ensures.stream s h (few x n s t))

pub returns-then-filled-clause-xfer : goal.returns-then-filled-clause-xfer
returns-then-filled-clause-xfer g c s h =
    let k : HasConfig s = config_in c.args.member.now.stream s c.requires.shape h in
    ap (λ i. xfer_moved c.args.xfer.now i) (c.turn-count.ensures.model s k.config h k.is)

pub returns-else-xfer-clause-step : goal.returns-else-xfer-clause-step
returns-else-xfer-clause-step g c s h =
    let x : Xfer = c.args.xfer.now in
    let n : ℕ = c.turn-count.result in
    let io : List ℕ = c.args.io.now in
    let k : HasConfig s = config_in c.args.member.now.stream s c.requires.shape h in
    let t : IsTurn x n s = record { rests = c.if-xfer-eq0.false; count = c.turn-count.ensures.model s k.config h k.is; some = c.if-count-eq0.false } in
    let moved : StandsFor c.move_frames.new.stream (stream_moved x n io s) = c.move_frames.ensures.stream s h (few x n s t) in
    let size : length (take n (drop x.moved (frames_by x.layout s io))) ≡ n = part-length c.args.member.now.stream s x io n c.requires.shape c.requires.count h c.turn-count.ensures.rest in
    let not : (x.writing && c.starts-filled.result) ≡ false = elim c.else-xfer.branch [
      | else-xfer-via-then-xfer+else-filled w ↦ neither-right x.writing c.starts-filled.result w.if-filled.false
      | else-xfer-via-else-xfer w ↦ neither-left x.writing c.starts-filled.result w.if-xfer.false
    ] in
    let starts : starts_by x s ≡ false =
    starts-is x n io s c.starts-filled.result false t size (c.starts-filled.ensures (stream_moved x n io s) k.config moved (config-moved x n io s k.config k.is)) not in
    step-moved x n s t.rests t.count t.some starts

pub returns-else-xfer-clause-stream : goal.returns-else-xfer-clause-stream
returns-else-xfer-clause-stream g c s h =
    let x : Xfer = c.args.xfer.now in
    let n : ℕ = c.turn-count.result in
    let io : List ℕ = c.args.io.now in
    let k : HasConfig s = config_in c.args.member.now.stream s c.requires.shape h in
    let t : IsTurn x n s = record { rests = c.if-xfer-eq0.false; count = c.turn-count.ensures.model s k.config h k.is; some = c.if-count-eq0.false } in
    stands-for c.move_frames.new.stream (stream_moved x n io s) (stream_after x io s) (ap (λ i. stream_moved x i io s) t.count) (c.move_frames.ensures.stream s h (few x n s t))

pub returns-else-xfer-clause-xfer : goal.returns-else-xfer-clause-xfer
returns-else-xfer-clause-xfer g c s h =
    let k : HasConfig s = config_in c.args.member.now.stream s c.requires.shape h in
    ap (λ i. xfer_moved c.args.xfer.now i) (c.turn-count.ensures.model s k.config h k.is)

pub returns-else-xfer-clause-frames : goal.returns-else-xfer-clause-frames
returns-else-xfer-clause-frames g c s h =
    let k : HasConfig s = config_in c.args.member.now.stream s c.requires.shape h in
    c.move_frames.ensures.frames s h ∙ ap (λ i. frames_moved c.args.xfer.now i c.args.io.now s) (c.turn-count.ensures.model s k.config h k.is)

pub returns-else-xfer-clause-bytes : goal.returns-else-xfer-clause-bytes
returns-else-xfer-clause-bytes g c s h =
    let k : HasConfig s = config_in c.args.member.now.stream s c.requires.shape h in
    bytes-moved c.args.xfer.now c.turn-count.result c.args.io.now c.move_frames.new.io s (c.turn-count.ensures.model s k.config h k.is) c.if-count-eq0.false (c.move_frames.ensures.bytes s h)

pub returns-then-xfer-eq0-clause-room : goal.returns-then-xfer-eq0-clause-room
returns-then-xfer-eq0-clause-room g c s h = room-of c.args.member.now.stream s c.requires.shape h

pub returns-then-count-eq0-clause-room : goal.returns-then-count-eq0-clause-room
returns-then-count-eq0-clause-room g c s h = room-of c.args.member.now.stream s c.requires.shape h

pub returns-then-filled-clause-room : goal.returns-then-filled-clause-room
returns-then-filled-clause-room g c s h = room-of c.args.member.now.stream s c.requires.shape h

pub returns-else-xfer-clause-room : goal.returns-else-xfer-clause-room
returns-else-xfer-clause-room g c s h = room-of c.args.member.now.stream s c.requires.shape h
