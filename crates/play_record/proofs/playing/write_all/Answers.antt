use Rattle.std.proofs.Common.{ℕ, ◌≡◌, ◌-◌, ◌+◌, ◌*◌, ◌/◌, ◌<◌, ◌≤◌, ◌++◌, Bool, true, false, cond, nat_lt, List, [], length, replicate, refl, sym, ap, ◌∙◌, subst, arith}
use Rattle.std.proofs.Math.Nat.{add-mul, div-mul-le_self, mul_assoc, mul_comm, mul-le-mul_right}
use Rattle.std.proofs.lemmas.Bool.Decides.{nat_tests}
use Rattle.pcm_base.specs.declared.config.Config.{Config}
use Rattle.pcm_base.specs.declared.state.State.TheVariants.{Prepared, Running}
use Rattle.pcm_base.specs.model.Allowed.{buffer_of, frame_bytes_of, shape_of}
use Rattle.pcm_base.specs.model.Stream.{Stream}
use Rattle.pcm_group.specs.Inside.{members_in}
use Rattle.wav_file.specs.Recordings.{Recording, frame_bytes, recording}
use Rattle.play_record.specs.Devices.{IsAt}
use Rattle.play_record.specs.Sounds.{config_for, frame_count, played, played_bytes, silent_byte, whole_periods}
use Rattle.play_record.specs.Stages.{IsSized, long_max, plays}
use Rattle.play_record.specs.Steps.{CanMoveOn, moved_on}
use Rattle.play_record.proofs.Counts.{reached, behind, none-played, room, whole-least, written-next}
use Rattle.play_record.proofs.Pieces.{lent_length, starts_inside}
use Rattle.play_record.proofs.PlayEvents.{RingLaws}
use Rattle.play_record.proofs.Plays.{more-periods, room-full}
use Rattle.play_record.proofs.playing.write_all.Goals as goal

-- the bytes that are played, by the configuration
bytes-are : (r : Recording) (n p count : ℕ) → count * n ≡ whole_periods n (frame_count r) → count * n * frame_bytes_of (config_for r n p) ≡ played_bytes n r
bytes-are r n p count whole =
    let g = config_for r n p in
    ap (λ x. x * frame_bytes_of g) whole ∙ ap (λ x. whole_periods n (frame_count r) * x) (mul_comm _ r.channels)

-- a piece of so many fits in what is played
fits : (count i n w most : ℕ) → i < count → count * n * w ≡ most → i * (n * w) + n * w ≤ most
fits count i n w most less is =
    let one : (i + 1) * (n * w) ≤ count * (n * w) = mul-le-mul_right (n * w) (omega (arith, less)) in
    omega (arith, one, written-next i (n * w), is, mul_assoc count n w)

-- a piece starts in the sound
begins : (r : Recording) (n p count i : ℕ) → i < count → count * n ≡ whole_periods n (frame_count r) → 1 ≤ n → i * (n * frame_bytes_of (config_for r n p)) ≤ length r.frames
begins r n p count i less whole some =
    let w : ℕ = frame_bytes_of (config_for r n p) in
    let same : w ≡ frame_bytes r.format r.channels = mul_comm _ r.channels in
    let first : i * n ≤ frame_count r = starts_inside count i (frame_count r) n less whole some in
    let bytes : i * n * w ≤ frame_count r * w = mul-le-mul_right w first in
    let all : frame_count r * frame_bytes r.format r.channels ≤ length r.frames = div-mul-le_self (length r.frames) (frame_bytes r.format r.channels) in
    let equal : frame_count r * w ≡ frame_count r * frame_bytes r.format r.channels = ap (λ x. frame_count r * x) same in
    omega (arith, bytes, all, equal, mul_assoc i n w)

-- what the bytes that are played have more than the sound
rest_of : (most len x : ℕ) → x ≤ most → x ≤ len + (most - len)
rest_of most len x h = omega (arith, h)

first_fits : (x most : ℕ) → 0 * x + x ≤ most → x ≤ most
first_fits x most h = omega (arith, h)

lower : {n b : ℕ} → n < b → n ≤ b
lower h = omega (arith, h)

-- the device after the card has made room
roomed : (b : Bool) (s t u : Stream) → (b ≡ true → s ≡ t) → (b ≡ false → u ≡ t) → cond b s u ≡ t
roomed true s t u e f = e refl
roomed false s t u e f = f refl

made_room : (laws : RingLaws) (h : Config) (sized : IsSized h) (bytes : List ℕ) (i count : ℕ) → i < count → count * h.period * frame_bytes_of h ≤ 67108864
    → cond (nat_lt i h.periods) (plays h bytes Running true ((i - h.periods) * h.period) (i * h.period) ((i - h.periods) * h.period)) (moved_on h.period (plays h bytes Running true ((i - h.periods) * h.period) (i * h.period) ((i - h.periods) * h.period)))
    ≡ plays h bytes Running true ((i + 1 - h.periods) * h.period) (i * h.period) ((i + 1 - h.periods) * h.period)
made_room laws h sized bytes i count less most =
    let s = plays h bytes Running true ((i - h.periods) * h.period) (i * h.period) ((i - h.periods) * h.period) in
    roomed (nat_lt i h.periods) s _ (moved_on h.period s)
    (λ e. let before : i < h.periods = grind (arith, nat_tests, e) in ap (λ c. plays h bytes Running true c (i * h.period) c) (none-played i h.periods h.period before))
    (λ e. let full : h.periods ≤ i = grind (arith, nat_tests, e) in (room-full laws h sized bytes i count full less most).1)

first_counts : (p n : ℕ) → 2 ≤ p → (0 ≡ (1 - p) * n) × (n ≡ 1 * n)
first_counts p n two =
    let none : 1 - p ≡ 0 = omega (arith, two) in
    let zero_n : 0 ≡ 0 * n = omega arith in
    (zero_n ∙ ap (λ x. x * n) (sym none), omega arith)

pub loop-written-init : goal.loop-written-init
loop-written-init g c =
    let r : Recording = recording c.args.wav.now in
    let n : ℕ = c.args.shape.now.period in
    let p : ℕ = c.args.shape.now.periods in
    let h : Config = config_for r n p in
    let w : ℕ = frame_bytes_of h in
    let sized : IsSized h = c.requires.sized in
    let frames : List ℕ = c.args.wav.now.frames.items in
    let most : ℕ = played_bytes n r in
    let k : ℕ = most - length frames in
    let bytes : List ℕ = (played n r).frames in
    let wide : c.args.shape.now.frame_bytes ≡ w = ap (λ s. s.frame_bytes) c.requires.shape in
    let size : length c.deref_mut.result.now ≡ n * w = c.deref_mut.ensures.len ∙ (c.in_ok-piece.ensures.len ∙ ap (λ x. n * x) wide) in
    let total : c.args.count * n * w ≡ most = bytes-are r n p c.args.count c.requires.whole in
    let one : 0 * (n * w) + n * w ≤ most = fits c.args.count 0 n w most c.requires.some total in
    let short : length c.deref_mut.result.now ≤ most = subst (λ x. x ≤ most) (sym size) (first_fits (n * w) most one) in
    let wrote : IsAt c.args.sub (plays h bytes Running true 0 n 0) (members_in c.write_piece.new.group) =
    c.write_piece.ensures.first h n k sized size sized.some (lower (more-periods h sized)) refl (rest_of most (length frames) (length c.deref_mut.result.now) short) c.requires.device in
    let counts : (0 ≡ (1 - p) * n) × (n ≡ 1 * n) = first_counts p n sized.two in
    let len : length c.write_piece.new.piece ≡ c.in_ok-piece.piece.len = c.write_piece.ensures.length ∙ c.deref_mut.ensures.len in (
      c.write_piece.ensures.numbers,
      lent_length c.in_ok-piece.piece.len c.write_piece.new.piece c.in_ok-piece.piece.items len (sym c.in_ok-piece.piece.ok.0) ∙ c.in_ok-piece.ensures.len,
      subst (λ x. IsAt c.args.sub (plays h bytes Running true x (1 * n) x) (members_in c.write_piece.new.group)) counts.0
          (subst (λ x. IsAt c.args.sub (plays h bytes Running true 0 x 0) (members_in c.write_piece.new.group)) counts.1 wrote),
    )

pub make_room-requires : goal.make_room-requires
make_room-requires g c =
    let r : Recording = recording c.args.wav.now in
    let n : ℕ = c.args.shape.now.period in
    let p : ℕ = c.args.shape.now.periods in
    let h : Config = config_for r n p in
    let i : ℕ = c.loop-written.written in
    let ring : RingLaws = record { puts_split = c.puts.ensures.split; runs_shown = c.runs.ensures.shown; runs_split = c.runs.ensures.split; runs_counted = c.runs.ensures.counted } in
    let most : c.args.count * n * frame_bytes_of h ≤ 67108864 = subst (λ x. x ≤ 67108864) (sym (bytes-are r n p c.args.count c.requires.whole)) c.requires.most in (
      plays h (played n r).frames Running true ((i - p) * n) (i * n) ((i - p) * n),
      c.loop-written.invariant.2,
      λ full. (room-full ring h c.requires.sized (played n r).frames i c.args.count full c.loop-written-test.true most).0,
    )

pub returns-in_err-make_room-clause-numbers : goal.returns-in_err-make_room-clause-numbers
returns-in_err-make_room-clause-numbers g c = c.make_room.ensures.numbers ∙ c.loop-written.invariant.0

pub write_piece-requires-in-loop-written-clause-device : goal.write_piece-requires-in-loop-written-clause-device
write_piece-requires-in-loop-written-clause-device g c =
    let r : Recording = recording c.args.wav.now in
    let n : ℕ = c.args.shape.now.period in
    let p : ℕ = c.args.shape.now.periods in
    let h : Config = config_for r n p in
    let i : ℕ = c.loop-written.written in
    let ring : RingLaws = record { puts_split = c.puts.ensures.split; runs_shown = c.runs.ensures.shown; runs_split = c.runs.ensures.split; runs_counted = c.runs.ensures.counted } in
    let most : c.args.count * n * frame_bytes_of h ≤ 67108864 = subst (λ x. x ≤ 67108864) (sym (bytes-are r n p c.args.count c.requires.whole)) c.requires.most in
    let s : Stream = plays h (played n r).frames Running true ((i - p) * n) (i * n) ((i - p) * n) in
    (cond (nat_lt i p) s (moved_on n s), c.in_ok-make_room.ensures.ok s c.loop-written.invariant.2 (λ full. (room-full ring h c.requires.sized (played n r).frames i c.args.count full c.loop-written-test.true most).0))

pub write_piece-requires-in-loop-written-clause-start : goal.write_piece-requires-in-loop-written-clause-start
write_piece-requires-in-loop-written-clause-start g c =
    let r : Recording = recording c.args.wav.now in
    let n : ℕ = c.args.shape.now.period in
    let p : ℕ = c.args.shape.now.periods in
    let w : ℕ = frame_bytes_of (config_for r n p) in
    let i : ℕ = c.loop-written.written in
    let wide : c.args.shape.now.frame_bytes ≡ w = ap (λ s. s.frame_bytes) c.requires.shape in
    let size : length c.deref_mut-in-loop-written.result.now ≡ n * w = ap length c.deref_mut-in-loop-written.ensures.value ∙ (c.loop-written.invariant.1 ∙ ap (λ x. n * x) wide) in
    subst (λ x. i * x ≤ length r.frames) (sym size) (begins r n p c.args.count i c.loop-written-test.true c.requires.whole c.requires.sized.some)

pub loop-written-preserved : goal.loop-written-preserved
loop-written-preserved g c =
    let r : Recording = recording c.args.wav.now in
    let n : ℕ = c.args.shape.now.period in
    let p : ℕ = c.args.shape.now.periods in
    let h : Config = config_for r n p in
    let w : ℕ = frame_bytes_of h in
    let i : ℕ = c.loop-written.written in
    let sized : IsSized h = c.requires.sized in
    let frames : List ℕ = c.args.wav.now.frames.items in
    let total : ℕ = played_bytes n r in
    let k : ℕ = total - length frames in
    let bytes : List ℕ = (played n r).frames in
    let ring : RingLaws = record { puts_split = c.puts.ensures.split; runs_shown = c.runs.ensures.shown; runs_split = c.runs.ensures.split; runs_counted = c.runs.ensures.counted } in
    let is : c.args.count * n * w ≡ total = bytes-are r n p c.args.count c.requires.whole in
    let most : c.args.count * n * w ≤ 67108864 = subst (λ x. x ≤ 67108864) (sym is) c.requires.most in
    let s : Stream = plays h bytes Running true ((i - p) * n) (i * n) ((i - p) * n) in
    let less : i < c.args.count = c.loop-written-test.true in
    let there : IsAt c.args.sub (cond (nat_lt i p) s (moved_on n s)) (members_in c.make_room.new.group) =
    c.in_ok-make_room.ensures.ok s c.loop-written.invariant.2 (λ full. (room-full ring h sized bytes i c.args.count full less most).0) in
    let cleared : IsAt c.args.sub (plays h bytes Running true ((i + 1 - p) * n) (i * n) ((i + 1 - p) * n)) (members_in c.make_room.new.group) =
    subst (λ t. IsAt c.args.sub t (members_in c.make_room.new.group)) (made_room ring h sized bytes i c.args.count less most) there in
    let wide : c.args.shape.now.frame_bytes ≡ w = ap (λ t. t.frame_bytes) c.requires.shape in
    let length_is : length c.deref_mut-in-loop-written.result.now ≡ c.args.shape.now.period * c.args.shape.now.frame_bytes = ap length c.deref_mut-in-loop-written.ensures.value ∙ c.loop-written.invariant.1 in
    let size : length c.deref_mut-in-loop-written.result.now ≡ n * w = length_is ∙ ap (λ x. n * x) wide in
    let fitting : i * length c.deref_mut-in-loop-written.result.now + length c.deref_mut-in-loop-written.result.now ≤ total =
    subst (λ x. i * x + x ≤ total) (sym size) (fits c.args.count i n w total less is) in
    let wrote : IsAt c.args.sub (plays h bytes Running true ((i + 1 - p) * n) (i * n + n) ((i + 1 - p) * n)) (members_in c.write_piece-in-loop-written.new.group) =
    c.write_piece-in-loop-written.ensures.next h n k ((i + 1 - p) * n) sized size sized.some (behind i p n c.loop-written.auto.written sized.two sized.some) (room i p n)
    (rest_of total (length frames) (i * length c.deref_mut-in-loop-written.result.now + length c.deref_mut-in-loop-written.result.now) fitting) cleared in
    let len : length c.write_piece-in-loop-written.new.piece ≡ c.loop-written.piece.len = c.write_piece-in-loop-written.ensures.length ∙ c.deref_mut-in-loop-written.ensures.len in (
      c.write_piece-in-loop-written.ensures.numbers ∙ (c.make_room.ensures.numbers ∙ c.loop-written.invariant.0),
      lent_length c.loop-written.piece.len c.write_piece-in-loop-written.new.piece c.loop-written.piece.items len (sym c.loop-written.piece.ok.0) ∙ (c.loop-written.piece.ok.0 ∙ c.loop-written.invariant.1),
      subst (λ x. IsAt c.args.sub (plays h bytes Running true ((i + 1 - p) * n) x ((i + 1 - p) * n)) (members_in c.write_piece-in-loop-written.new.group)) (written-next i n) wrote,
    )

pub returns-clause-numbers : goal.returns-clause-numbers
returns-clause-numbers g c = c.loop-written.invariant.0

pub returns-clause-ok : goal.returns-clause-ok
returns-clause-ok g c =
    let r : Recording = recording c.args.wav.now in
    let n : ℕ = c.args.shape.now.period in
    let p : ℕ = c.args.shape.now.periods in
    let same : c.loop-written.written ≡ c.args.count = reached c.loop-written.written c.args.count (c.loop-written.auto.written-end c.requires.some) c.loop-written-test.false in
    subst (λ i. IsAt c.args.sub (plays (config_for r n p) (played n r).frames Running true ((i - p) * n) (i * n) ((i - p) * n)) (members_in c.loop-written.group)) same c.loop-written.invariant.2
