use Rattle.std.proofs.Common.{ℕ, ◌≡◌, ◌≤◌, ◌<◌, ◌+◌, ◌-◌, ◌*◌, ◌/◌, false, true, List, [], ◌∷◌, refl, sym, ap, ◌∙◌, subst, arith, mul-div_cancel}
use Rattle.std.proofs.Math.Nat.{mul_assoc, mul_comm, mul-le-mul}
use Rattle.pcm_base.specs.declared.config.Config.{Config}
use Rattle.pcm_base.specs.declared.config.Shape.{Shape}
use Rattle.pcm_base.specs.declared.format.Access.TheVariants.{RwInterleaved}
use Rattle.pcm_base.specs.declared.reply.Reply.TheVariants as reply
use Rattle.pcm_base.specs.declared.state.Dir.TheVariants.{Playback}
use Rattle.pcm_base.specs.declared.state.State.TheVariants.{Prepared, Setup}
use Rattle.pcm_base.specs.model.Allowed.{frame_bytes_of, shape_of}
use Rattle.pcm_base.specs.model.Events.{setup_of}
use Rattle.pcm_base.specs.model.Stream.{Stream}
use Rattle.pcm_group.specs.Inside.{members_in}
use Rattle.wav_file.specs.Recordings.{Recording, frame_bytes, recording}
use Rattle.play_record.specs.Devices.{IsAt}
use Rattle.play_record.specs.Sounds.{config_for, frame_count, played, played_bytes, whole_periods}
use Rattle.play_record.specs.Stages.{IsSized, device_at, long_max, opened_with, plays}
use Rattle.play_record.proofs.At.{opened-at}
use Rattle.play_record.proofs.PlayEvents.{plain}
use Rattle.play_record.proofs.SetupEvents.{goes-prepare}
use Rattle.play_record.proofs.playing.play.Goals as goal

-- so many bytes are so many pieces, and those so many frames
whole_back : (n count w bytes : ℕ) → 1 ≤ n → 1 ≤ w → bytes ≡ count * n * w → bytes / (n * w) * n ≡ count * n
whole_back n count w bytes some wide is =
    let one : 1 * 1 ≤ n * w = mul-le-mul some wide in
    let pieces : bytes / (n * w) ≡ count = ap (λ x. x / (n * w)) (is ∙ mul_assoc count n w) ∙ mul-div_cancel count (omega (arith, one)) in
    ap (λ x. x * n) pieces

pieces_of : (r : Recording) (n p bytes : ℕ) → IsSized (config_for r n p) → bytes ≡ played_bytes n r → bytes / (n * frame_bytes_of (config_for r n p)) * n ≡ whole_periods n (frame_count r)
pieces_of r n p bytes sized is =
    let w : ℕ = frame_bytes_of (config_for r n p) in
    let same : frame_bytes r.format r.channels ≡ w = mul_comm r.channels _ in
    whole_back n ((frame_count r + (n - 1)) / n) w bytes sized.some sized.sound.frame (is ∙ ap (λ x. whole_periods n (frame_count r) * x) same)

-- the shape of the sound's configuration
shape_is : (r : Recording) (g : Config) (n p : ℕ) (s : Shape) → g ≡ config_for r n p → s ≡ shape_of g long_max → s ≡ shape_of (config_for r n p) long_max
shape_is r g n p s e h = h ∙ ap (λ x. shape_of x long_max) e

sized_is : (r : Recording) (g : Config) (n p : ℕ) → g ≡ config_for r n p → (g.access ≡ RwInterleaved → IsSized g) → IsSized (config_for r n p)
sized_is r g n p e h = subst IsSized e (h (ap (λ x. x.access) e))

-- what holds of its sizes
sized_as : (r : Recording) (n p : ℕ) (s : Shape) → s ≡ shape_of (config_for r n p) long_max → IsSized (config_for r n p) → IsSized (config_for r s.period s.periods)
sized_as r n p s e h = subst (λ t. IsSized (config_for r t.period t.periods)) (sym e) h

shape_as : (r : Recording) (n p : ℕ) (s : Shape) → s ≡ shape_of (config_for r n p) long_max → s ≡ shape_of (config_for r s.period s.periods) long_max
shape_as r n p s e = subst (λ t. t ≡ shape_of (config_for r t.period t.periods) long_max) (sym e) refl

pub set_up-requires-clause-device : goal.set_up-requires-clause-device
set_up-requires-clause-device g c =
    (opened_with Playback c.requires.device.member.stream.puts, opened-at (members_in c.args.group.now) Playback c.substream-sub.result c.requires.device c.substream-sub.ensures)

pub step-requires-clause-device : goal.step-requires-clause-device
step-requires-clause-device g c =
    let puts = c.requires.device.member.stream.puts in (
      device_at Playback (setup_of c.config_for-config.result long_max) Setup false 0 0 0 [] [] [],
      c.in_ok-set_up.ensures.ok Playback puts (opened-at (members_in c.args.group.now) Playback c.substream-sub.result c.requires.device c.substream-sub.ensures),
    )

pub nonzero_div-count : goal.nonzero_div-count
nonzero_div-count g c =
    let r : Recording = recording c.args.wav.now in
    let e = shape_is r c.config_for-config.result c.args.period c.args.periods c.in_ok-shape.shape c.config_for-config.ensures c.in_ok-shape.ensures.shape in
    let sized = sized_is r c.config_for-config.result c.args.period c.args.periods c.config_for-config.ensures c.in_ok-shape.ensures.sized in
    let one : 1 * 1 ≤ c.in_ok-shape.shape.period * c.in_ok-shape.shape.frame_bytes =
    mul-le-mul (subst (λ s. 1 ≤ s.period) (sym e) sized.some) (subst (λ s. 1 ≤ s.frame_bytes) (sym e) sized.sound.frame) in
    omega (arith, one)

pub play_out-requires-clause-sized : goal.play_out-requires-clause-sized
play_out-requires-clause-sized g c =
    let r : Recording = recording c.args.wav.now in
    let e = shape_is r c.config_for-config.result c.args.period c.args.periods c.in_ok-shape.shape c.config_for-config.ensures c.in_ok-shape.ensures.shape in
    sized_as r c.args.period c.args.periods c.in_ok-shape.shape e (sized_is r c.config_for-config.result c.args.period c.args.periods c.config_for-config.ensures c.in_ok-shape.ensures.sized)

pub play_out-requires-clause-shape : goal.play_out-requires-clause-shape
play_out-requires-clause-shape g c =
    let r : Recording = recording c.args.wav.now in
    let e = shape_is r c.config_for-config.result c.args.period c.args.periods c.in_ok-shape.shape c.config_for-config.ensures c.in_ok-shape.ensures.shape in
    shape_as r c.args.period c.args.periods c.in_ok-shape.shape e

pub play_out-requires-clause-whole : goal.play_out-requires-clause-whole
play_out-requires-clause-whole g c =
    let r : Recording = recording c.args.wav.now in
    let bytes : ℕ = c.played_bytes-bytes.result in
    let e = shape_is r c.config_for-config.result c.args.period c.args.periods c.in_ok-shape.shape c.config_for-config.ensures c.in_ok-shape.ensures.shape in
    let sized = sized_is r c.config_for-config.result c.args.period c.args.periods c.config_for-config.ensures c.in_ok-shape.ensures.sized in
    subst (λ s. bytes / (s.period * s.frame_bytes) * s.period ≡ whole_periods s.period (frame_count r)) (sym e) (pieces_of r c.args.period c.args.periods bytes sized c.played_bytes-bytes.ensures)

pub play_out-requires-clause-device : goal.play_out-requires-clause-device
play_out-requires-clause-device g c =
    let r : Recording = recording c.args.wav.now in
    let n : ℕ = c.args.period in
    let p : ℕ = c.args.periods in
    let k = c.substream-sub.result in
    let config : Config = c.config_for-config.result in
    let puts = c.requires.device.member.stream.puts in
    let e = shape_is r config n p c.in_ok-shape.shape c.config_for-config.ensures c.in_ok-shape.ensures.shape in
    let s : Stream = device_at Playback (setup_of config long_max) Setup false 0 0 0 [] [] [] in
    let t : Stream = device_at Playback (setup_of config long_max) Prepared false 0 0 0 [] [] [] in
    let there : IsAt k s (members_in c.set_up.new.group) = c.in_ok-set_up.ensures.ok Playback puts (opened-at (members_in c.args.group.now) Playback k c.requires.device c.substream-sub.ensures) in
    let prepared : IsAt k t (members_in c.step.new.group) =
    (c.step.ensures.goes s t (plain reply.Ok) there (goes-prepare (record { 0 = 0 }) [] Playback (setup_of config long_max) []) refl (λ w. absurd (let wants : false ≡ true = c.step.ensures.wants w in cc))).1 in
    subst (λ x. IsAt k (plays (config_for r x.period x.periods) (played x.period r).frames Prepared false 0 0 0) (members_in c.step.new.group)) (sym e)
    (subst (λ x. IsAt k (plays x (played n r).frames Prepared false 0 0 0) (members_in c.step.new.group)) c.config_for-config.ensures prepared)
