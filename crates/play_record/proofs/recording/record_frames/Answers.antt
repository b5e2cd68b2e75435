use Rattle.std.proofs.Common.{ℕ, ◌≡◌, ◌≤◌, ◌<◌, ◌+◌, ◌-◌, ◌*◌, ◌/◌, ◌%◌, ◌^◌, ◌++◌, Bool, true, false, cond, nat_lt, List, [], length, take, drop, min, replicate, refl, sym, ap, ◌∙◌, subst, arith}
use Rattle.std.proofs.Math.Path.{ap₂}
use Rattle.std.proofs.Math.Nat.{mul_comm}
use Rattle.std.proofs.lemmas.Bool.Decides.{nat_tests}
use Rattle.std.proofs.lemmas.List.{length-take-le, take_at}
use Rattle.pcm_base.specs.declared.config.Config.{Config}
use Rattle.pcm_base.specs.declared.reply.Reply.TheVariants as reply
use Rattle.pcm_base.specs.declared.state.Dir.TheVariants.{Capture}
use Rattle.pcm_base.specs.declared.state.State.TheVariants.{Prepared, Running, Setup}
use Rattle.pcm_base.specs.model.Allowed.{frame_bytes_of}
use Rattle.pcm_base.specs.model.Events.{setup_of}
use Rattle.pcm_base.specs.model.Frame.{Frame, bytes_of, frames_of}
use Rattle.pcm_base.specs.model.Movement.{padded}
use Rattle.pcm_base.specs.model.Stream.{Stream}
use Rattle.pcm_group.specs.Inside.{members_in}
use Rattle.wav_file.specs.Recordings.{Recording, frame_bytes, recording}
use Rattle.play_record.specs.Devices.{HasMoved, IsAt}
use Rattle.play_record.specs.Sounds.{bytes_of_frames, config_for, recorded, shown_count}
use Rattle.play_record.specs.Stages.{IsSized, device_at, long_max, opened_with, records}
use Rattle.play_record.proofs.At.{opened-at}
use Rattle.play_record.proofs.PlayEvents.{plain}
use Rattle.play_record.proofs.Recorded.{min-whole, recorded-bytes}
use Rattle.play_record.proofs.Records.{none-recorded}
use Rattle.play_record.proofs.SetupEvents.{goes-prepare, goes-start}
use Rattle.play_record.proofs.recording.record_frames.Goals as goal

-- a count that is shown and is small is the count
shown_by : (b : Bool) (n x : ℕ) → x ≡ cond b n (2 ^ 64 - 1) → x ≤ 67108864 → x ≡ n
shown_by true n x is few = is
shown_by false n x is few = absurd (omega (arith, is, few))

shown : (n x : ℕ) → x ≡ shown_count n → x ≤ 67108864 → x ≡ n
shown n x is few = shown_by (nat_lt n (2 ^ 64)) n x is few

width_is : (r : Recording) (g : Config) → g ≡ config_for r 256 4 → frame_bytes_of g ≡ frame_bytes r.format r.channels
width_is r g e = ap frame_bytes_of e ∙ mul_comm _ r.channels

-- the bytes that are handed to the card are the first of the sound
front_is : (r : Recording) (n w size count len : ℕ) (bytes : List ℕ) → bytes ≡ r.frames → size ≡ n * w → len ≡ length r.frames → count ≡ min size len → take count bytes ≡ take (min (n * w) (length r.frames)) r.frames
front_is r n w size count len bytes same is long least = ap₂ take (least ∙ ap₂ min is long) same

front_whole : (r : Recording) (n w : ℕ) (s : List ℕ) → w ≡ frame_bytes r.format r.channels → length r.frames % frame_bytes r.format r.channels ≡ 0 → s ≡ take (min (n * w) (length r.frames)) r.frames → length s % w ≡ 0
front_whole r n w s wide whole is =
    let k : ℕ = min (n * w) (length r.frames) in
    let long : length s ≡ k = ap length is ∙ length-take-le k r.frames (omega arith) in
    ap (λ x. x % w) long ∙ min-whole n (length r.frames) w (ap (λ x. length r.frames % x) wide ∙ whole)

-- what is read of them
read_of : (r : Recording) (n w : ℕ) (s out : List ℕ) → w ≡ frame_bytes r.format r.channels → 1 ≤ w → length r.frames % frame_bytes r.format r.channels ≡ 0 → s ≡ take (min (n * w) (length r.frames)) r.frames
    → out ≡ bytes_of (padded n (frames_of (length s / w) w s) (replicate w 0)) → out ≡ (recorded n r).frames
read_of r n w s out wide some whole is read =
    read ∙ (ap (λ l. bytes_of (padded n (frames_of (length l / w) w l) (replicate w 0))) is
    ∙ (recorded-bytes n w r.frames some (ap (λ x. length r.frames % x) wide ∙ whole)
    ∙ ap (λ x. take (n * x) r.frames ++ replicate (n * x - length r.frames) 0) wide))

pub set_up-requires-clause-device : goal.set_up-requires-clause-device
set_up-requires-clause-device g c =
    (opened_with Capture c.requires.device.member.stream.puts, opened-at (members_in c.args.group.now) Capture c.substream-sub.result c.requires.device c.substream-sub.ensures)

pub give-requires : goal.give-requires
give-requires g c =
    let puts = c.requires.device.member.stream.puts in
    record {
      device = (
        device_at Capture (setup_of c.config_for-config.result long_max) Setup false 0 0 0 [] [] [],
        c.in_ok-set_up.ensures.ok Capture puts (opened-at (members_in c.args.group.now) Capture c.substream-sub.result c.requires.device c.substream-sub.ensures),
      );
    }

pub step-requires-clause-device : goal.step-requires-clause-device
step-requires-clause-device g c =
    let r : Recording = recording c.args.wav.now in
    let config : Config = c.config_for-config.result in
    let w : ℕ = frame_bytes_of config in
    let wide : w ≡ frame_bytes r.format r.channels = width_is r config c.config_for-config.ensures in
    let s : List ℕ = take c.min.result c.deref.result.now in
    let size : c.recorded_bytes-bytes.result ≡ c.args.frames * w = shown (bytes_of_frames c.args.frames r) c.recorded_bytes-bytes.result c.recorded_bytes-bytes.ensures c.if-bytes-gt-MOST_BYTES.false ∙ ap (λ x. c.args.frames * x) (sym wide) in
    let is : s ≡ take (min (c.args.frames * w) (length r.frames)) r.frames =
    front_is r c.args.frames w c.recorded_bytes-bytes.result c.min.result c.len.result c.deref.result.now c.deref.ensures.value size (c.len.ensures ∙ c.args.wav.now.frames.ok.0) c.min.ensures in
    let whole : length s % w ≡ 0 = front_whole r c.args.frames w s wide c.requires.sound.whole is in
    let puts = c.requires.device.member.stream.puts in
    let there = c.in_ok-set_up.ensures.ok Capture puts (opened-at (members_in c.args.group.now) Capture c.substream-sub.result c.requires.device c.substream-sub.ensures) in
    (device_at Capture (setup_of config long_max) Setup false 0 0 0 [] [] (frames_of (length s / w) w s), c.in_ok-give.ensures.ok config whole there)

pub step-requires-2-clause-device : goal.step-requires-2-clause-device
step-requires-2-clause-device g c =
    let r : Recording = recording c.args.wav.now in
    let k = c.substream-sub.result in
    let config : Config = c.config_for-config.result in
    let w : ℕ = frame_bytes_of config in
    let wide : w ≡ frame_bytes r.format r.channels = width_is r config c.config_for-config.ensures in
    let s : List ℕ = take c.min.result c.deref.result.now in
    let size : c.recorded_bytes-bytes.result ≡ c.args.frames * w = shown (bytes_of_frames c.args.frames r) c.recorded_bytes-bytes.result c.recorded_bytes-bytes.ensures c.if-bytes-gt-MOST_BYTES.false ∙ ap (λ x. c.args.frames * x) (sym wide) in
    let is : s ≡ take (min (c.args.frames * w) (length r.frames)) r.frames =
    front_is r c.args.frames w c.recorded_bytes-bytes.result c.min.result c.len.result c.deref.result.now c.deref.ensures.value size (c.len.ensures ∙ c.args.wav.now.frames.ok.0) c.min.ensures in
    let whole : length s % w ≡ 0 = front_whole r c.args.frames w s wide c.requires.sound.whole is in
    let puts = c.requires.device.member.stream.puts in
    let given : List Frame = frames_of (length s / w) w s in
    let at_setup : IsAt k (device_at Capture (setup_of config long_max) Setup false 0 0 0 [] [] given) (members_in c.give.new.group) =
    c.in_ok-give.ensures.ok config whole (c.in_ok-set_up.ensures.ok Capture puts (opened-at (members_in c.args.group.now) Capture k c.requires.device c.substream-sub.ensures)) in
    let at_prepared : IsAt k (device_at Capture (setup_of config long_max) Prepared false 0 0 0 [] [] given) (members_in c.step.new.group) =
    (c.step.ensures.goes (device_at Capture (setup_of config long_max) Setup false 0 0 0 [] [] given) (device_at Capture (setup_of config long_max) Prepared false 0 0 0 [] [] given) (plain reply.Ok) at_setup
    (goes-prepare (record { 0 = 0 }) [] Capture (setup_of config long_max) given) refl (λ e. absurd (let wants : false ≡ true = c.step.ensures.wants e in cc))).1 in
    (device_at Capture (setup_of config long_max) Prepared false 0 0 0 [] [] given, at_prepared)

pub record_all-requires-clause-device : goal.record_all-requires-clause-device
record_all-requires-clause-device g c =
    let r : Recording = recording c.args.wav.now in
    let k = c.substream-sub.result in
    let config : Config = c.config_for-config.result in
    let w : ℕ = frame_bytes_of config in
    let wide : w ≡ frame_bytes r.format r.channels = width_is r config c.config_for-config.ensures in
    let s : List ℕ = take c.min.result c.deref.result.now in
    let size : c.recorded_bytes-bytes.result ≡ c.args.frames * w = shown (bytes_of_frames c.args.frames r) c.recorded_bytes-bytes.result c.recorded_bytes-bytes.ensures c.if-bytes-gt-MOST_BYTES.false ∙ ap (λ x. c.args.frames * x) (sym wide) in
    let is : s ≡ take (min (c.args.frames * w) (length r.frames)) r.frames =
    front_is r c.args.frames w c.recorded_bytes-bytes.result c.min.result c.len.result c.deref.result.now c.deref.ensures.value size (c.len.ensures ∙ c.args.wav.now.frames.ok.0) c.min.ensures in
    let whole : length s % w ≡ 0 = front_whole r c.args.frames w s wide c.requires.sound.whole is in
    let puts = c.requires.device.member.stream.puts in
    let given : List Frame = frames_of (length s / w) w s in
    let at_setup : IsAt k (device_at Capture (setup_of config long_max) Setup false 0 0 0 [] [] given) (members_in c.give.new.group) =
    c.in_ok-give.ensures.ok config whole (c.in_ok-set_up.ensures.ok Capture puts (opened-at (members_in c.args.group.now) Capture k c.requires.device c.substream-sub.ensures)) in
    let at_prepared : IsAt k (device_at Capture (setup_of config long_max) Prepared false 0 0 0 [] [] given) (members_in c.step.new.group) =
    (c.step.ensures.goes (device_at Capture (setup_of config long_max) Setup false 0 0 0 [] [] given) (device_at Capture (setup_of config long_max) Prepared false 0 0 0 [] [] given) (plain reply.Ok) at_setup
    (goes-prepare (record { 0 = 0 }) [] Capture (setup_of config long_max) given) refl (λ e. absurd (let wants : false ≡ true = c.step.ensures.wants e in cc))).1 in
    let at_start : IsAt k (device_at Capture (setup_of config long_max) Running true 0 0 0 [] [] given) (members_in c.step-2.new.group) =
    (c.step-2.ensures.goes (device_at Capture (setup_of config long_max) Prepared false 0 0 0 [] [] given) (device_at Capture (setup_of config long_max) Running true 0 0 0 [] [] given) (plain reply.Ok) at_prepared
    (goes-start (record { 0 = 0 }) [] (setup_of config long_max) given) refl (λ e. absurd (let wants : false ≡ true = c.step-2.ensures.wants e in cc))).1 in
    let at : IsAt k (records config given Running true 0 0 0) (members_in c.step-2.new.group) = subst (λ t. IsAt k t (members_in c.step-2.new.group)) (none-recorded config given) at_start in
    let sized : IsSized config = c.in_ok-shape.ensures.sized (ap (λ x. x.access) c.config_for-config.ensures) in
    let period : config.period ≡ 256 = ap (λ x. x.period) c.config_for-config.ensures in
    let frame : c.in_ok-shape.shape.frame_bytes ≡ w = ap (λ x. x.frame_bytes) c.in_ok-shape.ensures.shape in
    (config, given, sized, period, frame, at)

pub returns-clause-recorded : goal.returns-clause-recorded
returns-clause-recorded g c =
    let r : Recording = recording c.args.wav.now in
    let k = c.substream-sub.result in
    let config : Config = c.config_for-config.result in
    let w : ℕ = frame_bytes_of config in
    let wide : w ≡ frame_bytes r.format r.channels = width_is r config c.config_for-config.ensures in
    let s : List ℕ = take c.min.result c.deref.result.now in
    let size : c.recorded_bytes-bytes.result ≡ c.args.frames * w = shown (bytes_of_frames c.args.frames r) c.recorded_bytes-bytes.result c.recorded_bytes-bytes.ensures c.if-bytes-gt-MOST_BYTES.false ∙ ap (λ x. c.args.frames * x) (sym wide) in
    let is : s ≡ take (min (c.args.frames * w) (length r.frames)) r.frames =
    front_is r c.args.frames w c.recorded_bytes-bytes.result c.min.result c.len.result c.deref.result.now c.deref.ensures.value size (c.len.ensures ∙ c.args.wav.now.frames.ok.0) c.min.ensures in
    let whole : length s % w ≡ 0 = front_whole r c.args.frames w s wide c.requires.sound.whole is in
    let puts = c.requires.device.member.stream.puts in
    let given : List Frame = frames_of (length s / w) w s in
    let at_setup : IsAt k (device_at Capture (setup_of config long_max) Setup false 0 0 0 [] [] given) (members_in c.give.new.group) =
    c.in_ok-give.ensures.ok config whole (c.in_ok-set_up.ensures.ok Capture puts (opened-at (members_in c.args.group.now) Capture k c.requires.device c.substream-sub.ensures)) in
    let at_prepared : IsAt k (device_at Capture (setup_of config long_max) Prepared false 0 0 0 [] [] given) (members_in c.step.new.group) =
    (c.step.ensures.goes (device_at Capture (setup_of config long_max) Setup false 0 0 0 [] [] given) (device_at Capture (setup_of config long_max) Prepared false 0 0 0 [] [] given) (plain reply.Ok) at_setup
    (goes-prepare (record { 0 = 0 }) [] Capture (setup_of config long_max) given) refl (λ e. absurd (let wants : false ≡ true = c.step.ensures.wants e in cc))).1 in
    let at_start : IsAt k (device_at Capture (setup_of config long_max) Running true 0 0 0 [] [] given) (members_in c.step-2.new.group) =
    (c.step-2.ensures.goes (device_at Capture (setup_of config long_max) Prepared false 0 0 0 [] [] given) (device_at Capture (setup_of config long_max) Running true 0 0 0 [] [] given) (plain reply.Ok) at_prepared
    (goes-start (record { 0 = 0 }) [] (setup_of config long_max) given) refl (λ e. absurd (let wants : false ≡ true = c.step-2.ensures.wants e in cc))).1 in
    let at : IsAt k (records config given Running true 0 0 0) (members_in c.step-2.new.group) = subst (λ t. IsAt k t (members_in c.step-2.new.group)) (none-recorded config given) at_start in
    let sized : IsSized config = c.in_ok-shape.ensures.sized (ap (λ x. x.access) c.config_for-config.ensures) in
    let period : config.period ≡ 256 = ap (λ x. x.period) c.config_for-config.ensures in
    let frame : c.in_ok-shape.shape.frame_bytes ≡ w = ap (λ x. x.frame_bytes) c.in_ok-shape.ensures.shape in
    let out : List ℕ = c.record_all.new.out in
    let read : out ≡ bytes_of (padded c.args.frames given (replicate w 0)) =
    subst (λ x. out ≡ bytes_of (padded c.args.frames given (replicate x 0))) frame (c.in_ok-record_all.ensures.ok config given sized period frame at).1 in
    let left : take c.in_ok-out.out.len (out ++ drop (length out) c.in_ok-out.out.items) ≡ out =
    take_at out (drop (length out) c.in_ok-out.out.items) c.in_ok-out.out.len (c.record_all.auto.out ∙ c.deref_mut.ensures.len) in
    ap (λ l. record r { frames = l }) (left ∙ read_of r c.args.frames w s out wide sized.sound.frame c.requires.sound.whole is read)

pub returns-clause-moved : goal.returns-clause-moved
returns-clause-moved g c =
    let r : Recording = recording c.args.wav.now in
    let k = c.substream-sub.result in
    let config : Config = c.config_for-config.result in
    let w : ℕ = frame_bytes_of config in
    let wide : w ≡ frame_bytes r.format r.channels = width_is r config c.config_for-config.ensures in
    let s : List ℕ = take c.min.result c.deref.result.now in
    let size : c.recorded_bytes-bytes.result ≡ c.args.frames * w = shown (bytes_of_frames c.args.frames r) c.recorded_bytes-bytes.result c.recorded_bytes-bytes.ensures c.if-bytes-gt-MOST_BYTES.false ∙ ap (λ x. c.args.frames * x) (sym wide) in
    let is : s ≡ take (min (c.args.frames * w) (length r.frames)) r.frames =
    front_is r c.args.frames w c.recorded_bytes-bytes.result c.min.result c.len.result c.deref.result.now c.deref.ensures.value size (c.len.ensures ∙ c.args.wav.now.frames.ok.0) c.min.ensures in
    let whole : length s % w ≡ 0 = front_whole r c.args.frames w s wide c.requires.sound.whole is in
    let puts = c.requires.device.member.stream.puts in
    let given : List Frame = frames_of (length s / w) w s in
    let at_setup : IsAt k (device_at Capture (setup_of config long_max) Setup false 0 0 0 [] [] given) (members_in c.give.new.group) =
    c.in_ok-give.ensures.ok config whole (c.in_ok-set_up.ensures.ok Capture puts (opened-at (members_in c.args.group.now) Capture k c.requires.device c.substream-sub.ensures)) in
    let at_prepared : IsAt k (device_at Capture (setup_of config long_max) Prepared false 0 0 0 [] [] given) (members_in c.step.new.group) =
    (c.step.ensures.goes (device_at Capture (setup_of config long_max) Setup false 0 0 0 [] [] given) (device_at Capture (setup_of config long_max) Prepared false 0 0 0 [] [] given) (plain reply.Ok) at_setup
    (goes-prepare (record { 0 = 0 }) [] Capture (setup_of config long_max) given) refl (λ e. absurd (let wants : false ≡ true = c.step.ensures.wants e in cc))).1 in
    let at_start : IsAt k (device_at Capture (setup_of config long_max) Running true 0 0 0 [] [] given) (members_in c.step-2.new.group) =
    (c.step-2.ensures.goes (device_at Capture (setup_of config long_max) Prepared false 0 0 0 [] [] given) (device_at Capture (setup_of config long_max) Running true 0 0 0 [] [] given) (plain reply.Ok) at_prepared
    (goes-start (record { 0 = 0 }) [] (setup_of config long_max) given) refl (λ e. absurd (let wants : false ≡ true = c.step-2.ensures.wants e in cc))).1 in
    let at : IsAt k (records config given Running true 0 0 0) (members_in c.step-2.new.group) = subst (λ t. IsAt k t (members_in c.step-2.new.group)) (none-recorded config given) at_start in
    let sized : IsSized config = c.in_ok-shape.ensures.sized (ap (λ x. x.access) c.config_for-config.ensures) in
    let period : config.period ≡ 256 = ap (λ x. x.period) c.config_for-config.ensures in
    let frame : c.in_ok-shape.shape.frame_bytes ≡ w = ap (λ x. x.frame_bytes) c.in_ok-shape.ensures.shape in
    (c.in_ok-record_all.ensures.ok config given sized period frame at).0
