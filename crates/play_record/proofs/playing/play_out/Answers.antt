use Rattle.std.proofs.Common.{ℕ, ◌≡◌, ◌-◌, ◌+◌, ◌*◌, ◌/◌, ◌%◌, ◌<◌, ◌≤◌, ◌++◌, Bool, true, false, List, [], ◌∷◌, length, take, replicate, refl, sym, ap, ◌∙◌, subst, arith}
use Rattle.std.proofs.Math.Nat.{mod-add-div', mul_comm, mul-le-mul_right}
use Rattle.std.proofs.lemmas.List.{take_all}
use Rattle.std.specs.Prelude.{Result, Ok, Err, OnOk}
use Rattle.pcm_base.specs.declared.config.Config.{Config}
use Rattle.pcm_base.specs.declared.state.State.TheVariants.{Prepared, Running, Setup}
use Rattle.pcm_base.specs.model.Allowed.{frame_bytes_of}
use Rattle.pcm_base.specs.model.Frame.{bytes_of, frames_of}
use Rattle.pcm_base.specs.model.Stream.{Stream}
use Rattle.pcm_group.specs.Inside.{members_in}
use Rattle.wav_file.specs.Grammar.{CanWrite}
use Rattle.wav_file.specs.Recordings.{Recording, frame_bytes, recording}
use Rattle.play_record.specs.Devices.{HasTaken, IsAt}
use Rattle.play_record.specs.Sounds.{config_for, frame_count, played, played_bytes, silent_byte, whole_periods}
use Rattle.play_record.specs.Stages.{lone, plays}
use Rattle.play_record.proofs.Counts.{whole-least}
use Rattle.play_record.proofs.Frames.{bytes_of-frames_of}
use Rattle.play_record.proofs.Pieces.{length-padded_bytes, none_left}
use Rattle.play_record.proofs.playing.play_out.Goals as goal

-- the bytes that are played, by the configuration
bytes-are : (r : Recording) (n p count : ℕ) → count * n ≡ whole_periods n (frame_count r) → count * n * frame_bytes_of (config_for r n p) ≡ played_bytes n r
bytes-are r n p count whole =
    ap (λ x. x * frame_bytes_of (config_for r n p)) whole ∙ ap (λ x. whole_periods n (frame_count r) * x) (mul_comm _ r.channels)

-- the sound has no more bytes than are played
least : (r : Recording) (n : ℕ) → 1 ≤ n → frame_count r * frame_bytes r.format r.channels ≡ length r.frames → length r.frames ≤ played_bytes n r
least r n some whole =
    let more : frame_count r * frame_bytes r.format r.channels ≤ played_bytes n r = mul-le-mul_right (frame_bytes r.format r.channels) (whole-least n (frame_count r) some) in
    subst (λ x. x ≤ played_bytes n r) whole more

-- and so the frames that are played are so many
count-is : (r : Recording) (n p count : ℕ) → 1 ≤ n → frame_count r * frame_bytes r.format r.channels ≡ length r.frames → count * n ≡ whole_periods n (frame_count r)
    → length (played n r).frames ≡ count * n * frame_bytes_of (config_for r n p)
count-is r n p count some whole is = length-padded_bytes r.frames (played_bytes n r) (silent_byte r.format) (least r n some whole) ∙ sym (bytes-are r n p count is)

whole_of : (len w : ℕ) → len % w ≡ 0 → len / w * w ≡ len
whole_of len w h = let e : len % w + len / w * w ≡ len = mod-add-div' len w in omega (arith, e, h)

on_ok : {A E : Type 0} (P Q : Type 0) (r : Result A E) → (P → Q) → OnOk r P → OnOk r Q
on_ok P Q (Ok a) f h = f h
on_ok P Q (Err e) f h = h

pub returns-then-count-eq0-clause-ok : goal.returns-then-count-eq0-clause-ok
returns-then-count-eq0-clause-ok g c =
    let r : Recording = recording c.args.wav.now in
    let n : ℕ = c.args.shape.now.period in
    let p : ℕ = c.args.shape.now.periods in
    let w : ℕ = frame_bytes_of (config_for r n p) in
    let is = count-is r n p c.args.count c.requires.sized.some (whole_of (length r.frames) (frame_bytes r.format r.channels) c.requires.sound.whole) c.requires.whole in
    let no_frames : 0 * n ≡ 0 = omega arith in
    let no_bytes : 0 * w ≡ 0 = omega arith in
    let none : c.args.count * n * w ≡ 0 = ap (λ x. x * n * w) c.if-count-eq0.true ∙ (ap (λ x. x * w) no_frames ∙ no_bytes) in
    record {
      member = lone c.args.sub (plays (config_for r n p) (played n r).frames Prepared false 0 0 0);
      stands = c.requires.device.stands;
      taken = none_left (played n r).frames (is ∙ none);
    }

pub drain-requires-clause-device : goal.drain-requires-clause-device
drain-requires-clause-device g c =
    let r : Recording = recording c.args.wav.now in
    let n : ℕ = c.args.shape.now.period in
    let p : ℕ = c.args.shape.now.periods in
    let most : c.args.count * n * frame_bytes_of (config_for r n p) ≤ 67108864 = subst (λ x. x ≤ 67108864) (sym (bytes-are r n p c.args.count c.requires.whole)) c.requires.most in
    (config_for r n p, (played n r).frames, c.requires.sized, c.requires.shape, most, c.in_ok-write_all.ensures.ok)

pub returns-clause-ok : goal.returns-clause-ok
returns-clause-ok g c =
    let r : Recording = recording c.args.wav.now in
    let n : ℕ = c.args.shape.now.period in
    let p : ℕ = c.args.shape.now.periods in
    let h : Config = config_for r n p in
    let w : ℕ = frame_bytes_of h in
    let bytes : List ℕ = (played n r).frames in
    let u : ℕ = c.args.count * n in
    let s : Stream = plays h bytes Setup false u u u in
    let most : u * w ≤ 67108864 = subst (λ x. x ≤ 67108864) (sym (bytes-are r n p c.args.count c.requires.whole)) c.requires.most in
    let is : length bytes ≡ u * w = count-is r n p c.args.count c.requires.sized.some (whole_of (length r.frames) (frame_bytes r.format r.channels) c.requires.sound.whole) c.requires.whole in
    let all : bytes_of (frames_of u w bytes) ≡ bytes = bytes_of-frames_of u w bytes ∙ take_all (u * w) bytes (omega (arith, is)) in
    on_ok (IsAt c.args.sub s (members_in c.drain.new.group)) (HasTaken bytes (members_in c.drain.new.group)) c.drain.result
    (λ at. record { member = lone c.args.sub s; stands = at.stands; taken = all })
    (c.drain.ensures.ok h bytes c.requires.sized c.requires.shape most c.in_ok-write_all.ensures.ok)
