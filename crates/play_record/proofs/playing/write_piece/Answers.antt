use Rattle.std.proofs.Common.{ℕ, ◌≡◌, ◌≤◌, ◌+◌, ◌*◌, ◌++◌, true, false, List, [], length, take, drop, replicate, refl, sym, ap, ◌∙◌, arith}
use Rattle.std.proofs.Math.Path.{ap₂}
use Rattle.std.proofs.Math.Nat.{mul_assoc}
use Rattle.pcm_base.specs.declared.format.Format.{Format}
use Rattle.pcm_base.specs.declared.format.Format.TheVariants as format
use Rattle.pcm_base.specs.declared.reply.Reply.TheVariants as reply
use Rattle.pcm_base.specs.declared.state.State.TheVariants.{Prepared, Running}
use Rattle.pcm_base.specs.model.Allowed.{frame_bytes_of}
use Rattle.pcm_base.specs.model.Frame.{frames_of}
use Rattle.pcm_base.specs.model.Program.{Answer}
use Rattle.pcm_format.specs.Samples.{silence_of_format}
use Rattle.play_record.specs.Sounds.{silent_byte}
use Rattle.play_record.specs.Stages.{plays}
use Rattle.play_record.proofs.PlayEvents.{RingLaws, WriteLaws}
use Rattle.play_record.proofs.Plays.{writes-first, writes-next}
use Rattle.play_record.proofs.playing.write_piece.Goals as goal

same_silence : (f : Format) → silence_of_format f ≡ silent_byte f
same_silence format.S8 = refl
same_silence format.U8 = refl
same_silence format.S16Le = refl
same_silence format.S16Be = refl
same_silence format.S24Le = refl
same_silence format.S32Le = refl
same_silence format.S32Be = refl
same_silence format.S24Le3 = refl

-- the piece, by its own number of frames
piece_at : (io frames from : List ℕ) (p n w number k s t : ℕ) → p ≡ n * w → from ≡ frames → s ≡ t → io ≡ take p (drop (number * p) (from ++ replicate k s)) → io ≡ take (n * w) (drop (number * n * w) (frames ++ replicate k t))
piece_at io frames from p n w number k s t size same silent is =
    let at : number * (n * w) ≡ number * n * w = sym (mul_assoc number n w) in
    is ∙ (ap (λ i. take i (drop (number * i) (from ++ replicate k s))) size
    ∙ (ap (λ i. take (n * w) (drop i (from ++ replicate k s))) at
    ∙ ap₂ (λ l x. take (n * w) (drop (number * n * w) (l ++ replicate k x))) same silent))

pub returns-clause-first : goal.returns-clause-first
returns-clause-first g c = λ h n k sized size some room zero inside at.
    let frames = c.args.wav.now.frames.items in
    let silent = silent_byte c.args.wav.now.format in
    let w = frame_bytes_of h in
    let io = c.fill_piece.new.piece in
    let bytes = frames ++ replicate k silent in
    let ring : RingLaws = record { puts_split = c.puts.ensures.split; runs_shown = c.runs.ensures.shown; runs_split = c.runs.ensures.split; runs_counted = c.runs.ensures.counted } in
    let writes : WriteLaws = record { starting = c.writes.ensures.starting; alone = c.plain_writes.ensures.alone; part = c.plain_writes.ensures.part; whole = c.plain_writes.ensures.whole } in
    let begins : c.args.number * length c.args.piece.now ≡ 0 = ap (λ i. i * length c.args.piece.now) zero ∙ omega arith in
    let long : length c.deref.result.now ≡ length frames = ap length c.deref.ensures.value in
    let filled = c.fill_piece.ensures k (omega (arith, begins, long, inside)) in
    let is : io ≡ take (n * w) (drop (c.args.number * n * w) bytes) =
    piece_at io frames c.deref.result.now (length c.args.piece.now) n w c.args.number k c.silence_of.result silent size c.deref.ensures.value (c.silence_of.ensures.value ∙ same_silence c.args.wav.now.format) filled in
    let none : c.args.number * n * w ≡ 0 * w = ap (λ i. i * n * w) zero ∙ ap (λ i. i * w) (omega arith) in
    let next : (length io ≡ n * w) × (io ≡ take (n * w) (drop (0 * w) bytes)) = (c.fill_piece.auto.piece ∙ size, is ∙ ap (λ i. take (n * w) (drop i bytes)) none) in
    let answer : Answer = record { reply = reply.Frames n; first = 0; frames = frames_of n w io } in
    (c.step.ensures.goes (plays h bytes Prepared false 0 0 0) (plays h bytes Running true 0 n 0) answer at (writes-first ring writes h sized bytes (record { 0 = 0 }) io n some room next) refl
    (λ e. absurd (let wants : false ≡ true = c.step.ensures.wants e in cc))).1

pub returns-clause-next : goal.returns-clause-next
returns-clause-next g c = λ h n k d sized size some more room inside at.
    let frames = c.args.wav.now.frames.items in
    let silent = silent_byte c.args.wav.now.format in
    let w = frame_bytes_of h in
    let io = c.fill_piece.new.piece in
    let bytes = frames ++ replicate k silent in
    let u = c.args.number * n in
    let ring : RingLaws = record { puts_split = c.puts.ensures.split; runs_shown = c.runs.ensures.shown; runs_split = c.runs.ensures.split; runs_counted = c.runs.ensures.counted } in
    let writes : WriteLaws = record { starting = c.writes.ensures.starting; alone = c.plain_writes.ensures.alone; part = c.plain_writes.ensures.part; whole = c.plain_writes.ensures.whole } in
    let long : length c.deref.result.now ≡ length frames = ap length c.deref.ensures.value in
    let filled = c.fill_piece.ensures k (omega (arith, long, inside)) in
    let is : io ≡ take (n * w) (drop (u * w) bytes) =
    piece_at io frames c.deref.result.now (length c.args.piece.now) n w c.args.number k c.silence_of.result silent size c.deref.ensures.value (c.silence_of.ensures.value ∙ same_silence c.args.wav.now.format) filled in
    let next : (length io ≡ n * w) × (io ≡ take (n * w) (drop (u * w) bytes)) = (c.fill_piece.auto.piece ∙ size, is) in
    let answer : Answer = record { reply = reply.Frames n; first = 0; frames = frames_of n w io } in
    (c.step.ensures.goes (plays h bytes Running true d u d) (plays h bytes Running true d (u + n) d) answer at (writes-next ring writes h sized bytes (record { 0 = 0 }) io u d n some more room next) refl
    (λ e. absurd (let wants : false ≡ true = c.step.ensures.wants e in cc))).1
