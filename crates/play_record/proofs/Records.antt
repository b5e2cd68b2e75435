-- A device that records, by its configuration.
use Rattle.std.proofs.Common.{ℕ, zero, suc, ◌≡◌, ◌≢◌, ◌+◌, ◌-◌, ◌*◌, ◌/◌, ◌<◌, ◌≤◌, Bool, true, false, cond, nat_eq, List, [], ◌∷◌, ◌++◌, length, take, drop, replicate, refl, sym, ap, ◌∙◌, subst, arith, mul-div_cancel, drop_of_length-le}
use Rattle.std.proofs.lemmas.Bool.Decides.{nat_tests}
use Rattle.pcm_base.specs.declared.act.Updated.TheVariants as updated
use Rattle.pcm_base.specs.declared.call.Call.TheVariants as call
use Rattle.pcm_base.specs.declared.call.Layout.TheVariants as layout
use Rattle.pcm_base.specs.declared.call.Mode.TheVariants as mode
use Rattle.pcm_base.specs.declared.config.Config.{Config}
use Rattle.pcm_base.specs.declared.ids.ClientId.{ClientId}
use Rattle.pcm_base.specs.declared.reply.Reply.TheVariants as reply
use Rattle.pcm_base.specs.declared.state.Dir.TheVariants as dir
use Rattle.pcm_base.specs.declared.state.State.TheVariants as state
use Rattle.pcm_base.specs.Boundary.{boundary_of}
use Rattle.pcm_base.specs.model.Allowed.{buffer_of, frame_bytes_of}
use Rattle.pcm_base.specs.model.Events.{program, setup_of}
use Rattle.pcm_base.specs.model.Frame.{Frame, bytes_of, frames_of}
use Rattle.pcm_base.specs.model.Movement.{padded}
use Rattle.pcm_base.specs.model.Standing.{put_at}
use Rattle.pcm_base.specs.model.Stream.{Stream}
use Rattle.play_record.specs.Stages.{IsSized, device_at, long_max, records}
use Rattle.play_record.specs.Steps.{CanMoveOn, GoesTo, moved_on}
use Rattle.play_record.proofs.Frames.{length-frames_of}
use Rattle.play_record.proofs.PlayEvents.{RingLaws}
use Rattle.play_record.proofs.Plays.{can, more-periods, sizes-of}
use Rattle.play_record.proofs.Quiet.{update-running}
use Rattle.play_record.proofs.RecordEvents.{ReadLaws, goes-read, moves-recording}

-- what can be read of a period that has come
some_free : (l c n b : ℕ) → n < b → l + (c + n) - (l + c) < b
some_free l c n b less = omega (arith, less)

rest_of : (n : ℕ) (b : ℕ) → n ≤ 256 → 256 < b → n + (256 - n) < b
rest_of n b few less = omega (arith, few, less)

short : (n : ℕ) → n ≤ 256 → n ≤ 1048576
short n few = omega (arith, few)

in_all : (c n : ℕ) → n ≤ 256 → c + (n + (256 - n)) ≡ c + 256
in_all c n few = omega (arith, few)

-- nothing is recorded yet
pub none-recorded : (g : Config) (given : List Frame) → device_at dir.Capture (setup_of g long_max) state.Running true 0 0 0 [] [] given ≡ records g given state.Running true 0 0 0
none-recorded g given =
    let none : 0 ≡ 0 - length given = omega arith in
    ap (λ i. device_at dir.Capture (setup_of g long_max) state.Running true 0 0 0 (put_at (setup_of g long_max).boundary (replicate i (replicate (setup_of g long_max).frame_bytes 0)) []) [] given) none

module _ (laws : RingLaws) (reads : ReadLaws) (g : Config) (sized : IsSized g) (period : g.period ≡ 256) (given : List Frame) where
  less : 256 < buffer_of g
  less = subst (λ x. x < buffer_of g) period (more-periods g sized)

  -- the card moves on by a period
  pub records-on : (c : ℕ) → CanMoveOn 256 (records g given state.Running true c c c) × (moved_on 256 (records g given state.Running true c c c) ≡ records g given state.Running true (c + 256) c (c + 256))
  records-on c =
      let w : ℕ = frame_bytes_of g in
      let b : ℕ = buffer_of g in
      let l : ℕ = boundary_of (buffer_of g) long_max in
      let v : Stream = records g given state.Running true c c (c + 256) in
      let t : Stream = records g given state.Running true (c + 256) c (c + 256) in
      can 256 (records g given state.Running true c c c) v _ (record { found = updated.Nothing; stream = t }) refl (moves-recording laws reads g sized.access w b l (sizes-of g sized) given c c 256 less) refl refl refl refl
      (update-running g w b l (sizes-of g sized) dir.Capture c c (c + 256) (put_at l (padded (c + 256) given (replicate w 0)) []) [] (drop (c + 256) given) (some_free l c 256 b less)) (λ e. absurd (cc)) refl

  -- the client reads n of the frames of the last period
  pub reads-next : (k : ClientId) (io : List ℕ) (c n : ℕ) → 1 ≤ n → n ≤ 256
      → GoesTo (program (call.Read layout.Interleaved mode.NonBlock n) k false io (records g given state.Running true (c + 256) c (c + 256)))
      (record { reply = reply.Frames n; first = 0; frames = padded n (drop c given) (replicate (frame_bytes_of g) 0) }) (records g given state.Running true (c + 256) (c + n) (c + 256))
  reads-next k io c n some few =
      subst (λ x. GoesTo (program (call.Read layout.Interleaved mode.NonBlock n) k false io (records g given state.Running true x c x))
      (record { reply = reply.Frames n; first = 0; frames = padded n (drop c given) (replicate (frame_bytes_of g) 0) }) (records g given state.Running true x (c + n) x)) (in_all c n few)
      (goes-read laws reads g sized.access (frame_bytes_of g) (buffer_of g) (boundary_of (buffer_of g) long_max) (sizes-of g sized) given k io c n (256 - n) some (short n few) (rest_of n (buffer_of g) few less))

append_none : (fs : List Frame) → fs ++ [] ≡ fs
append_none [] = refl
append_none (f ∷ fs) = ap (λ l. f ∷ l) (append_none fs)

-- what a read of all of its frames leaves in its bytes
pub read_bytes : (n w : ℕ) (io : List ℕ) (fs : List Frame) → 1 ≤ n → 1 ≤ w → length io ≡ n * w → length fs ≡ n
    → cond (nat_eq (length fs) 0) io (bytes_of (take 0 (frames_of (length io / w) w io) ++ (fs ++ drop (0 + length fs) (frames_of (length io / w) w io)))) ≡ bytes_of fs
read_bytes n w io fs some wide size count =
    let full : nat_eq (length fs) 0 ≡ false = grind (arith, nat_tests, some, count) in
    let frames : length io / w ≡ n = ap (λ i. i / w) size ∙ mul-div_cancel n (omega (arith, wide)) in
    let all : length (frames_of (length io / w) w io) ≡ n = length-frames_of (length io / w) w io ∙ frames in
    let none : drop (0 + length fs) (frames_of (length io / w) w io) ≡ [] = drop_of_length-le (frames_of (length io / w) w io) (omega (arith, all, count)) in
    ap (λ e. cond e io (bytes_of (take 0 (frames_of (length io / w) w io) ++ (fs ++ drop (0 + length fs) (frames_of (length io / w) w io))))) full
    ∙ (ap (λ l. bytes_of (fs ++ l)) none ∙ ap bytes_of (append_none fs))
