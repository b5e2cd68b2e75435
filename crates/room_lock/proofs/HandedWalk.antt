-- What an event whose bytes are taken or given whole tells of them, and whose bytes are whole frames.
use Rattle.std.proofs.Common.{◌≡◌, ◌≢◌, ℕ, zero, suc, ◌+◌, ◌*◌, ◌/◌, ◌%◌, Bool, true, false, cond, not, ◌&&◌, ◌||◌, nat_eq, nat_lt, List, [], ◌∷◌, ◌++◌, length, take, drop, if◌then◌else◌, refl, sym, ap, subst, ◌∙◌, arith}
use Rattle.std.proofs.Math.Seq.{take-add}
use Rattle.std.proofs.lemmas.Bool.Decides.{nat_tests}
use Rattle.std.proofs.lemmas.Nat.{div-add-mod'}
use Rattle.std.specs.declared.option.Option.{Option}
use Rattle.std.specs.declared.option.Option.TheVariants.{Some, None}
use Rattle.pcm_base.specs.declared.call.Call.{Call}
use Rattle.pcm_base.specs.declared.call.Call.TheVariants as call
use Rattle.pcm_base.specs.declared.call.Layout.{Layout}
use Rattle.pcm_base.specs.declared.call.Mode.{Mode}
use Rattle.pcm_base.specs.declared.ids.ClientId.{ClientId}
use Rattle.pcm_base.specs.declared.ids.SubId.{SubId}
use Rattle.pcm_base.specs.declared.reply.Reply.{Reply}
use Rattle.pcm_base.specs.declared.reply.Reply.TheVariants as reply
use Rattle.pcm_base.specs.declared.sleeper.Task.{Task}
use Rattle.pcm_base.specs.declared.sleeper.Task.TheVariants as task
use Rattle.pcm_base.specs.declared.state.Errno.{Errno}
use Rattle.pcm_base.specs.declared.state.Errno.TheVariants as errno
use Rattle.pcm_base.specs.model.Events.{event, go, go_call, go_task, hands, opens, program, waiting_of}
use Rattle.pcm_base.specs.model.Frame.{Frame, bytes_of, frames_of}
use Rattle.pcm_base.specs.model.Group.{group_step, stream_of}
use Rattle.pcm_base.specs.model.Program.{Answer, Program, Ends, Makes, fails, unless}
use Rattle.pcm_base.specs.model.Standing.{put_at, standing_at}
use Rattle.pcm_base.specs.model.Stream.{Member, Stream, is_bare, zero_frame}
use Rattle.pcm_base.specs.model.Transfer.{beq, fits, frames_in, is_whole, misfit, write}
use Rattle.pcm_base.specs.model.Words.{is_closed, is_playback, when, ◌then◌}
use Rattle.room_lock.specs.Moved.{Ever}
use Rattle.room_lock.specs.Told.{on_frames, on_ok}
use Rattle.room_lock.proofs.MovedWalk.{Idle, ever-answer, ever-if}

-- ---- the sizes of a transfer's bytes

abbrev pub SizesTask : Option Task → List ℕ → Stream → Answer → Type 0
SizesTask (Some (task.Transfer x wanted)) io s a = length a.frames ≢ 0 → length io ≡ (x.moved + x.rest) * s.setup.frame_bytes
SizesTask _ io s a = Unit {0}

abbrev pub Sizes : Call → ClientId → List ℕ → Stream → Answer → Type 0
Sizes (call.Write w m) c io s a = length a.frames ≢ 0 → length io % s.setup.frame_bytes ≡ 0
Sizes call.Go c io s a = SizesTask (waiting_of c s.sleepers) io s a
Sizes _ c io s a = Unit {0}

every : (P : Answer → Type 0) → ((a : Answer) → P a) → (p : Program) → Ever P p
every P h (Ends a s) = h a
every P h (Makes a s f) = λ o t. every P h (f o t)

-- what is not whole is refused
misfit_some : (a b d : Bool) → (e : Errno) × ((when a errno.Einval then (when b errno.Ebadfd then (when d errno.Einval then when true errno.Einval))) ≡ Some e)
misfit_some true b d = (errno.Einval, refl)
misfit_some false true d = (errno.Ebadfd, refl)
misfit_some false false true = (errno.Einval, refl)
misfit_some false false false = (errno.Einval, refl)

refused : (P : Answer → Type 0) (e : Errno) (o : Option Errno) (s : Stream) (p : Program) → Idle P → o ≡ Some e → Ever P (unless o s p)
refused P e o s p idle is = subst (λ (x : Option Errno). Ever P (unless x s p)) (sym is) (idle (reply.Err e))

sizes-write : (c : ClientId) (w : Layout) (m : Mode) (io : List ℕ) (s : Stream) → Ever (Sizes (call.Write w m) c io s) (write c w m io s)
sizes-write c w m io s = by (is_whole s io) refl
  where
    by : (b : Bool) → is_whole s io ≡ b → Ever (λ a. length a.frames ≢ 0 → length io % s.setup.frame_bytes ≡ 0) (write c w m io s)
    by true e = every (λ a. length a.frames ≢ 0 → length io % s.setup.frame_bytes ≡ 0) (λ a ne. let z : length io % s.setup.frame_bytes ≡ 0 = grind (arith, nat_tests, e) in z) (write c w m io s)
    by false e =
        let none = misfit_some (not (beq true (is_playback s.dir))) (is_bare s) (not (fits w s.setup.config)) in
        refused (λ a. length a.frames ≢ 0 → length io % s.setup.frame_bytes ≡ 0) none.0 (misfit s true w (is_whole s io)) s _ (λ r ne. absurd (ne refl)) (ap (λ (b : Bool). misfit s true w b) e ∙ none.1)

sizes-go : (c : ClientId) (io : List ℕ) (s : Stream) → Ever (Sizes call.Go c io s) (go c io s)
sizes-go c io s = by (waiting_of c s.sleepers)
  where
    by : (k : Option Task) → Ever (SizesTask k io s) (go_call k c io s)
    by None = tt
    by (Some (task.Transfer x wanted)) = one (nat_eq (length io) ((x.moved + x.rest) * s.setup.frame_bytes)) refl
      where
        one : (b : Bool) → nat_eq (length io) ((x.moved + x.rest) * s.setup.frame_bytes) ≡ b → Ever (SizesTask (Some (task.Transfer x wanted)) io s) (cond b (go_task c (task.Transfer x wanted) io s) (fails errno.Einval s))
        one true e = every (SizesTask (Some (task.Transfer x wanted)) io s) (λ a ne. let z : length io ≡ (x.moved + x.rest) * s.setup.frame_bytes = grind (arith, nat_tests, e) in z) (go_task c (task.Transfer x wanted) io s)
        one false e = λ ne. absurd (ne refl)
    by (Some task.Drain) = every (SizesTask (Some task.Drain) io s) (λ a. tt) _

idle-sizes : (e : Call) (c : ClientId) (io : List ℕ) (s : Stream) (r : Reply) → Sizes e c io s (record { reply = r; first = 0; frames = [] })
idle-sizes (call.Write w m) c io s r = λ ne. absurd (ne refl)
idle-sizes call.Go c io s r = by (waiting_of c s.sleepers)
  where
    by : (k : Option Task) → SizesTask k io s (record { reply = r; first = 0; frames = [] })
    by None = tt
    by (Some (task.Transfer x wanted)) = λ ne. absurd (ne refl)
    by (Some task.Drain) = tt
idle-sizes _ c io s r = tt

sizes-event : (e : Call) (c : ClientId) (l : Bool) (io : List ℕ) (s : Stream) → Ever (Sizes e c io s) (event e c l io s)
sizes-event (call.Write w m) c l io s = sizes-write c w m io s
sizes-event call.Go c l io s = sizes-go c io s
sizes-event e c l io s = every (λ a. Unit {0}) (λ a. tt) (event e c l io s)

pub step_sizes : (e : Call) (c : ClientId) (k : SubId) (io : List ℕ) (ms : List Member) → Sizes e c io (stream_of k ms) (group_step e c k io ms).answer
step_sizes e c k io ms =
    let s : Stream = stream_of k ms in
    let l : Bool = nat_lt 1 (length ms) in
    ever-answer (Sizes e c io s) (program e c l io s) k ms
    (ever-if (Sizes e c io s) (is_closed s.state && not (opens e)) (fails errno.Enxio s) (event e c l io s) (idle-sizes e c io s (reply.Err errno.Enxio)) (sizes-event e c l io s))

-- ---- bytes that are taken or given whole

abbrev pub IsLoaded : Reply → List Frame → List Frame → Type 0
IsLoaded (reply.Frames n) fs loaded = fs ≡ loaded
IsLoaded _ fs loaded = fs ≡ []

abbrev pub Handed : Call → List ℕ → Stream → Answer → Type 0
Handed (call.Store o) io s a = on_frames a.reply io ≡ bytes_of a.frames
Handed call.Give io s a = on_ok a.reply io ≡ bytes_of a.frames
Handed (call.Load o n) io s a = IsLoaded a.reply a.frames (standing_at s.puts s.setup.buffer o n (zero_frame s))
Handed _ io s a = Unit {0}

bytes-frames : (n w : ℕ) (xs : List ℕ) → bytes_of (frames_of n w xs) ≡ take (n * w) xs
bytes-frames zero w xs = let e : 0 ≡ 0 * w = omega arith in ap (λ (k : ℕ). take k xs) e
bytes-frames (suc n) w xs =
    let e : w + n * w ≡ suc n * w = omega arith in
    ap (λ (ys : List ℕ). take w xs ++ ys) (bytes-frames n w (drop w xs)) ∙ sym (take-add w (n * w) xs) ∙ ap (λ (k : ℕ). take k xs) e

take-all : (n : ℕ) (xs : List ℕ) → n ≡ length xs → take n xs ≡ xs
take-all zero [] e = refl
take-all zero (x ∷ xs) e = absurd (let no : ⊥ = omega (arith, e) in no)
take-all (suc n) [] e = absurd (let no : ⊥ = omega (arith, e) in no)
take-all (suc n) (x ∷ xs) e = ap (λ (l : List ℕ). x ∷ l) (take-all n xs (omega (arith, e)))

whole-bytes : (s : Stream) (io : List ℕ) → is_whole s io ≡ true → io ≡ bytes_of (frames_in s io)
whole-bytes s io h =
    let b : ℕ = s.setup.frame_bytes in
    let n : ℕ = length io / b in
    let z : length io % b ≡ 0 = grind (arith, nat_tests, h) in
    let whole = div-add-mod' (length io) b in
    let e : n * b ≡ length io = omega (arith, whole, z) in
    sym (bytes-frames n b io ∙ take-all (n * b) io e)

ever-when : (P : Answer → Type 0) (b : Bool) (e : Errno) (s : Stream) (p : Program) → ((d : Errno) → P (record { reply = reply.Err d; first = 0; frames = [] })) → (b ≡ false → Ever P p) → Ever P (unless (when b e) s p)
ever-when P true e s p idle h = idle e
ever-when P false e s p idle h = h refl

whole-fourth : (a b w d : Bool) → (a || b || not w || d) ≡ false → w ≡ true
whole-fourth true b w d h = absurd (let no : ⊥ = cc in no)
whole-fourth false true w d h = absurd (let no : ⊥ = cc in no)
whole-fourth false false true d h = refl
whole-fourth false false false d h = absurd (let no : ⊥ = cc in no)

whole-third : (a b w : Bool) → (a || b || not w) ≡ false → w ≡ true
whole-third true b w h = absurd (let no : ⊥ = cc in no)
whole-third false true w h = absurd (let no : ⊥ = cc in no)
whole-third false false true h = refl
whole-third false false false h = absurd (let no : ⊥ = cc in no)

idle-error : (e : Call) (io : List ℕ) (s : Stream) (d : Errno) → Handed e io s (record { reply = reply.Err d; first = 0; frames = [] })
idle-error (call.Store o) io s d = refl
idle-error (call.Load o n) io s d = refl
idle-error call.Give io s d = refl
idle-error _ io s d = tt

handed-event : (e : Call) (c : ClientId) (l : Bool) (io : List ℕ) (s : Stream) → Ever (Handed e io s) (event e c l io s)
handed-event (call.Store o) c l io s =
    let n : ℕ = length io / s.setup.frame_bytes in
    ever-when (Handed (call.Store o) io s) (not (is_playback s.dir) || nat_eq s.mappings 0 || not (is_whole s io) || nat_lt s.setup.buffer (o + n)) errno.Einval s
    (hands (reply.Frames n) (frames_in s io) (record s { puts = put_at o (frames_in s io) s.puts })) (λ d. refl)
    (λ h. whole-bytes s io (whole-fourth (not (is_playback s.dir)) (nat_eq s.mappings 0) (is_whole s io) (nat_lt s.setup.buffer (o + n)) h))
handed-event (call.Load o n) c l io s =
    ever-when (Handed (call.Load o n) io s) (nat_eq s.mappings 0 || nat_lt s.setup.buffer (o + n)) errno.Einval s (hands (reply.Frames n) (standing_at s.puts s.setup.buffer o n (zero_frame s)) s) (λ d. refl) (λ h. refl)
handed-event call.Give c l io s =
    ever-when (Handed call.Give io s) (is_bare s || is_playback s.dir || not (is_whole s io)) errno.Einval s (hands reply.Ok (frames_in s io) (record s { card = record s.card { to_give = frames_in s io } })) (λ d. refl)
    (λ h. whole-bytes s io (whole-third (is_bare s) (is_playback s.dir) (is_whole s io) h))
handed-event e c l io s = every (λ a. Unit {0}) (λ a. tt) (event e c l io s)

pub step_hands : (e : Call) (c : ClientId) (k : SubId) (io : List ℕ) (ms : List Member) → Handed e io (stream_of k ms) (group_step e c k io ms).answer
step_hands e c k io ms =
    let s : Stream = stream_of k ms in
    let l : Bool = nat_lt 1 (length ms) in
    ever-answer (Handed e io s) (program e c l io s) k ms
    (ever-if (Handed e io s) (is_closed s.state && not (opens e)) (fails errno.Enxio s) (event e c l io s) (idle-error e io s errno.Enxio) (handed-event e c l io s))
