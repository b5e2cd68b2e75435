-- The turns of a transfer: each goes on with what rests, or halts.
use Rattle.std.proofs.Common.{◌≡◌, ◌≢◌, ℕ, ◌+◌, ◌-◌, ◌/◌, ◌<◌, ◌≤◌, Bool, true, false, cond, not, ◌&&◌, nat_eq, List, [], ◌++◌, length, take, drop, min, append-nil, append_assoc, refl, sym, ap, ◌∙◌, subst, arith}
use Rattle.std.proofs.lemmas.Bool.Decides.{nat_tests}
use Rattle.std.proofs.Math.Path.{ap₂}
use Rattle.std.proofs.lemmas.List.{drop-drop, drop_at, nil_from_length, length-append, length-drop, length-take, length-take-le, take-append-drop, take_at}
use Rattle.pcm_base.specs.declared.act.Act.TheVariants as act
use Rattle.pcm_base.specs.declared.call.Layout.{Layout}
use Rattle.pcm_base.specs.declared.call.Layout.TheVariants as layout
use Rattle.pcm_base.specs.declared.call.Mode.{Mode}
use Rattle.pcm_base.specs.declared.call.Mode.TheVariants as mode
use Rattle.pcm_base.specs.declared.card.Card.{Ghosts}
use Rattle.pcm_base.specs.declared.ids.ClientId.{ClientId}
use Rattle.pcm_base.specs.declared.reply.Reply.TheVariants as reply
use Rattle.pcm_base.specs.declared.sleeper.Xfer.{Xfer}
use Rattle.pcm_base.specs.declared.state.Errno.TheVariants as errno
use Rattle.pcm_base.specs.Shape.{count_of}
use Rattle.pcm_base.specs.declared.state.State.{State}
use Rattle.pcm_base.specs.model.Frame.{Frame, bytes_across, frames_of, planar_frames}
use Rattle.pcm_base.specs.model.PointerCalls.{on_by}
use Rattle.pcm_base.specs.model.Program.{Makes}
use Rattle.pcm_base.specs.model.Stream.{Setup, Stream, avail, zero_frame}
use Rattle.pcm_base.specs.model.Transfer.{after_start, channels_of, frames_by, is_filled, put_next, read_next, read_on, tells, write_on}
use Rattle.pcm_base.specs.model.Words.{is_draining, is_prepared}
use Rattle.pcm_base.specs.model.Replay.{bytes_by}
use Rattle.pcm_stream.specs.Buffer.{frames_read}
use Rattle.ring_memory.specs.Round.{over}
use Rattle.pcm_laws.specs.Turns.{turn}
use Rattle.pcm_laws.proofs.Puts.{length-standing_at}
use Rattle.pcm_stream.specs.declared.substream.Substream.{Substream}
use Rattle.pcm_stream.specs.StandsFor.{StandsFor, shape_in}
use Rattle.pcm_stream.specs.declared.runtime.Runtime.{Runtime}
use Rattle.pcm_stream.proofs.LayoutLemmas.{length-by}
use Rattle.std.specs.Option.{ForSome, option_map}
use Rattle.std.specs.Prelude.{IsSome}
use Rattle.std.specs.declared.option.Option.{Option}
use Rattle.std.specs.declared.option.Option.TheVariants.{Some, None}
use Rattle.xfer_loop.specs.Loop.{IsOnTheWay, read_after, write_after}
use Rattle.xfer_loop.specs.Turn.{IsStuck, bytes_after, bytes_moved, frames_after, step_of, stream_after, stuck_step, xfer_after, xfer_moved}
use Rattle.xfer_loop.specs.declared.XferStep.{XferStep}
use Rattle.xfer_loop.specs.declared.XferStep.TheVariants as step
use Rattle.xfer_loop.proofs.LoopLemmas.{reads-by_turns, writes-by_turns}
use Rattle.xfer_loop.proofs.TurnLemmas.{bytes-stay, none-test, some-test, step-none, stream-stays, xfer-stays}
use Rattle.pcm_group.specs.Transfers.{IsHalted, IsMovedInto, IsTurned, IsUnderWay, IsWait, bytes_with, going, going_by, halted}

-- ---- what a turn leaves

turned_by : (b : Bool) (n : ℕ) (fs : List Frame) (s : Stream) → IsTurned s (cond b (put_next fs s) (on_by n s))
turned_by true n fs s = record { dir = refl; setup = refl; state = refl; sleepers = refl }
turned_by false n fs s = record { dir = refl; setup = refl; state = refl; sleepers = refl }

turned_through : (s t u : Stream) → IsTurned s t → IsTurned t u → IsTurned s u
turned_through s t u h k = record { dir = k.dir ∙ h.dir; setup = k.setup ∙ h.setup; state = k.state ∙ h.state; sleepers = k.sleepers ∙ h.sleepers }

pub turned_itself : (s : Stream) → IsTurned s s
turned_itself s = record { dir = refl; setup = refl; state = refl; sleepers = refl }

-- the frames of the call's bytes, by what is set up
pub same_frames : (w : Layout) (s t : Stream) (io : List ℕ) → t.setup ≡ s.setup → frames_by w t io ≡ frames_by w s io
same_frames layout.Interleaved s t io e = ap (λ (u : Setup). frames_of (length io / u.frame_bytes) u.frame_bytes io) e
same_frames layout.Planar s t io e = ap (λ (u : Setup). planar_frames (length io / u.frame_bytes) (channels_of u.config) (u.frame_bytes / channels_of u.config) io) e

-- ---- the answer of a turn

stuck_moves_none : (x : Xfer) (s : Stream) (n : ℕ) → step.Moved n ≡ stuck_step x s → ⊥
stuck_moves_none x s n = by (not x.writing && is_draining s.state) x.mode
  where
    by : (b : Bool) (w : Mode) → step.Moved n ≡ cond b step.Drained (elim w as (λ _. XferStep) [ mode.NonBlock ↦ step.Refuse errno.Eagain | mode.Block ↦ step.Wait (min x.rest s.setup.sw.avail_min) ]) → ⊥
    by true w h = let no : ⊥ = cc in no
    by false mode.NonBlock h = let no : ⊥ = cc in no
    by false mode.Block h = let no : ⊥ = cc in no

stuck_starts_none : (x : Xfer) (s : Stream) → step.WantsStart ≡ stuck_step x s → ⊥
stuck_starts_none x s = by (not x.writing && is_draining s.state) x.mode
  where
    by : (b : Bool) (w : Mode) → step.WantsStart ≡ cond b step.Drained (elim w as (λ _. XferStep) [ mode.NonBlock ↦ step.Refuse errno.Eagain | mode.Block ↦ step.Wait (min x.rest s.setup.sw.avail_min) ]) → ⊥
    by true w h = let no : ⊥ = cc in no
    by false mode.NonBlock h = let no : ⊥ = cc in no
    by false mode.Block h = let no : ⊥ = cc in no

moved_by : (n : ℕ) (a b d : Bool) (u : XferStep) (k : ℕ) → a ≡ false → (step.Moved n ≡ u → ⊥) → step.Moved n ≡ cond a (step.Moved 0) (cond b u (cond d step.WantsStart (step.Moved k))) → n ≡ k
moved_by n true b d u k e not_it h = absurd (let never : ⊥ = cc in never)
moved_by n false true d u k e not_it h = absurd (not_it h)
moved_by n false false true u k e not_it h = absurd (let never : ⊥ = cc in never)
moved_by n false false false u k e not_it h = cc

moved_is : (x : Xfer) (s : Stream) (n : ℕ) → x.rest ≢ 0 → step.Moved n ≡ step_of x s → n ≡ turn x.rest s
moved_is x s n some h = moved_by n (nat_eq x.rest 0) (nat_eq (avail s) 0) (x.writing && (is_prepared s.state && is_filled s (turn x.rest s))) (stuck_step x s) (turn x.rest s) (some-test x.rest some) (stuck_moves_none x s n) h

reads_start_by : (a b d : Bool) (u : XferStep) (k : ℕ) → d ≡ false → (step.WantsStart ≡ u → ⊥) → step.WantsStart ≡ cond a (step.Moved 0) (cond b u (cond d step.WantsStart (step.Moved k))) → ⊥
reads_start_by true b d u k e not_it h = let never : ⊥ = cc in never
reads_start_by false true d u k e not_it h = not_it h
reads_start_by false false true u k e not_it h = let never : ⊥ = cc in never
reads_start_by false false false u k e not_it h = let never : ⊥ = cc in never

reads_start_none : (x : Xfer) (s : Stream) → x.writing ≡ false → step.WantsStart ≡ step_of x s → ⊥
reads_start_none x s e = reads_start_by (nat_eq x.rest 0) (nat_eq (avail s) 0) (x.writing && (is_prepared s.state && is_filled s (turn x.rest s))) (stuck_step x s) (turn x.rest s)
    (ap (λ (b : Bool). b && (is_prepared s.state && is_filled s (turn x.rest s))) e) (stuck_starts_none x s)

stuck_by : (a b d : Bool) (u : XferStep) (k : ℕ) → a ≡ false → IsStuck (cond a (step.Moved 0) (cond b u (cond d step.WantsStart (step.Moved k)))) → b ≡ true
stuck_by true b d u k e h = absurd (let never : ⊥ = cc in never)
stuck_by false true d u k e h = refl
stuck_by false false true u k e h = absurd h
stuck_by false false false u k e h = absurd h

stuck_none : (x : Xfer) (s : Stream) → x.rest ≢ 0 → IsStuck (step_of x s) → turn x.rest s ≡ 0
stuck_none x s some h =
    let test = stuck_by (nat_eq x.rest 0) (nat_eq (avail s) 0) (x.writing && (is_prepared s.state && is_filled s (turn x.rest s))) (stuck_step x s) (turn x.rest s) (some-test x.rest some) h in
    let full : avail s ≡ 0 = grind (arith, nat_tests, test) in
    omega (arith, full)

wait_by : (a b d : Bool) (u : XferStep) (k : ℕ) → IsWait (cond a (step.Moved 0) (cond b u (cond d step.WantsStart (step.Moved k)))) → IsWait u
wait_by true b d u k h = absurd h
wait_by false true d u k h = h
wait_by false false true u k h = absurd h
wait_by false false false u k h = absurd h

-- a call that waits is a blocking one
wait_blocks : (x : Xfer) (s : Stream) → IsWait (step_of x s) → x.mode ≡ mode.Block
wait_blocks x s h = by (not x.writing && is_draining s.state) x.mode (wait_by (nat_eq x.rest 0) (nat_eq (avail s) 0) (x.writing && (is_prepared s.state && is_filled s (turn x.rest s))) (stuck_step x s) (turn x.rest s) h)
  where
    by : (b : Bool) (w : Mode) → IsWait (cond b step.Drained (elim w as (λ _. XferStep) [ mode.NonBlock ↦ step.Refuse errno.Eagain | mode.Block ↦ step.Wait (min x.rest s.setup.sw.avail_min) ])) → w ≡ mode.Block
    by true w k = absurd k
    by false mode.NonBlock k = absurd k
    by false mode.Block k = refl

-- ---- one turn

-- the call, kept as y, makes a turn of this answer and is kept as z
pub record IsNext {C : Type 0} {g : Ghosts C} (y z : Xfer) (all : List Frame) (io now : List ℕ) (s : Stream) (p : XferStep) (sub : Substream C g) : Type 0 where
  pub rests : y.rest ≢ 0
  pub whole : length all ≡ y.moved + y.rest
  pub shown : frames_by y.layout s now ≡ frames_after y io s
  pub bytes : now ≡ bytes_after y io s
  pub answer : p ≡ step_of y s
  pub kept : z ≡ xfer_after y s
  pub stands : StandsFor sub (stream_after y io s)
  pub room : 0 < s.setup.buffer
  pub frames : y.writing ≡ true → all ≡ frames_by y.layout s io

-- the frames of a turn
abbrev part : Bool → Xfer → List Frame → Stream → List Frame
part b y all s = cond b (take (turn y.rest s) (drop y.moved all)) (read_next (turn y.rest s) s)

length-part : (b : Bool) (y : Xfer) (all : List Frame) (s : Stream) → y.writing ≡ b → (y.writing ≡ true → length all ≡ y.moved + y.rest) → length (part b y all s) ≡ turn y.rest s
length-part true y all s e sizes = omega (arith, sizes e, length-drop y.moved all, length-take (turn y.rest s) (drop y.moved all))
length-part false y all s e sizes = length-standing_at s.puts s.setup.buffer s.at.appl (turn y.rest s) (zero_frame s)

on_the_way : (x y : Xfer) (fs gs : List Frame) (n : ℕ) → length gs ≡ n → IsOnTheWay x y fs → IsOnTheWay x (xfer_moved y n) (fs ++ gs)
on_the_way x y fs gs n e h = record { writing = h.writing; mode = h.mode; moved = omega (arith, e, h.moved, length-append fs gs) }

module _ (c : ClientId) (x y : Xfer) (fs all : List Frame) (s : Stream) (io : List ℕ) (room : 0 < s.setup.buffer) (way : IsOnTheWay x y fs) (sizes : y.writing ≡ true → length all ≡ y.moved + y.rest)
    (frames : y.writing ≡ true → all ≡ frames_by y.layout s io) (rests : y.rest ≢ 0) where
  left_size : y.writing ≡ true → length (drop y.moved all) ≡ y.rest
  left_size e = omega (arith, sizes e, length-drop y.moved all)

  turn_moves : (n : ℕ) → step.Moved n ≡ step_of y s → going c x y fs all s ≡ going c x (xfer_after y s) (fs ++ part y.writing y all s) all (stream_after y io s)
  turn_moves n h = by y.writing refl
    where
      by : (b : Bool) → y.writing ≡ b → going_by b c x y fs all s ≡ going_by b c x (xfer_after y s) (fs ++ part b y all s) all (cond b (put_next (take (turn y.rest s) (drop y.moved (frames_by y.layout s io))) s) (on_by (turn y.rest s) s))
      by true e =
          let ws = drop y.moved all in
          let k = turn y.rest s in
          writes-by_turns c x y fs ws s room e way (left_size e) ∙ ap (write_after c x y fs ws s) (sym h)
          ∙ ap (λ (b : Bool). cond b (tells (reply.Frames y.moved) x fs s) (write_on c x (fs ++ take n ws) (drop n ws) (put_next (take n ws) s))) (some-test y.rest rests)
          ∙ ap (λ (m : ℕ). write_on c x (fs ++ take m ws) (drop m ws) (put_next (take m ws) s)) (moved_is y s n rests h)
          ∙ ap (λ (l : List Frame). write_on c x (fs ++ take k ws) l (put_next (take k ws) s)) (drop-drop k y.moved all)
          ∙ ap (λ (vs : List Frame). write_on c x (fs ++ take k ws) (drop (y.moved + k) all) (put_next (take k (drop y.moved vs)) s)) (frames e)
      by false e =
          reads-by_turns c x y fs s room e way ∙ ap (read_after c x y fs s) (sym h)
          ∙ ap (λ (b : Bool). cond b (tells (reply.Frames y.moved) x fs s) (read_on c x (fs ++ read_next n s) (y.rest - n) (on_by n s))) (some-test y.rest rests)
          ∙ ap (λ (m : ℕ). read_on c x (fs ++ read_next m s) (y.rest - m) (on_by m s)) (moved_is y s n rests h)

  turn_starts : step.WantsStart ≡ step_of y s → going c x y fs all s ≡ halted c x (xfer_after y s) (fs ++ part y.writing y all s) all (stream_after y io s) step.WantsStart
  turn_starts h = by y.writing refl
    where
      by : (b : Bool) → y.writing ≡ b → going_by b c x y fs all s
          ≡ Makes act.Start (cond b (put_next (take (turn y.rest s) (drop y.moved (frames_by y.layout s io))) s) (on_by (turn y.rest s) s)) (after_start c x (fs ++ part b y all s) (drop (y.moved + turn y.rest s) all))
      by true e =
          let ws = drop y.moved all in
          let k = turn y.rest s in
          writes-by_turns c x y fs ws s room e way (left_size e) ∙ ap (write_after c x y fs ws s) (sym h)
          ∙ ap (λ (l : List Frame). Makes act.Start (put_next (take k ws) s) (after_start c x (fs ++ take k ws) l)) (drop-drop k y.moved all)
          ∙ ap (λ (vs : List Frame). Makes act.Start (put_next (take k (drop y.moved vs)) s) (after_start c x (fs ++ take k ws) (drop (y.moved + k) all))) (frames e)
      by false e = absurd (reads_start_none y s e h)

  turn_stuck : (p : XferStep) → IsStuck p → p ≡ step_of y s → going c x y fs all s ≡ halted c x y fs all s p
  turn_stuck p stuck h = by y.writing refl
    where
      writes : (q : XferStep) → IsStuck q → write_after c x y fs (drop y.moved all) s q ≡ halted c x y fs all s q
      writes (step.Wait n) k = refl
      writes step.Drained k = refl
      writes (step.Refuse d) k = refl
      writes (step.Moved n) k = absurd k
      writes step.WantsStart k = absurd k

      reads : (q : XferStep) → IsStuck q → read_after c x y fs s q ≡ halted c x y fs all s q
      reads (step.Wait n) k = refl
      reads step.Drained k = refl
      reads (step.Refuse d) k = refl
      reads (step.Moved n) k = absurd k
      reads step.WantsStart k = absurd k

      by : (b : Bool) → y.writing ≡ b → going_by b c x y fs all s ≡ halted c x y fs all s p
      by true e = writes-by_turns c x y fs (drop y.moved all) s room e way (left_size e) ∙ ap (write_after c x y fs (drop y.moved all) s) (sym h) ∙ writes p stuck
      by false e = reads-by_turns c x y fs s room e way ∙ ap (read_after c x y fs s) (sym h) ∙ reads p stuck

-- a call that is whole
turn_ends : (c : ClientId) (x y : Xfer) (fs all : List Frame) (s : Stream) → 0 < s.setup.buffer → IsOnTheWay x y fs → (y.writing ≡ true → length all ≡ y.moved + y.rest) → y.rest ≡ 0 → going c x y fs all s ≡ halted c x y fs all s (step.Moved 0)
turn_ends c x y fs all s room way sizes none = by y.writing refl
  where
    by : (b : Bool) → y.writing ≡ b → going_by b c x y fs all s ≡ tells (reply.Frames y.moved) x fs s
    by true e =
        let ws = drop y.moved all in
        writes-by_turns c x y fs ws s room e way (omega (arith, sizes e, length-drop y.moved all)) ∙ ap (write_after c x y fs ws s) (sym (step-none y s none))
        ∙ ap (λ (b : Bool). cond b (tells (reply.Frames y.moved) x fs s) (write_on c x (fs ++ take 0 ws) (drop 0 ws) (put_next (take 0 ws) s))) (none-test y.rest none)
    by false e =
        reads-by_turns c x y fs s room e way ∙ ap (read_after c x y fs s) (sym (step-none y s none))
        ∙ ap (λ (b : Bool). cond b (tells (reply.Frames y.moved) x fs s) (read_on c x (fs ++ read_next 0 s) (y.rest - 0) (on_by 0 s))) (none-test y.rest none)

-- ---- the bytes of a read

over_twice : {A : Type 0} (m n : ℕ) (fs gs l : List A) → n ≡ m + length fs → m ≤ length l → over n gs (over m fs l) ≡ over m (fs ++ gs) l
over_twice {A = A} m n fs gs l e le =
    let a : List A = take m l in
    let d : List A = drop (m + length fs) l in
    let rest : List A = drop (m + length (fs ++ gs)) l in
    let size : length (a ++ fs) ≡ n = omega (arith, e, length-append a fs, length-take-le m l le) in
    let joined : over m fs l ≡ (a ++ fs) ++ d = sym (append_assoc a fs d) in
    let front : take n (over m fs l) ≡ a ++ fs = ap (take n) joined ∙ take_at (a ++ fs) d n size in
    let count : m + length fs + length gs ≡ m + length (fs ++ gs) = omega (arith, length-append fs gs) in
    let back : drop (n + length gs) (over m fs l) ≡ rest =
    ap (drop (n + length gs)) joined ∙ sym (drop-drop (length gs) n ((a ++ fs) ++ d)) ∙ ap (drop (length gs)) (drop_at (a ++ fs) d n size)
    ∙ drop-drop (length gs) (m + length fs) l ∙ ap (λ (i : ℕ). drop i l) count in
    ap₂ (λ (p q : List A). p ++ (gs ++ q)) front back ∙ append_assoc a fs (gs ++ rest) ∙ ap (λ (q : List A). a ++ q) (sym (append_assoc fs gs rest))

-- the bytes of these frames, by what is set up
pub same_bytes : (w : Layout) (s t : Stream) (fs : List Frame) → t.setup ≡ s.setup → bytes_by w t fs ≡ bytes_by w s fs
same_bytes layout.Interleaved s t fs e = refl
same_bytes layout.Planar s t fs e = ap (λ (u : Setup). bytes_across (channels_of u.config) (u.frame_bytes / channels_of u.config) fs) e

written_by : (b : Bool) (x : Xfer) (n : ℕ) (io : List ℕ) (s : Stream) → x.writing ≡ true → cond b io (bytes_moved x n io s) ≡ io
written_by true x n io s e = refl
written_by false x n io s e = ap (λ (w : Bool). cond w io (bytes_by x.layout s (frames_read x.layout s x.moved n io))) e

pub bytes_stay : (x : Xfer) (io : List ℕ) (s : Stream) → x.writing ≡ true → bytes_after x io s ≡ io
bytes_stay x io s e = written_by (nat_eq (turn x.rest s) 0) x (turn x.rest s) io s e

module _ (y z : Xfer) (fs gs : List Frame) (s t : Stream) (io mid now : List ℕ) (setup : t.setup ≡ s.setup) (writing : z.writing ≡ y.writing) (layout : z.layout ≡ y.layout) (count : z.moved ≡ y.moved + length fs)
    (room : y.moved ≤ length (frames_by y.layout s io)) (size : length gs ≡ turn z.rest t) (read : y.writing ≡ false → gs ≡ read_next (turn z.rest t) t) (u : IsMovedInto y fs s io mid)
    (shown : frames_by z.layout t now ≡ frames_after z mid t) (bytes : now ≡ bytes_after z mid t) where
  -- the frames that the read leaves
  read_over : y.writing ≡ false → frames_read z.layout t z.moved (turn z.rest t) mid ≡ over y.moved (fs ++ gs) (frames_by y.layout s io)
  read_over e =
      ap (λ (l : List Frame). over z.moved l (frames_by z.layout t mid)) (sym (read e))
      ∙ ap (λ (l : List Frame). over z.moved gs l) (same_frames z.layout s t mid setup ∙ ap (λ (w : Layout). frames_by w s mid) layout ∙ u.frames e)
      ∙ over_twice y.moved z.moved fs gs (frames_by y.layout s io) count room

  -- and its bytes
  read_bytes : (b : Bool) → nat_eq (turn z.rest t) 0 ≡ b → y.writing ≡ false → now ≡ cond b mid (bytes_by y.layout s (over y.moved (fs ++ gs) (frames_by y.layout s io)))
  read_bytes b test e =
      bytes ∙ ap (λ (d : Bool). cond d mid (bytes_moved z (turn z.rest t) mid t)) test
      ∙ ap (λ (d : Bool). cond b mid (cond d mid (bytes_by z.layout t (frames_read z.layout t z.moved (turn z.rest t) mid)))) (writing ∙ e)
      ∙ ap (λ (l : List Frame). cond b mid (bytes_by z.layout t l)) (read_over e)
      ∙ ap (λ (w : Layout). cond b mid (bytes_by w t (over y.moved (fs ++ gs) (frames_by y.layout s io)))) layout
      ∙ ap (λ (l : List ℕ). cond b mid l) (same_bytes y.layout s t (over y.moved (fs ++ gs) (frames_by y.layout s io)) setup)

  moved_into : IsMovedInto y (fs ++ gs) s io now
  moved_into = record {
    frames = λ e.
        ap (λ (w : Layout). frames_by w s now) (sym layout) ∙ sym (same_frames z.layout s t now setup) ∙ shown
        ∙ ap (λ (d : Bool). cond d (frames_by z.layout t mid) (frames_read z.layout t z.moved (turn z.rest t) mid)) (writing ∙ e) ∙ read_over e;
    bytes = by y.writing refl;
  }
    where
      reads : (b : Bool) → nat_eq (turn z.rest t) 0 ≡ b → y.writing ≡ false → now ≡ bytes_with false y.layout y.moved (fs ++ gs) s io
      reads true test e =
          let none : gs ≡ [] = nil_from_length gs (size ∙ grind (arith, nat_tests, test)) in
          read_bytes true test e ∙ u.bytes ∙ ap (λ (d : Bool). bytes_with d y.layout y.moved fs s io) e
          ∙ ap (λ (l : List Frame). bytes_with false y.layout y.moved l s io) (sym (append-nil fs) ∙ ap (λ (l : List Frame). fs ++ l) (sym none))
      reads false test e =
          let some : nat_eq (length (fs ++ gs)) 0 ≡ false = grind (arith, nat_tests, test, size, length-append fs gs) in
          read_bytes false test e ∙ sym (ap (λ (d : Bool). cond d io (bytes_by y.layout s (over y.moved (fs ++ gs) (frames_by y.layout s io)))) some)

      by : (b : Bool) → y.writing ≡ b → now ≡ bytes_with b y.layout y.moved (fs ++ gs) s io
      by true e = bytes ∙ bytes_stay z mid t (writing ∙ e) ∙ u.bytes ∙ ap (λ (d : Bool). bytes_with d y.layout y.moved fs s io) e
      by false e = reads (nat_eq (turn z.rest t) 0) refl e

none_into : (y : Xfer) (s : Stream) (io : List ℕ) → IsMovedInto y [] s io io
none_into y s io = record {
  frames = λ e. over_none y.moved (frames_by y.layout s io);
  bytes = by y.writing;
}
  where
    over_none : (m : ℕ) (fs : List Frame) → fs ≡ take m fs ++ ([] ++ drop (m + 0) fs)
    over_none m fs = let same : m ≡ m + 0 = omega arith in sym (take-append-drop m fs) ∙ ap (λ (i : ℕ). take m fs ++ drop i fs) same

    by : (b : Bool) → io ≡ bytes_with b y.layout y.moved [] s io
    by true = refl
    by false = refl

-- ---- turns in a row

-- before the first
pub begins : {C : Type 0} {g : Ghosts C} (c : ClientId) (x y : Xfer) (fs all : List Frame) (s : Stream) (io : List ℕ) (sub : Substream C g) → StandsFor sub s → IsOnTheWay x y fs → IsUnderWay c x y y fs all s io io sub
begins c x y fs all s io sub h way = record {
  left = s;
  moved = [];
  stands = h;
  turned = turned_itself s;
  way = subst (λ (l : List Frame). IsOnTheWay x y l) (sym (append-nil fs)) way;
  layout = refl;
  count = omega arith;
  into = none_into y s io;
  goes_on = ap (λ (l : List Frame). going c x y l all s) (sym (append-nil fs));
}

-- who writes goes on writing
same_way : (x y z : Xfer) (fs gs : List Frame) → IsOnTheWay x y fs → IsOnTheWay x z gs → z.writing ≡ y.writing
same_way x y z fs gs h k = sym k.writing ∙ h.writing

more_into : {C : Type 0} {g : Ghosts C} (c : ClientId) (x y z w : Xfer) (fs all : List Frame) (s : Stream) (io mid now : List ℕ) (p : XferStep) (sub next : Substream C g) → (u : IsUnderWay c x y z fs all s io mid sub) → IsOnTheWay x y fs
    → all ≡ frames_by y.layout s io → IsNext z w all mid now u.left p next → IsMovedInto y (u.moved ++ part z.writing z all u.left) s io now
more_into c x y z w fs all s io mid now p sub next u way is h =
    let t = u.left in
    let same : z.writing ≡ y.writing = same_way x y z fs (fs ++ u.moved) way u.way in
    let room : y.moved ≤ length (frames_by y.layout s io) = omega (arith, ap (λ (l : List Frame). length l) is, h.whole, u.count) in
    moved_into y z u.moved (part z.writing z all t) s t io mid now u.turned.setup same u.layout u.count room (length-part z.writing z all t refl (λ e. h.whole))
    (λ e. ap (λ (b : Bool). part b z all t) (same ∙ e)) u.into h.shown h.bytes

more_count : (y z : Xfer) (fs gs : List Frame) (n : ℕ) → z.moved ≡ y.moved + length fs → length gs ≡ n → z.moved + n ≡ y.moved + length (fs ++ gs)
more_count y z fs gs n e size = omega (arith, e, size, length-append fs gs)

pub goes_on_by : {C : Type 0} {g : Ghosts C} (c : ClientId) (x y z w : Xfer) (fs all : List Frame) (s : Stream) (io mid now : List ℕ) (n : ℕ) (sub next : Substream C g) → (u : IsUnderWay c x y z fs all s io mid sub) → IsOnTheWay x y fs
    → all ≡ frames_by y.layout s io → IsNext z w all mid now u.left (step.Moved n) next → IsUnderWay c x y w fs all s io now next
goes_on_by c x y z w fs all s io mid now n sub next u first is h =
    let t = u.left in
    let gs = part z.writing z all t in
    let size = length-part z.writing z all t refl (λ e. h.whole) in
    let more : (fs ++ u.moved) ++ gs ≡ fs ++ (u.moved ++ gs) = append_assoc fs u.moved gs in
    let way = on_the_way x z (fs ++ u.moved) gs (turn z.rest t) size u.way in
    record {
      left = stream_after z mid t;
      moved = u.moved ++ gs;
      stands = h.stands;
      turned = turned_through s t (stream_after z mid t) u.turned (turned_by z.writing (turn z.rest t) (take (turn z.rest t) (drop z.moved (frames_by z.layout t mid))) t);
      way = subst (λ (k : Xfer). IsOnTheWay x k (fs ++ (u.moved ++ gs))) (sym h.kept) (subst (λ (l : List Frame). IsOnTheWay x (xfer_after z t) l) more way);
      layout = ap (λ (k : Xfer). k.layout) h.kept ∙ u.layout;
      count = ap (λ (k : Xfer). k.moved) h.kept ∙ more_count y z u.moved gs (turn z.rest t) u.count size;
      into = more_into c x y z w fs all s io mid now (step.Moved n) sub next u first is h;
      goes_on = u.goes_on ∙ turn_moves c x z (fs ++ u.moved) all t mid h.room u.way (λ e. h.whole) h.frames h.rests n h.answer
          ∙ ap (λ (l : List Frame). going c x (xfer_after z t) l all (stream_after z mid t)) more ∙ sym (ap (λ (k : Xfer). going c x k (fs ++ (u.moved ++ gs)) all (stream_after z mid t)) h.kept);
    }

-- a turn that wants a start is a write that finds the stream PREPARED
wanting : (x : Xfer) (s : Stream) → step.WantsStart ≡ step_of x s → (x.writing ≡ true) × (is_prepared s.state ≡ true)
wanting x s h = by x.writing (is_prepared s.state) refl refl
  where
    by : (b d : Bool) → x.writing ≡ b → is_prepared s.state ≡ d → (b ≡ true) × (d ≡ true)
    by false d e f = absurd (reads_start_none x s e h)
    by true true e f = (refl, refl)
    by true false e f = absurd (reads_start_by (nat_eq x.rest 0) (nat_eq (avail s) 0) (x.writing && (is_prepared s.state && is_filled s (turn x.rest s))) (stuck_step x s) (turn x.rest s)
        (ap₂ (λ (v w : Bool). v && (w && is_filled s (turn x.rest s))) e f) (stuck_starts_none x s) h)

pub starts_by_turn : {C : Type 0} {g : Ghosts C} (c : ClientId) (x y z w : Xfer) (fs all : List Frame) (s : Stream) (io mid now : List ℕ) (sub next : Substream C g) → (u : IsUnderWay c x y z fs all s io mid sub) → IsOnTheWay x y fs
    → all ≡ frames_by y.layout s io → IsNext z w all mid now u.left step.WantsStart next → IsHalted c x y w fs all s io now step.WantsStart next
starts_by_turn c x y z w fs all s io mid now sub next u first is h =
    let t = u.left in
    let gs = part z.writing z all t in
    let more : (fs ++ u.moved) ++ gs ≡ fs ++ (u.moved ++ gs) = append_assoc fs u.moved gs in
    let way = on_the_way x z (fs ++ u.moved) gs (turn z.rest t) (length-part z.writing z all t refl (λ e. h.whole)) u.way in
    let wants = wanting z t h.answer in
    record {
      left = stream_after z mid t;
      moved = u.moved ++ gs;
      stands = h.stands;
      turned = turned_through s t (stream_after z mid t) u.turned (turned_by z.writing (turn z.rest t) (take (turn z.rest t) (drop z.moved (frames_by z.layout t mid))) t);
      way = subst (λ (k : Xfer). IsOnTheWay x k (fs ++ (u.moved ++ gs))) (sym h.kept) (subst (λ (l : List Frame). IsOnTheWay x (xfer_after z t) l) more way);
      layout = ap (λ (k : Xfer). k.layout) h.kept ∙ u.layout;
      into = more_into c x y z w fs all s io mid now step.WantsStart sub next u first is h;
      waits = λ k. absurd k;
      starts = λ e. (ap (λ (k : Xfer). k.writing) h.kept ∙ wants.0, ap (λ (v : State). is_prepared v) (sym u.turned.state) ∙ wants.1);
      goes_on = u.goes_on ∙ turn_starts c x z (fs ++ u.moved) all t mid h.room u.way (λ e. h.whole) h.frames h.rests h.answer
          ∙ ap (λ (l : List Frame). halted c x (xfer_after z t) l all (stream_after z mid t) step.WantsStart) more ∙ sym (ap (λ (k : Xfer). halted c x k (fs ++ (u.moved ++ gs)) all (stream_after z mid t) step.WantsStart) h.kept);
    }

no_start : (p : XferStep) → IsStuck p → p ≡ step.WantsStart → ⊥
no_start (step.Wait n) k e = let no : ⊥ = cc in no
no_start step.Drained k e = let no : ⊥ = cc in no
no_start (step.Refuse d) k e = let no : ⊥ = cc in no
no_start (step.Moved n) k e = k
no_start step.WantsStart k e = k

pub stuck_by_turn : {C : Type 0} {g : Ghosts C} (c : ClientId) (x y z w : Xfer) (fs all : List Frame) (s : Stream) (io mid now : List ℕ) (p : XferStep) (sub next : Substream C g) → (u : IsUnderWay c x y z fs all s io mid sub)
    → IsStuck p → IsNext z w all mid now u.left p next → IsHalted c x y w fs all s io now p next
stuck_by_turn c x y z w fs all s io mid now p sub next u stuck h =
    let t = u.left in
    let none : turn z.rest t ≡ 0 = stuck_none z t h.rests (subst IsStuck h.answer stuck) in
    let same : w ≡ z = h.kept ∙ sym (xfer-stays z (turn z.rest t) none) in
    let stays : now ≡ mid = h.bytes ∙ sym (bytes-stay z mid t none) in
    record {
      left = t;
      moved = u.moved;
      stands = subst (λ (x' : Stream). StandsFor next x') (sym (stream-stays z (turn z.rest t) mid t none)) h.stands;
      turned = u.turned;
      way = subst (λ (k : Xfer). IsOnTheWay x k (fs ++ u.moved)) (sym same) u.way;
      layout = ap (λ (k : Xfer). k.layout) same ∙ u.layout;
      into = subst (λ (l : List ℕ). IsMovedInto y u.moved s io l) (sym stays) u.into;
      waits = λ k. (ap (λ (v : Xfer). v.mode) same ∙ wait_blocks z t (subst IsWait h.answer k), λ e. h.rests (sym (ap (λ (v : Xfer). v.rest) same) ∙ e));
      starts = λ e. absurd (no_start p stuck e);
      goes_on = u.goes_on ∙ turn_stuck c x z (fs ++ u.moved) all t mid h.room u.way (λ e. h.whole) h.frames h.rests p stuck h.answer ∙ sym (ap (λ (k : Xfer). halted c x k (fs ++ u.moved) all t p) same);
    }

pub whole_by : {C : Type 0} {g : Ghosts C} (c : ClientId) (x y z : Xfer) (fs all : List Frame) (s : Stream) (io now : List ℕ) (sub : Substream C g) → (u : IsUnderWay c x y z fs all s io now sub)
    → 0 < u.left.setup.buffer → length all ≡ z.moved + z.rest → z.rest ≡ 0 → IsHalted c x y z fs all s io now (step.Moved 0) sub
whole_by c x y z fs all s io now sub u room whole none = record {
  left = u.left;
  moved = u.moved;
  stands = u.stands;
  turned = u.turned;
  way = u.way;
  layout = u.layout;
  into = u.into;
  waits = λ k. absurd k;
  starts = λ e. absurd (let no : ⊥ = cc in no);
  goes_on = u.goes_on ∙ turn_ends c x z (fs ++ u.moved) all u.left room u.way (λ e. whole) none;
}

-- ---- the bytes of the call

pub all_size : {C : Type 0} {g : Ghosts C} (sub : Substream C g) (s : Stream) (x : Xfer) (io : List ℕ) → IsSome (shape_in sub) → ForSome (shape_in sub) (λ shape. count_of shape io ≡ x.moved + x.rest)
    → StandsFor sub s → length (frames_by x.layout s io) ≡ x.moved + x.rest
all_size sub s x io k count h = by sub.runtime refl k
  where
    by : (o : Option Runtime) → sub.runtime ≡ o → IsSome (option_map (λ r. r.shape) o) → length (frames_by x.layout s io) ≡ x.moved + x.rest
    by (Some r) e q =
        length-by x.layout s io ∙ ap (λ (b : ℕ). length io / b) (h.shows.runs_for r e).setup.frame_bytes ∙ count r.shape (ap (option_map (λ (y : Runtime). y.shape)) e)
    by None e q = absurd (cc)

pub itself : (x : Xfer) → IsOnTheWay x x []
itself x = record { writing = refl; mode = refl; moved = omega arith }

-- a turn that is the last
pub last_by_turn : {C : Type 0} {g : Ghosts C} (c : ClientId) (x y z w : Xfer) (fs all : List Frame) (s : Stream) (io mid now : List ℕ) (p : XferStep) (sub next : Substream C g) → (u : IsUnderWay c x y z fs all s io mid sub) → IsOnTheWay x y fs
    → all ≡ frames_by y.layout s io → ((n : ℕ) → p ≡ step.Moved n → ⊥) → IsNext z w all mid now u.left p next → IsHalted c x y w fs all s io now p next
last_by_turn c x y z w fs all s io mid now (step.Moved n) sub next u first is never_is h = absurd (never_is n refl)
last_by_turn c x y z w fs all s io mid now step.WantsStart sub next u first is never_is h = starts_by_turn c x y z w fs all s io mid now sub next u first is h
last_by_turn c x y z w fs all s io mid now (step.Wait n) sub next u first is never_is h = stuck_by_turn c x y z w fs all s io mid now (step.Wait n) sub next u tt h
last_by_turn c x y z w fs all s io mid now step.Drained sub next u first is never_is h = stuck_by_turn c x y z w fs all s io mid now step.Drained sub next u tt h
last_by_turn c x y z w fs all s io mid now (step.Refuse e) sub next u first is never_is h = stuck_by_turn c x y z w fs all s io mid now (step.Refuse e) sub next u tt h
