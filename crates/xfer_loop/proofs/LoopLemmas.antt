-- A turn against the closed form of a transfer.
use Rattle.std.proofs.Common.{ℕ, ◌≡◌, ◌≢◌, ◌+◌, ◌-◌, ◌≤◌, ◌<◌, Bool, true, false, not, ◌&&◌, nat_eq, List, [], ◌++◌, length, take, drop, min, refl, sym, ap, ◌∙◌, arith}
use Rattle.std.proofs.lemmas.Bool.Decides.{nat_tests}
use Rattle.std.proofs.lemmas.List.{nil_from_length}
use Rattle.std.specs.Prelude.{if◌then◌else◌}
use Rattle.pcm_base.specs.declared.act.Act.TheVariants as act
use Rattle.pcm_base.specs.declared.call.Mode.{Mode}
use Rattle.pcm_base.specs.declared.call.Mode.TheVariants as mode
use Rattle.pcm_base.specs.declared.ids.ClientId.{ClientId}
use Rattle.pcm_base.specs.declared.reply.Reply.TheVariants as reply
use Rattle.pcm_base.specs.declared.sleeper.Xfer.{Xfer}
use Rattle.pcm_base.specs.declared.state.Errno.TheVariants as errno
use Rattle.pcm_base.specs.declared.state.State.TheVariants as state
use Rattle.pcm_base.specs.model.Frame.{Frame}
use Rattle.pcm_base.specs.model.PointerCalls.{on_by}
use Rattle.pcm_base.specs.model.Program.{Program, Makes}
use Rattle.pcm_base.specs.model.Stream.{Stream, avail}
use Rattle.pcm_base.specs.model.Transfer.{frames_or, is_filled, put_next, read_next, read_on, sleeping, stuck, stuck_in, tells, waiting_for, write_on}
use Rattle.pcm_base.specs.model.Words.{is_draining, is_prepared}
use Rattle.pcm_laws.specs.Turns.{turn}
use Rattle.pcm_laws.proofs.Tests.{left, right}
use Rattle.pcm_laws.proofs.Turns.{read_on-stuck, read_on-turn, read_on-whole, write_on-quiet_turn, write_on-starting_turn, write_on-started, write_on-stuck, write_on-whole, write_plain-turn}
use Rattle.xfer_loop.specs.Turn.{step_of, stuck_step}
use Rattle.xfer_loop.specs.Loop.{IsOnTheWay, after_stuck, read_after, write_after}
use Rattle.xfer_loop.specs.declared.XferStep.{XferStep}
use Rattle.xfer_loop.specs.declared.XferStep.TheVariants as step
use Rattle.xfer_loop.proofs.TurnLemmas.{none-test, some-test, starts_by, step-none, step-stuck, step-some}

-- ---- no frame can move

abbrev stuck_by : Bool → Mode → ClientId → Xfer → List Frame → ℕ → Stream → Program
stuck_by b w c x fs rest s = if b then Makes (act.Stop state.Setup) s (λ o. tells (reply.Frames (x.moved + length fs)) x fs) else stuck_in w c x fs rest s

abbrev answer_by : Bool → Mode → ℕ → Stream → XferStep
answer_by b w rest s = if b then step.Drained else elim w as (λ _. XferStep) [ mode.NonBlock ↦ step.Refuse errno.Eagain | mode.Block ↦ step.Wait (min rest s.setup.sw.avail_min) ]

stuck-after : (c : ClientId) (x y : Xfer) (fs : List Frame) (s : Stream) → IsOnTheWay x y fs → stuck c x fs y.rest s ≡ after_stuck c x y fs s (stuck_step y s)
stuck-after c x y fs s h =
    ap (λ b. stuck_by (not b && is_draining s.state) x.mode c x fs y.rest s) h.writing
    ∙ ap (λ w. stuck_by (not y.writing && is_draining s.state) w c x fs y.rest s) h.mode
    ∙ by (not y.writing && is_draining s.state) y.mode
  where
    by : (b : Bool) (w : Mode) → stuck_by b w c x fs y.rest s ≡ after_stuck c x y fs s (answer_by b w y.rest s)
    by true w = ap (λ (m : ℕ). Makes (act.Stop state.Setup) s (λ o. tells (reply.Frames m) x fs)) h.moved
    by false mode.NonBlock = ap (λ (m : ℕ). tells (frames_or m errno.Eagain) x fs s) h.moved
    by false mode.Block = ap (λ (m : ℕ). tells reply.Asleep x fs (sleeping (waiting_for c x y.rest m (min y.rest s.setup.sw.avail_min)) s)) h.moved

-- the answer where no frame can move is none of those after which the loop goes on
write-stuck : (c : ClientId) (x y : Xfer) (fs ws : List Frame) (s : Stream) → after_stuck c x y fs s (stuck_step y s) ≡ write_after c x y fs ws s (stuck_step y s)
write-stuck c x y fs ws s = by (not y.writing && is_draining s.state) y.mode
  where
    by : (b : Bool) (w : Mode) → after_stuck c x y fs s (answer_by b w y.rest s) ≡ write_after c x y fs ws s (answer_by b w y.rest s)
    by true w = refl
    by false mode.NonBlock = refl
    by false mode.Block = refl

read-stuck : (c : ClientId) (x y : Xfer) (fs : List Frame) (s : Stream) → after_stuck c x y fs s (stuck_step y s) ≡ read_after c x y fs s (stuck_step y s)
read-stuck c x y fs s = by (not y.writing && is_draining s.state) y.mode
  where
    by : (b : Bool) (w : Mode) → after_stuck c x y fs s (answer_by b w y.rest s) ≡ read_after c x y fs s (answer_by b w y.rest s)
    by true w = refl
    by false mode.NonBlock = refl
    by false mode.Block = refl

-- ---- a write

pub writes-by_turns : (c : ClientId) (x y : Xfer) (fs ws : List Frame) (s : Stream) → 0 < s.setup.buffer → y.writing ≡ true → IsOnTheWay x y fs → length ws ≡ y.rest
    → write_on c x fs ws s ≡ write_after c x y fs ws s (step_of y s)
writes-by_turns c x y fs ws s room writing h size = by_rest (nat_eq y.rest 0) refl
  where
    all_moved : y.rest ≡ 0 → write_on c x fs ws s ≡ write_after c x y fs ws s (step_of y s)
    all_moved e =
        let none : ws ≡ [] = nil_from_length ws (size ∙ e) in
        ap (λ (vs : List Frame). write_on c x fs vs s) none ∙ write_on-whole c x fs s
        ∙ ap (λ m. tells (reply.Frames m) x fs s) h.moved
        ∙ sym (ap (λ b. if b then tells (reply.Frames y.moved) x fs s else write_on c x (fs ++ take 0 ws) (drop 0 ws) (put_next (take 0 ws) s)) (none-test y.rest e))
        ∙ ap (write_after c x y fs ws s) (step-none y s e)

    none_moves : y.rest ≢ 0 → avail s ≡ 0 → write_on c x fs ws s ≡ write_after c x y fs ws s (step_of y s)
    none_moves some full =
        write_on-stuck c x fs ws s full (omega (arith, size, some)) ∙ ap (λ n. stuck c x fs n s) size
        ∙ stuck-after c x y fs s h ∙ write-stuck c x y fs ws s
        ∙ ap (write_after c x y fs ws s) (step-stuck y s some full)

    starts_now : y.rest ≢ 0 → avail s ≢ 0 → starts_by y s ≡ true → write_on c x fs ws s ≡ write_after c x y fs ws s (step_of y s)
    starts_now some free k =
        let both : (is_prepared s.state && is_filled s (turn y.rest s)) ≡ true = right y.writing (is_prepared s.state && is_filled s (turn y.rest s)) k in
        let count : turn y.rest s ≡ turn (length ws) s = ap (λ n. turn n s) (sym size) in
        write_on-starting_turn c x fs ws s (turn y.rest s) room (omega (arith, size, some, free)) count
        (left (is_prepared s.state) (is_filled s (turn y.rest s)) both) (right (is_prepared s.state) (is_filled s (turn y.rest s)) both)
        ∙ sym (ap (write_after c x y fs ws s) (step-some y s true some free k))

    goes_on : y.rest ≢ 0 → avail s ≢ 0 → starts_by y s ≡ false → write_on c x fs ws s ≡ write_after c x y fs ws s (step_of y s)
    goes_on some free k =
        let n : ℕ = turn y.rest s in
        quiet (is_prepared s.state) refl
        ∙ sym (ap (λ b. if b then tells (reply.Frames y.moved) x fs s else write_on c x (fs ++ take n ws) (drop n ws) (put_next (take n ws) s)) (some-test y.rest some))
        ∙ sym (ap (write_after c x y fs ws s) (step-some y s false some free k))
      where
        few : turn y.rest s ≤ min (length ws) (avail s)
        few = omega (arith, size)

        unfilled : (a b : Bool) → a ≡ true → (a && b) ≡ false → b ≡ false
        unfilled true b e q = q
        unfilled false b e q = absurd (cc)

        neither : (is_prepared s.state && is_filled s (turn y.rest s)) ≡ false
        neither = unfilled y.writing (is_prepared s.state && is_filled s (turn y.rest s)) writing k

        quiet : (b : Bool) → is_prepared s.state ≡ b → write_on c x fs ws s ≡ write_on c x (fs ++ take (turn y.rest s) ws) (drop (turn y.rest s) ws) (put_next (take (turn y.rest s) ws) s)
        quiet true e =
            let count : turn y.rest s ≡ turn (length ws) s = ap (λ n. turn n s) (sym size) in
            write_on-quiet_turn c x fs ws s (turn y.rest s) room (omega (arith, size, some, free)) count (unfilled (is_prepared s.state) (is_filled s (turn y.rest s)) e neither)
        quiet false e =
            let n : ℕ = turn y.rest s in
            write_on-started c x fs ws s e ∙ write_plain-turn c x fs ws s n few
            ∙ sym (write_on-started c x (fs ++ take n ws) (drop n ws) (put_next (take n ws) s) e)

    by_start : (b : Bool) → starts_by y s ≡ b → y.rest ≢ 0 → avail s ≢ 0 → write_on c x fs ws s ≡ write_after c x y fs ws s (step_of y s)
    by_start true k some free = starts_now some free k
    by_start false k some free = goes_on some free k

    by_room : (b : Bool) → nat_eq (avail s) 0 ≡ b → y.rest ≢ 0 → write_on c x fs ws s ≡ write_after c x y fs ws s (step_of y s)
    by_room true e some = none_moves some (grind (arith, nat_tests, e))
    by_room false e some = by_start (starts_by y s) refl some (λ k. absurd (let q : nat_eq (avail s) 0 ≡ true = none-test (avail s) k in cc))

    by_rest : (b : Bool) → nat_eq y.rest 0 ≡ b → write_on c x fs ws s ≡ write_after c x y fs ws s (step_of y s)
    by_rest true e = all_moved (grind (arith, nat_tests, e))
    by_rest false e = by_room (nat_eq (avail s) 0) refl (λ k. absurd (let q : nat_eq y.rest 0 ≡ true = none-test y.rest k in cc))

-- ---- a read

pub reads-by_turns : (c : ClientId) (x y : Xfer) (fs : List Frame) (s : Stream) → 0 < s.setup.buffer → y.writing ≡ false → IsOnTheWay x y fs
    → read_on c x fs y.rest s ≡ read_after c x y fs s (step_of y s)
reads-by_turns c x y fs s room reading h = by_rest (nat_eq y.rest 0) refl
  where
    all_moved : y.rest ≡ 0 → read_on c x fs y.rest s ≡ read_after c x y fs s (step_of y s)
    all_moved e =
        ap (λ n. read_on c x fs n s) e ∙ read_on-whole c x fs s
        ∙ ap (λ m. tells (reply.Frames m) x fs s) h.moved
        ∙ sym (ap (λ b. if b then tells (reply.Frames y.moved) x fs s else read_on c x (fs ++ read_next 0 s) (y.rest - 0) (on_by 0 s)) (none-test y.rest e))
        ∙ ap (read_after c x y fs s) (step-none y s e)

    none_moves : y.rest ≢ 0 → avail s ≡ 0 → read_on c x fs y.rest s ≡ read_after c x y fs s (step_of y s)
    none_moves some full =
        read_on-stuck c x fs y.rest s full (omega (arith, some))
        ∙ stuck-after c x y fs s h ∙ read-stuck c x y fs s
        ∙ ap (read_after c x y fs s) (step-stuck y s some full)

    goes_on : y.rest ≢ 0 → avail s ≢ 0 → read_on c x fs y.rest s ≡ read_after c x y fs s (step_of y s)
    goes_on some free =
        let n : ℕ = turn y.rest s in
        let quiet : starts_by y s ≡ false = ap (λ b. b && (is_prepared s.state && is_filled s (turn y.rest s))) reading in
        read_on-turn c x fs y.rest s n (omega arith)
        ∙ sym (ap (λ b. if b then tells (reply.Frames y.moved) x fs s else read_on c x (fs ++ read_next n s) (y.rest - n) (on_by n s)) (some-test y.rest some))
        ∙ sym (ap (read_after c x y fs s) (step-some y s false some free quiet))

    by_room : (b : Bool) → nat_eq (avail s) 0 ≡ b → y.rest ≢ 0 → read_on c x fs y.rest s ≡ read_after c x y fs s (step_of y s)
    by_room true e some = none_moves some (grind (arith, nat_tests, e))
    by_room false e some = goes_on some (λ k. absurd (let q : nat_eq (avail s) 0 ≡ true = none-test (avail s) k in cc))

    by_rest : (b : Bool) → nat_eq y.rest 0 ≡ b → read_on c x fs y.rest s ≡ read_after c x y fs s (step_of y s)
    by_rest true e = all_moved (grind (arith, nat_tests, e))
    by_rest false e = by_room (nat_eq (avail s) 0) refl (λ k. absurd (let q : nat_eq y.rest 0 ≡ true = none-test y.rest k in cc))
