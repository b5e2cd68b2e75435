-- What each event of a device that records comes to.
use Rattle.std.proofs.Common.{ℕ, zero, suc, ◌≡◌, ◌+◌, ◌-◌, ◌*◌, ◌/◌, ◌%◌, ◌<◌, ◌≤◌, Bool, true, false, cond, not, ◌&&◌, ◌||◌, nat_eq, nat_lt, nat_le, List, [], ◌∷◌, ◌++◌, length, take, drop, min, replicate, refl, sym, ap, ◌∙◌, subst, arith}
use Rattle.std.proofs.Math.Path.{ap₂}
use Rattle.std.proofs.lemmas.Bool.Decides.{nat_tests}
use Rattle.std.proofs.lemmas.List.{take_at}
use Rattle.std.specs.declared.option.Option.TheVariants.{Some, None}
use Rattle.pcm_base.specs.declared.call.Call.TheVariants as call
use Rattle.pcm_base.specs.declared.call.Layout.TheVariants as layout
use Rattle.pcm_base.specs.declared.call.Mode.TheVariants as mode
use Rattle.pcm_base.specs.declared.config.Config.{Config}
use Rattle.pcm_base.specs.declared.format.Access.TheVariants as access
use Rattle.pcm_base.specs.declared.ids.ClientId.{ClientId}
use Rattle.pcm_base.specs.declared.reply.Reply.TheVariants as reply
use Rattle.pcm_base.specs.declared.sleeper.Xfer.{Xfer}
use Rattle.pcm_base.specs.declared.state.Dir.TheVariants as dir
use Rattle.pcm_base.specs.declared.state.Errno.TheVariants as errno
use Rattle.pcm_base.specs.declared.state.State.{State}
use Rattle.pcm_base.specs.declared.state.State.TheVariants as state
use Rattle.pcm_base.specs.model.Events.{hands, program}
use Rattle.pcm_base.specs.model.Frame.{Frame}
use Rattle.pcm_base.specs.model.Movement.{Movement, move, carried, padded}
use Rattle.pcm_base.specs.model.PointerCalls.{on_by}
use Rattle.pcm_base.specs.model.Program.{Answer, Program, after_found, fails, or_epipe, says, unless, updated_or_epipe}
use Rattle.pcm_base.specs.model.Standing.{Put, put_at, standing_at}
use Rattle.pcm_base.specs.model.Stream.{Stream, avail}
use Rattle.pcm_base.specs.model.Transfer.{fits, misfit, read_next, read_on, start_reading}
use Rattle.pcm_base.specs.model.Update.{Refreshed, update}
use Rattle.pcm_base.specs.model.Words.{when, ◌then◌}
use Rattle.pcm_laws.specs.Turns.{ReadTurn, WholeRead}
use Rattle.play_record.specs.Stages.{device_at}
use Rattle.play_record.proofs.Frames.{drop-drop_frames, length-padded, padded-add}
use Rattle.play_record.specs.Steps.{GoesTo}
use Rattle.play_record.proofs.PlayEvents.{RingLaws, plain}
use Rattle.play_record.proofs.Quiet.{Sizes, move-on, setup_with, update-running}

-- the laws on a read's turns
pub record ReadLaws : Type 0 where
  pub part : ReadTurn
  pub whole : WholeRead

module _ (laws : RingLaws) (l : ℕ) (given : List Frame) (z : Frame) where
  -- the frames that a card has put
  abbrev pub recorded_puts : ℕ → List Put
  recorded_puts c = put_at l (padded c given z) []

  put-next : (c n : ℕ) → put_at (l + c) (padded n (drop c given) z) (recorded_puts c) ≡ recorded_puts (c + n)
  put-next c n =
      let at : length (padded c given z) ≡ c = length-padded c given z in
      ap (λ i. put_at (l + i) (padded n (drop c given) z) (recorded_puts c)) (sym at)
      ∙ (sym (laws.puts_split l (padded c given z) (padded n (drop c given) z) []) ∙ ap (λ fs. put_at l fs []) (sym (padded-add c n given z)))

  -- the next n frames of those n + m that the card has put last
  pub read-next : (b u n m : ℕ) → n + m ≤ b → standing_at (recorded_puts (u + (n + m))) b (l + u) n z ≡ padded n (drop u given) z
  read-next b u n m few =
      let gs : List Frame = padded (n + m) (drop u given) z in
      let qs : List Put = recorded_puts u in
      let many : length gs ≡ n + m = length-padded (n + m) (drop u given) z in
      let shown : standing_at (put_at (l + u) gs qs) b (l + u) (length gs) z ≡ gs = laws.runs_shown gs (l + u) qs b z (omega (arith, many)) in
      let all : standing_at (put_at (l + u) gs qs) b (l + u) (n + m) z ≡ gs = ap (λ i. standing_at (put_at (l + u) gs qs) b (l + u) i z) (sym many) ∙ shown in
      let parts : standing_at (put_at (l + u) gs qs) b (l + u) n z ++ standing_at (put_at (l + u) gs qs) b (l + u + n) m z ≡ gs = sym (laws.runs_split (put_at (l + u) gs qs) b (l + u) n m z) ∙ all in
      let front : standing_at (put_at (l + u) gs qs) b (l + u) n z ≡ take n gs =
      sym (take_at (standing_at (put_at (l + u) gs qs) b (l + u) n z) (standing_at (put_at (l + u) gs qs) b (l + u + n) m z) n (laws.runs_counted (put_at (l + u) gs qs) b (l + u) n z)) ∙ ap (take n) parts in
      let fronts : take n gs ≡ padded n (drop u given) z =
      ap (take n) (padded-add n m (drop u given) z) ∙ take_at (padded n (drop u given) z) (padded m (drop n (drop u given)) z) n (length-padded n (drop u given) z) in
      ap (λ ps. standing_at ps b (l + u) n z) (sym (put-next u (n + m))) ∙ (front ∙ fronts)

module _ (laws : RingLaws) (reads : ReadLaws) (g : Config) (interleaved : g.access ≡ access.RwInterleaved) (w b l : ℕ) (sizes : Sizes w b l) (given : List Frame) where
  abbrev pub silence : Frame
  silence = replicate w 0

  -- the device with c frames put by the card, h reported and u read
  abbrev pub recording : State → Bool → ℕ → ℕ → ℕ → Stream
  recording t runs h u c = device_at dir.Capture (setup_with g w b l) t runs h u c (recorded_puts laws l given silence c) [] (drop c given)

  -- ---- the card

  carries : (u c n : ℕ) → carried n (recording state.Running true c u c) ≡ recording state.Running true c u (c + n)
  carries u c n =
      let s : Stream = recording state.Running true c u c in
      let at : l + c + n ≡ l + (c + n) = omega arith in
      let at_c : put_at (l + c) (padded n (drop c given) silence) (recorded_puts laws l given silence c) ≡ recorded_puts laws l given silence (c + n) = put-next laws l given silence c n in
      ap₂ (λ i ps. record (recording state.Running true c u (c + n)) { puts = ps; at = record { hw = l + c; appl = l + u; card = i; filled = l }; card = record s.card { to_give = drop n (drop c given) } }) at at_c
      ∙ ap (λ fs. record (recording state.Running true c u (c + n)) { card = record s.card { to_give = fs } }) (drop-drop_frames c n given)

  -- the card moves on by n frames
  pub moves-recording : (u c n : ℕ) → n < b → move n (recording state.Running true c u c) ≡ record { reply = reply.Moved n; frames = []; stream = recording state.Running true c u (c + n) }
  moves-recording u c n less =
      move-on n (recording state.Running true c u c) refl (omega (arith, less)) (omega arith) ∙ ap (λ v. record { reply = reply.Moved n; frames = []; stream = v }) (carries u c n)

  -- ---- the client

  any_access : (a : Bool) → (a || true) ≡ true
  any_access true = refl
  any_access false = refl

  fitted : fits layout.Interleaved (Some g) ≡ true
  fitted = ap (λ a. fits layout.Interleaved (Some (record g { access = a }))) interleaved ∙ any_access (nat_eq g.channels 1)

  abbrev call_of : ℕ → Xfer
  call_of n = record { writing = false; layout = layout.Interleaved; mode = mode.NonBlock; rest = n; moved = 0 }

  zero_of : (e : Bool) → ◌≡◌ {A = ℕ} (cond e 0 0) 0
  zero_of true = refl
  zero_of false = refl

  -- a read of n of the n + m frames that have come
  pub goes-read : (k : ClientId) (io : List ℕ) (u n m : ℕ) → 1 ≤ n → n ≤ 1048576 → n + m < b
      → GoesTo (program (call.Read layout.Interleaved mode.NonBlock n) k false io (recording state.Running true (u + (n + m)) u (u + (n + m)))) (record { reply = reply.Frames n; first = 0; frames = padded n (drop u given) silence })
      (recording state.Running true (u + (n + m)) (u + n) (u + (n + m)))
  goes-read k io u n m some short few =
      let c : ℕ = u + (n + m) in
      let s : Stream = recording state.Running true c u c in
      let after : Stream = recording state.Running true c (u + n) c in
      let x : Xfer = call_of n in
      let fs : List Frame = padded n (drop u given) silence in
      let answer : Answer = record { reply = reply.Frames n; first = 0; frames = fs } in
      let within : nat_le n 1048576 ≡ true = grind (arith, nat_tests, short) in
      let full : nat_eq n 0 ≡ false = grind (arith, nat_tests, some) in
      let refused : misfit s false layout.Interleaved (nat_le n 1048576) ≡ None = ap₂ (λ f v. when (not f) errno.Einval then when (not v) errno.Einval) fitted within in
      let next : read_next n s ≡ fs = read-next laws l given silence b u n m (omega (arith, few)) in
      let count : length fs ≡ n = length-padded n (drop u given) silence in
      let at : l + u + n ≡ l + (u + n) = omega arith in
      let on : on_by n s ≡ after = ap (λ i. record s { at = record s.at { appl = i } }) at in
      let none : n - n ≡ 0 = omega arith in
      let free : n ≤ min n (avail s) = omega arith in
      let total : 0 + length fs ≡ n = omega (arith, count) in
      let end : GoesTo (read_on k x fs 0 after) answer after =
      subst (λ p. GoesTo p answer after) (sym (reads.whole k x fs after)) (ap₂ (λ i j. record { reply = reply.Frames i; first = j; frames = fs }) total (zero_of (nat_eq (length fs) 0)), refl) in
      let back : GoesTo (read_on k x (read_next n s) (n - n) (on_by n s)) answer after =
      subst (λ v. GoesTo (read_on k x v (n - n) (on_by n s)) answer after) (sym next)
      (subst (λ v. GoesTo (read_on k x fs v (on_by n s)) answer after) (sym none)
      (subst (λ v. GoesTo (read_on k x fs 0 v) answer after) (sym on) end)) in
      let loop : GoesTo (read_on k x [] n s) answer after = subst (λ p. GoesTo p answer after) (sym (reads.part k x [] n s n free)) back in
      let found : GoesTo (updated_or_epipe s (start_reading k x)) answer after =
      subst (λ v. GoesTo (after_found (or_epipe (start_reading k x)) v.found v.stream) answer after)
      (sym (update-running g w b l sizes dir.Capture c u c (recorded_puts laws l given silence c) [] (drop c given) (omega (arith, few)))) loop in
      subst (λ o. GoesTo (unless o s (cond (nat_eq n 0) (says (reply.Frames 0) s) (updated_or_epipe s (start_reading k x)))) answer after) (sym refused)
      (subst (λ e. GoesTo (cond e (says (reply.Frames 0) s) (updated_or_epipe s (start_reading k x))) answer after) (sym full) found)
