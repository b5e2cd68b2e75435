-- What each event of a device that plays comes to.
use Rattle.std.proofs.Common.{ℕ, zero, suc, ◌≡◌, ◌+◌, ◌-◌, ◌*◌, ◌/◌, ◌%◌, ◌<◌, ◌≤◌, Bool, true, false, cond, not, ◌&&◌, ◌||◌, nat_eq, nat_lt, nat_le, List, [], ◌∷◌, ◌++◌, length, take, drop, min, max, replicate, refl, sym, ap, ◌∙◌, subst, arith, length-take, drop_of_length-le, mul-div_cancel}
use Rattle.std.proofs.Math.Nat.{mul-mod_left}
use Rattle.std.proofs.Math.Path.{ap₂}
use Rattle.std.proofs.lemmas.Bool.Decides.{nat_tests}
use Rattle.std.proofs.lemmas.List.{take_all, take_at}
use Rattle.std.specs.declared.option.Option.TheVariants.{Some, None}
use Rattle.pcm_base.specs.declared.act.Act.TheVariants as act
use Rattle.pcm_base.specs.declared.act.Outcome.TheVariants as outcome
use Rattle.pcm_base.specs.declared.act.Updated.TheVariants as updated
use Rattle.pcm_base.specs.declared.call.Call.TheVariants as call
use Rattle.pcm_base.specs.declared.call.CallKind.TheVariants as kind
use Rattle.pcm_base.specs.declared.call.Layout.TheVariants as layout
use Rattle.pcm_base.specs.declared.call.Mode.TheVariants as mode
use Rattle.pcm_base.specs.declared.config.Config.{Config}
use Rattle.pcm_base.specs.declared.format.Access.{Access}
use Rattle.pcm_base.specs.declared.format.Access.TheVariants as access
use Rattle.pcm_base.specs.declared.ids.ClientId.{ClientId}
use Rattle.pcm_base.specs.declared.reply.Reply.{Reply}
use Rattle.pcm_base.specs.declared.reply.Reply.TheVariants as reply
use Rattle.pcm_base.specs.declared.sleeper.Xfer.{Xfer}
use Rattle.pcm_base.specs.declared.state.Dir.TheVariants as dir
use Rattle.pcm_base.specs.declared.state.Errno.TheVariants as errno
use Rattle.pcm_base.specs.declared.state.State.{State}
use Rattle.pcm_base.specs.declared.state.State.TheVariants as state
use Rattle.pcm_base.specs.model.Acts.{done, pre, table}
use Rattle.pcm_base.specs.model.Events.{event, hands, program}
use Rattle.pcm_base.specs.model.Frame.{Frame, frames_of}
use Rattle.pcm_base.specs.model.Movement.{Movement, move, carried}
use Rattle.pcm_base.specs.model.Program.{Answer, Program, Ends, Makes, after_found, fails, or_epipe, says, unless, updated_or_epipe}
use Rattle.pcm_base.specs.model.Standing.{Put, put_at, standing_at}
use Rattle.pcm_base.specs.model.Stream.{Stream, avail, zero_frame}
use Rattle.pcm_base.specs.model.Transfer.{after_start, fits, frames_in, is_filled, is_whole, misfit, put_next, write_on, write_plain}
use Rattle.pcm_base.specs.model.Update.{Refreshed, fill, set_runs, set_state, update}
use Rattle.pcm_base.specs.model.Words.{is_closed, when, ◌then◌}
use Rattle.pcm_laws.specs.Rings.{PutsSplit, RunsHaveLength, RunsShowPuts, RunsSplit}
use Rattle.pcm_laws.specs.Turns.{PlainTurn, StartingTurn, StartsInPrepared, WholePlainWrite, turn}
use Rattle.play_record.specs.Stages.{device_at}
use Rattle.play_record.proofs.Frames.{frames_of-add, length-frames_of}
use Rattle.play_record.specs.Steps.{GoesTo}
use Rattle.play_record.proofs.Quiet.{Sizes, and_false, fill_none, move-on, setup_with, unfilled, update-drained, update-draining, update-running}

-- the laws on what stands in a ring
pub record RingLaws : Type 0 where
  pub puts_split : PutsSplit
  pub runs_shown : RunsShowPuts
  pub runs_split : RunsSplit
  pub runs_counted : RunsHaveLength

-- the laws on a write's turns
pub record WriteLaws : Type 0 where
  pub starting : StartingTurn
  pub alone : StartsInPrepared
  pub part : PlainTurn
  pub whole : WholePlainWrite

abbrev pub plain : Reply → Answer
plain r = record { reply = r; first = 0; frames = [] }

-- of the bytes, u frames are put from the origin on
abbrev pub put_of : ℕ → ℕ → ℕ → List ℕ → List Put
put_of l w u bytes = put_at l (frames_of u w bytes) []

module _ (laws : RingLaws) (w b l : ℕ) (bytes : List ℕ) where
  -- frames that are put behind those that are there
  pub put-more : (u n : ℕ) → put_at (l + u) (frames_of n w (drop (u * w) bytes)) (put_of l w u bytes) ≡ put_of l w (u + n) bytes
  put-more u n =
      let at : length (frames_of u w bytes) ≡ u = length-frames_of u w bytes in
      ap (λ i. put_at (l + i) (frames_of n w (drop (u * w) bytes)) (put_of l w u bytes)) (sym at)
      ∙ (sym (laws.puts_split l (frames_of u w bytes) (frames_of n w (drop (u * w) bytes)) []) ∙ ap (λ fs. put_at l fs []) (sym (frames_of-add u n w bytes)))

  -- what a card takes at c of u frames that are put, at most a buffer ahead of it
  pub taken-next : (c n m : ℕ) (z : Frame) → n + m ≤ b → standing_at (put_of l w (c + (n + m)) bytes) b (l + c) n z ≡ frames_of n w (drop (c * w) bytes)
  taken-next c n m z few =
      let gs : List Frame = frames_of (n + m) w (drop (c * w) bytes) in
      let qs : List Put = put_of l w c bytes in
      let many : length gs ≡ n + m = length-frames_of (n + m) w (drop (c * w) bytes) in
      let shown : standing_at (put_at (l + c) gs qs) b (l + c) (length gs) z ≡ gs = laws.runs_shown gs (l + c) qs b z (omega (arith, many)) in
      let all : standing_at (put_at (l + c) gs qs) b (l + c) (n + m) z ≡ gs = ap (λ i. standing_at (put_at (l + c) gs qs) b (l + c) i z) (sym many) ∙ shown in
      let parts : standing_at (put_at (l + c) gs qs) b (l + c) n z ++ standing_at (put_at (l + c) gs qs) b (l + c + n) m z ≡ gs = sym (laws.runs_split (put_at (l + c) gs qs) b (l + c) n m z) ∙ all in
      let front : standing_at (put_at (l + c) gs qs) b (l + c) n z ≡ take n gs =
      sym (take_at (standing_at (put_at (l + c) gs qs) b (l + c) n z) (standing_at (put_at (l + c) gs qs) b (l + c + n) m z) n (laws.runs_counted (put_at (l + c) gs qs) b (l + c) n z)) ∙ ap (take n) parts in
      let fronts : take n gs ≡ frames_of n w (drop (c * w) bytes) =
      ap (take n) (frames_of-add n m w (drop (c * w) bytes)) ∙ take_at (frames_of n w (drop (c * w) bytes)) (frames_of m w (drop (n * w) (drop (c * w) bytes))) n (length-frames_of n w (drop (c * w) bytes)) in
      ap (λ ps. standing_at ps b (l + c) n z) (sym (put-more c (n + m))) ∙ (front ∙ fronts)

-- the device with u frames written, h reported and c taken
abbrev pub playing : Config → ℕ → ℕ → ℕ → List ℕ → State → Bool → ℕ → ℕ → ℕ → Stream
playing g w b l bytes t runs h u c = device_at dir.Playback (setup_with g w b l) t runs h u c (put_of l w u bytes) (frames_of c w bytes) []

module _ (laws : RingLaws) (g : Config) (w b l : ℕ) (sizes : Sizes w b l) (bytes : List ℕ) where
  -- ---- the card

  carries : (c n m : ℕ) (t : State) → n + m ≤ b → carried n (playing g w b l bytes t true c (c + (n + m)) c) ≡ playing g w b l bytes t true c (c + (n + m)) (c + n)
  carries c n m t few =
      let z : Frame = replicate w 0 in
      let u : ℕ = c + (n + m) in
      let at : l + c + n ≡ l + (c + n) = omega arith in
      let took : frames_of c w bytes ++ standing_at (put_of l w u bytes) b (l + c) n z ≡ frames_of (c + n) w bytes =
      ap (λ fs. frames_of c w bytes ++ fs) (taken-next laws w b l bytes c n m z few) ∙ sym (frames_of-add c n w bytes) in
      ap₂ (λ i fs. record (playing g w b l bytes t true c u (c + n)) { at = record { hw = l + c; appl = l + u; card = i; filled = l }; card = record { runs = true; plan = (playing g w b l bytes t true c u c).card.plan; taken = fs; to_give = [] } }) at took

  -- the card moves on by n frames, of those that are written
  pub moves-playing : (c n m : ℕ) (t : State) → n + m ≤ b → n < b → (c + n) * w ≤ 67108864
      → move n (playing g w b l bytes t true c (c + (n + m)) c) ≡ record { reply = reply.Moved n; frames = standing_at (put_of l w (c + (n + m)) bytes) b (l + c) n (replicate w 0); stream = playing g w b l bytes t true c (c + (n + m)) (c + n) }
  moves-playing c n m t few less short =
      let s : Stream = playing g w b l bytes t true c (c + (n + m)) c in
      let limit : (length (frames_of c w bytes) + n) * w ≤ 67108864 = subst (λ i. (i + n) * w ≤ 67108864) (sym (length-frames_of c w bytes)) short in
      move-on n s refl (omega (arith, less)) limit
      ∙ ap (λ v. record { reply = reply.Moved n; frames = standing_at (put_of l w (c + (n + m)) bytes) b (l + c) n (replicate w 0); stream = v }) (carries c n m t few)

  -- ---- the client

  pub goes-drain : (k : ClientId) (io : List ℕ) (h u c : ℕ)
      → GoesTo (program (call.Drain mode.NonBlock) k false io (playing g w b l bytes state.Running true h u c)) (plain (reply.Err errno.Eagain)) (playing g w b l bytes state.Draining true h u c)
  goes-drain k io h u c = (refl, refl, (refl, refl))

module _ (laws : RingLaws) (writes : WriteLaws) (g : Config) (interleaved : g.access ≡ access.RwInterleaved) (w b l : ℕ) (sizes : Sizes w b l) (bytes : List ℕ) where
  abbrev call_of : ℕ → Xfer
  call_of n = record { writing = true; layout = layout.Interleaved; mode = mode.NonBlock; rest = n; moved = 0 }

  any_access : (a : Bool) → (a || true) ≡ true
  any_access true = refl
  any_access false = refl

  fitted : fits layout.Interleaved (Some g) ≡ true
  fitted = ap (λ a. fits layout.Interleaved (Some (record g { access = a }))) interleaved ∙ any_access (nat_eq g.channels 1)

  -- a write of n frames comes to its loop
  comes : (k : ClientId) (t : State) (runs : Bool) (h u c n : ℕ) (io : List ℕ) → table kind.Write (playing g w b l bytes t runs h u c) ≡ None → is_closed t ≡ false → length io ≡ n * w → 1 ≤ n
      → program (call.Write layout.Interleaved mode.NonBlock) k false io (playing g w b l bytes t runs h u c) ≡ updated_or_epipe (playing g w b l bytes t runs h u c) (write_on k (call_of n) [] (frames_of n w io))
  comes k t runs h u c n io allowed opened size some =
      let s : Stream = playing g w b l bytes t runs h u c in
      let count : length io / w ≡ n = ap (λ i. i / w) size ∙ mul-div_cancel n (omega (arith, sizes.frame)) in
      let whole : nat_eq (length io % w) 0 ≡ true = ap (λ i. nat_eq (i % w) 0) size ∙ ap (λ i. nat_eq i 0) (mul-mod_left n w) in
      let full : nat_eq n 0 ≡ false = grind (arith, nat_tests, some) in
      let refused : misfit s true layout.Interleaved (is_whole s io) ≡ None = ap₂ (λ f v. when (not f) errno.Einval then when (not v) errno.Einval) fitted whole in
      ap (λ e. cond (e && true) (fails errno.Enxio s) (event (call.Write layout.Interleaved mode.NonBlock) k false io s)) opened
      ∙ (ap (λ o. unless o s (cond (nat_eq (length io / w) 0) (says (reply.Frames 0) s) (unless (table kind.Write s) s (updated_or_epipe s (write_on k (call_of (length io / w)) [] (frames_in s io)))))) refused
      ∙ (ap (λ i. cond (nat_eq i 0) (says (reply.Frames 0) s) (unless (table kind.Write s) s (updated_or_epipe s (write_on k (call_of i) [] (frames_of i w io))))) count
      ∙ ap₂ (λ e o. cond e (says (reply.Frames 0) s) (unless o s (updated_or_epipe s (write_on k (call_of n) [] (frames_of n w io))))) full allowed))

  put_next-playing : (t : State) (runs : Bool) (h u c n : ℕ) (ws : List Frame) → ws ≡ frames_of n w (drop (u * w) bytes) → put_next ws (playing g w b l bytes t runs h u c) ≡ playing g w b l bytes t runs h (u + n) c
  put_next-playing t runs h u c n ws these =
      let s : Stream = playing g w b l bytes t runs h u c in
      let count : length ws ≡ n = ap length these ∙ length-frames_of n w (drop (u * w) bytes) in
      let at : l + u + length ws ≡ l + (u + n) = omega (arith, count) in
      let puts : put_at (l + u) ws (put_of l w u bytes) ≡ put_of l w (u + n) bytes = ap (λ fs. put_at (l + u) fs (put_of l w u bytes)) these ∙ put-more laws w b l bytes u n in
      ap₂ (λ ps i. record s { puts = ps; at = record s.at { appl = i } }) puts at

  -- the frames of the bytes that are written
  abbrev AreNext : ℕ → ℕ → List ℕ → Type 0
  AreNext u n io = (length io ≡ n * w) × (frames_of n w io ≡ frames_of n w (drop (u * w) bytes))

  zero_of : (e : Bool) → ◌≡◌ {A = ℕ} (cond e 0 0) 0
  zero_of true = refl
  zero_of false = refl

  -- nothing is left to write
  ended : (k : ClientId) (n : ℕ) (ws : List Frame) (s : Stream) → length ws ≡ n → GoesTo (write_plain k (call_of n) ws [] s) (record { reply = reply.Frames n; first = 0; frames = ws }) s
  ended k n ws s count =
      let total : 0 + length ws ≡ n = omega (arith, count) in
      subst (λ p. GoesTo p (record { reply = reply.Frames n; first = 0; frames = ws }) s) (sym (writes.whole k (call_of n) ws s))
      (ap₂ (λ i j. record { reply = reply.Frames i; first = j; frames = ws }) total (zero_of (nat_eq (length ws) 0)), refl)

  pub goes-write : (k : ClientId) (io : List ℕ) (u c n : ℕ) → 1 ≤ n → c < u → u + n ≤ c + b → AreNext u n io
      → GoesTo (program (call.Write layout.Interleaved mode.NonBlock) k false io (playing g w b l bytes state.Running true c u c)) (record { reply = reply.Frames n; first = 0; frames = frames_of n w io }) (playing g w b l bytes state.Running true c (u + n) c)
  goes-write k io u c n some more room next =
      let s : Stream = playing g w b l bytes state.Running true c u c in
      let after : Stream = playing g w b l bytes state.Running true c (u + n) c in
      let ws : List Frame = frames_of n w io in
      let x : Xfer = call_of n in
      let answer : Answer = record { reply = reply.Frames n; first = 0; frames = ws } in
      let count : length ws ≡ n = length-frames_of n w io in
      let all : take n ws ≡ ws = take_all n ws (omega (arith, count)) in
      let none : drop n ws ≡ [] = drop_of_length-le ws (omega (arith, count)) in
      let free : n ≤ min (length ws) (avail s) = omega (arith, count, room) in
      let put : put_next ws s ≡ after = put_next-playing state.Running true c u c n ws next.1 in
      let end : GoesTo (write_plain k x ws [] after) answer after = ended k n ws after count in
      let back : GoesTo (write_plain k x (take n ws) (drop n ws) (put_next (take n ws) s)) answer after =
      subst (λ v. GoesTo (write_plain k x v (drop n ws) (put_next v s)) answer after) (sym all)
      (subst (λ v. GoesTo (write_plain k x ws v (put_next ws s)) answer after) (sym none)
      (subst (λ v. GoesTo (write_plain k x ws [] v) answer after) (sym put) end)) in
      let loop : GoesTo (write_on k x [] ws s) answer after =
      subst (λ p. GoesTo p answer after) (sym (writes.alone k x [] ws s refl ∙ writes.part k x [] ws s n free)) back in
      let found : GoesTo (updated_or_epipe s (write_on k x [] ws)) answer after =
      subst (λ v. GoesTo (after_found (or_epipe (write_on k x [] ws)) v.found v.stream) answer after)
      (sym (update-running g w b l sizes dir.Playback c u c (put_of l w u bytes) (frames_of c w bytes) [] (omega (arith, more, room, sizes.least)))) loop in
      subst (λ p. GoesTo p answer after) (sym (comes k state.Running true c u c n io refl refl next.0 some)) found

  pub goes-first_write : (k : ClientId) (io : List ℕ) (n : ℕ) → 1 ≤ n → n ≤ b → AreNext 0 n io
      → GoesTo (program (call.Write layout.Interleaved mode.NonBlock) k false io (playing g w b l bytes state.Prepared false 0 0 0)) (record { reply = reply.Frames n; first = 0; frames = frames_of n w io }) (playing g w b l bytes state.Running true 0 (0 + n) 0)
  goes-first_write k io n some room next =
      let s : Stream = playing g w b l bytes state.Prepared false 0 0 0 in
      let begun : Stream = playing g w b l bytes state.Prepared false 0 (0 + n) 0 in
      let after : Stream = playing g w b l bytes state.Running true 0 (0 + n) 0 in
      let ws : List Frame = frames_of n w io in
      let x : Xfer = call_of n in
      let answer : Answer = record { reply = reply.Frames n; first = 0; frames = ws } in
      let count : length ws ≡ n = length-frames_of n w io in
      let all : take n ws ≡ ws = take_all n ws (omega (arith, count)) in
      let none : drop n ws ≡ [] = drop_of_length-le ws (omega (arith, count)) in
      let put : put_next ws s ≡ begun = put_next-playing state.Prepared false 0 0 0 n ws next.1 in
      let at_end : (l + 0) % b ≡ 0 = ap (λ i. i % b) (omega arith) ∙ sizes.whole in
      let turns : n ≡ turn (length ws) s = omega (arith, count, room, at_end) in
      let queued : is_filled s n ≡ true = grind (arith, nat_tests, some) in
      let starts : write_on k x [] ws s ≡ Makes act.Start (put_next (take n ws) s) (after_start k x (take n ws) (drop n ws)) =
      writes.starting k x [] ws s n (omega (arith, sizes.least)) (omega (arith, count, some, room)) turns refl queued in
      let left : avail begun < b = omega (arith, some) in
      let filled : nat_le b (avail begun) ≡ false = grind (arith, nat_tests, left) in
      let allowed : pre begun act.Start ≡ None = ap (λ e. when (nat_lt b l && e) errno.Epipe) filled ∙ ap (λ e. when e errno.Epipe) (and_false (nat_lt b l)) in
      let quiet : fill after ≡ after = fill_none after (unfilled g w b l sizes dir.Playback state.Running true 0 (0 + n) 0 (put_of l w (0 + n) bytes) [] []) in
      let done_start : GoesTo (after_start k x ws [] outcome.Done (done act.Start begun)) answer after =
      subst (λ v. GoesTo (write_plain k x ws [] v) answer after) (sym quiet) (ended k n ws after count) in
      let made : GoesTo (Makes act.Start begun (after_start k x ws [])) answer after = (allowed, refl, done_start) in
      let back : GoesTo (Makes act.Start (put_next (take n ws) s) (after_start k x (take n ws) (drop n ws))) answer after =
      subst (λ v. GoesTo (Makes act.Start (put_next v s) (after_start k x v (drop n ws))) answer after) (sym all)
      (subst (λ v. GoesTo (Makes act.Start (put_next ws s) (after_start k x ws v)) answer after) (sym none)
      (subst (λ v. GoesTo (Makes act.Start v (after_start k x ws [])) answer after) (sym put) made)) in
      let loop : GoesTo (write_on k x [] ws s) answer after = subst (λ p. GoesTo p answer after) (sym starts) back in
      subst (λ p. GoesTo p answer after) (sym (comes k state.Prepared false 0 0 0 n io refl refl next.0 some)) loop
