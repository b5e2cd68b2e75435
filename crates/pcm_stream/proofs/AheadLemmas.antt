-- A write that keeps ahead: what was written at a position stays there until the card has passed it.
use Rattle.std.proofs.Common.{ℕ, zero, suc, ◌≡◌, ◌≢◌, ◌+◌, ◌-◌, ◌%◌, ◌≤◌, ◌<◌, ◌⊎◌, inl, inr, Bool, true, false, cond, not, nat_eq, nat_le, nat_lt, List, [], ◌∷◌, ◌++◌, length, replicate, if◌then◌else◌, refl, sym, ap, ◌∙◌, subst, arith}
use Rattle.std.proofs.lemmas.Bool.{cases_lt, cases_eq}
use Rattle.std.proofs.lemmas.Bool.Decides.{nat_tests}
use Rattle.std.proofs.lemmas.List.{length-replicate}
use Rattle.std.specs.declared.option.Option.{Option}
use Rattle.std.specs.declared.option.Option.TheVariants.{Some, None}
use Rattle.pcm_base.specs.declared.act.Act.{Act}
use Rattle.pcm_base.specs.declared.act.Act.TheVariants as act
use Rattle.pcm_base.specs.declared.act.Outcome.{Outcome}
use Rattle.pcm_base.specs.declared.act.Outcome.TheVariants as outcome
use Rattle.pcm_base.specs.declared.act.Updated.{Updated}
use Rattle.pcm_base.specs.declared.act.Updated.TheVariants as updated
use Rattle.pcm_base.specs.declared.act.Vote.{Vote}
use Rattle.pcm_base.specs.declared.config.Config.{Config}
use Rattle.pcm_base.specs.declared.ids.SubId.{SubId}
use Rattle.pcm_base.specs.declared.reply.Reply.TheVariants as reply
use Rattle.pcm_base.specs.declared.sleeper.Task.TheVariants as task
use Rattle.pcm_base.specs.declared.state.Dir.{Dir}
use Rattle.pcm_base.specs.declared.state.Dir.TheVariants as dir
use Rattle.pcm_base.specs.declared.state.State.{State}
use Rattle.pcm_base.specs.declared.state.State.TheVariants as state
use Rattle.pcm_base.specs.model.Acts.{after, asked, asks, consulted, done, drained_from, resumed_to, stopped_in, was_asked}
use Rattle.pcm_base.specs.model.Frame.{Frame}
use Rattle.pcm_base.specs.model.Movement.{Movement, move, carried, carried_frames, taken_bytes}
use Rattle.pcm_base.specs.model.PointerCalls.{hw_avail}
use Rattle.pcm_base.specs.model.Replay.{Fits}
use Rattle.pcm_base.specs.model.Sound.{Sound, SoundAt, is_stop}
use Rattle.pcm_base.specs.model.Standing.{Put, put_at, same_slot, standing}
use Rattle.pcm_base.specs.model.Stream.{Stream, avail, no_setup, zero_frame}
use Rattle.pcm_base.specs.model.Transfer.{put_next, waiting_for}
use Rattle.pcm_base.specs.model.Update.{Refreshed, fill, fill_count, fill_start, found, lap, lapped, moved_up, reported, set_runs, set_state, settled, silent_frame, update}
use Rattle.pcm_base.specs.model.Words.{runs_in}
use Rattle.pcm_laws.proofs.Puts.{standing-append}
use Rattle.pcm_laws.proofs.Remainders.{add-mod_other}
use Rattle.pcm_laws.proofs.KeptByMoves.{IsConfigured-moved_up}
use Rattle.pcm_stream.specs.KeepingUp.{first_of, frame_at, is_prepare}
use Rattle.pcm_stream.proofs.FitLemmas.{AllFit, fit-more, fit-of, fit-others}
use Rattle.pcm_stream.proofs.MoveLemmas.{played, carried-playback}
use Rattle.pcm_stream.proofs.RunsLemmas.{playback-avail}
use Rattle.pcm_stream.proofs.Walk.{IsKept}

-- ---- one put more

-- the last frame put at p itself is the one that stands there
abbrev pub Agrees : ℕ → ℕ → Frame → List Put → Type 0
Agrees b p z puts = frame_at p puts ≡ Some (standing puts b p z)

then-none : (o : Option Frame) → first_of o None ≡ o
then-none (Some f) = refl
then-none None = refl

frame_at-snoc : (p : ℕ) (qs : List Put) (q : Put) → frame_at p (qs ++ q ∷ []) ≡ first_of (if nat_eq q.at p then Some q.frame else None) (frame_at p qs)
frame_at-snoc p [] q = sym (then-none (if nat_eq q.at p then Some q.frame else None))
frame_at-snoc p (r ∷ qs) q =
    ap (λ o. first_of o (if nat_eq r.at p then Some r.frame else None)) (frame_at-snoc p qs q)
    ∙ assoc (if nat_eq q.at p then Some q.frame else None) (frame_at p qs) (if nat_eq r.at p then Some r.frame else None)
  where
    assoc : (x y w : Option Frame) → first_of (first_of x y) w ≡ first_of x (first_of y w)
    assoc (Some f) y w = refl
    assoc None y w = refl

-- positions less than a buffer apart have one slot only where they are the same
apart-slots : (b p x : ℕ) → x ≢ p → p < x + b → x < p + b → same_slot b x p ≡ false
apart-slots b p x n h k = by (cases_lt p x)
  where
    other : (j q : ℕ) → 0 < j → j < b → (q + j) % b ≢ q % b
    other j q low high = add-mod_other b q j low high

    differ : x % b ≢ p % b → same_slot b x p ≡ false
    differ m = grind (arith, nat_tests, m)

    by : (p < x) ⊎ (x ≤ p) → same_slot b x p ≡ false
    by (inl l) =
        let sum : p + (x - p) ≡ x = omega (arith, l) in
        let m : (p + (x - p)) % b ≢ p % b = other (x - p) p (omega (arith, l)) (omega (arith, l, k)) in
        differ (λ e. m (ap (λ i. i % b) sum ∙ e))
    by (inr l) =
        let low : x < p = omega (arith, l, n) in
        let sum : x + (p - x) ≡ p = omega (arith, low) in
        let m : (x + (p - x)) % b ≢ x % b = other (p - x) x (omega (arith, low)) (omega (arith, low, h)) in
        differ (λ e. m (ap (λ i. i % b) sum ∙ sym e))

same-slot_own : (b p : ℕ) → same_slot b p p ≡ true
same-slot_own b p = grind (arith, nat_tests)

standing-snoc : (b p : ℕ) (z : Frame) (qs : List Put) (q : Put) → standing (qs ++ q ∷ []) b p z ≡ (if same_slot b q.at p then q.frame else standing qs b p z)
standing-snoc b p z qs q = standing-append qs (q ∷ []) b p z

-- a frame put at p itself
agrees-own : (b p : ℕ) (z f : Frame) (qs : List Put) → Agrees b p z (qs ++ record { at = p; frame = f } ∷ [])
agrees-own b p z f qs =
    let q : Put = record { at = p; frame = f } in
    let own : nat_eq p p ≡ true = grind (arith, nat_tests) in
    frame_at-snoc p qs q ∙ ap (λ t. first_of (if t then Some f else None) (frame_at p qs)) own
    ∙ sym (ap Some (standing-snoc b p z qs q ∙ ap (λ t. if t then f else standing qs b p z) (same-slot_own b p)))

-- a frame put less than a buffer from p
agrees-near : (b p x : ℕ) (z f : Frame) (qs : List Put) → p < x + b → x < p + b → Agrees b p z qs → Agrees b p z (qs ++ record { at = x; frame = f } ∷ [])
agrees-near b p x z f qs h k a = by (cases_eq x p)
  where
    by : (x ≡ p) ⊎ (x ≡ p → ⊥) → Agrees b p z (qs ++ record { at = x; frame = f } ∷ [])
    by (inl e) = subst (λ (y : ℕ). Agrees b p z (qs ++ record { at = y; frame = f } ∷ [])) (sym e) (agrees-own b p z f qs)
    by (inr n) =
        let q : Put = record { at = x; frame = f } in
        let other : nat_eq x p ≡ false = grind (arith, nat_tests, n) in
        frame_at-snoc p qs q ∙ ap (λ t. first_of (if t then Some f else None) (frame_at p qs)) other ∙ a
        ∙ sym (ap Some (standing-snoc b p z qs q ∙ ap (λ t. if t then f else standing qs b p z) (apart-slots b p x n h k)))

-- frames put less than a buffer from p
pub agrees-run : (b p x : ℕ) (z : Frame) (fs : List Frame) (qs : List Put) → p < x + b → x + length fs ≤ p + b → Agrees b p z qs → Agrees b p z (put_at x fs qs)
agrees-run b p x z [] qs h k a = a
agrees-run b p x z (f ∷ fs) qs h k a =
    agrees-run b p (x + 1) z fs (qs ++ record { at = x; frame = f } ∷ []) (omega (arith, h)) (omega (arith, k)) (agrees-near b p x z f qs h (omega (arith, k)) a)

-- and p is one of them
pub agrees-put : (b p x : ℕ) (z : Frame) (fs : List Frame) (qs : List Put) → 0 < b → x ≤ p → p < x + length fs → x + length fs ≤ p + b → Agrees b p z (put_at x fs qs)
agrees-put b p x z [] qs some low high k = absurd (omega (arith, low, high))
agrees-put b p x z (f ∷ fs) qs some low high k = by (cases_lt x p) (λ l m n. agrees-put b p (x + 1) z fs (qs ++ record { at = x; frame = f } ∷ []) some l m n)
  where
    by : (x < p) ⊎ (p ≤ x) → (x + 1 ≤ p → p < x + 1 + length fs → x + 1 + length fs ≤ p + b → Agrees b p z (put_at (x + 1) fs (qs ++ record { at = x; frame = f } ∷ []))) → Agrees b p z (put_at x (f ∷ fs) qs)
    by (inl l) later = later (omega (arith, l)) (omega (arith, high)) (omega (arith, k))
    by (inr l) later =
        let same : x ≡ p = omega (arith, low, l) in
        let own : Agrees b p z (qs ++ record { at = x; frame = f } ∷ []) = subst (λ (y : ℕ). Agrees b p z (qs ++ record { at = y; frame = f } ∷ [])) (sym same) (agrees-own b p z f qs) in
        agrees-run b p (x + 1) z fs (qs ++ record { at = x; frame = f } ∷ []) (omega (arith, same, some)) (omega (arith, k)) own

-- ---- a position that was written

-- Position p was written, and neither the client nor the card is a buffer behind it. As long as the card is not reported beyond it, the last frame put at p itself stands there.
pub record Stays (b p : ℕ) (z : Frame) (s : Stream) : Type 0 where
  pub way : s.dir ≡ dir.Playback
  pub buffer : s.setup.buffer ≡ b
  pub zero : zero_frame s ≡ z
  pub near : p < s.at.hw + b
  pub written : p < s.at.appl + b
  pub stands : s.at.hw ≤ p → Agrees b p z s.puts
  pub fit : AllFit dir.Playback s.sleepers

abbrev pub Like : Stream → Stream → Type 0
Like s t = (t.dir ≡ s.dir) × (t.setup.buffer ≡ s.setup.buffer) × (zero_frame t ≡ zero_frame s) × (t.puts ≡ s.puts) × (t.sleepers ≡ s.sleepers)

-- the same puts, the card no further back and the client no more than a buffer behind
pub moved-on : (b p : ℕ) (z : Frame) (s t : Stream) → Like s t → s.at.hw ≤ t.at.hw → p < t.at.appl + b → Stays b p z s → Stays b p z t
moved-on b p z s t l hw appl h = record {
  way = l.0 ∙ h.way;
  buffer = l.1 ∙ h.buffer;
  zero = l.2 ∙ h.zero;
  near = omega (arith, h.near, hw);
  written = appl;
  stands = λ k. subst (Agrees b p z) (sym l.3) (h.stands (omega (arith, hw, k)));
  fit = subst (AllFit dir.Playback) (sym l.4) h.fit;
}

pub like : (s : Stream) → Like s s
like s = (refl, refl, refl, refl, refl)

pub same : (b p : ℕ) (z : Frame) (s t : Stream) → Like s t → t.at.hw ≡ s.at.hw → t.at.appl ≡ s.at.appl → Stays b p z s → Stays b p z t
same b p z s t l hw appl h = moved-on b p z s t l (omega (arith, hw)) (omega (arith, appl, h.written)) h

-- silence that reaches at most a buffer ahead of the card
stays-filled : (b p : ℕ) (z : Frame) (s : Stream) (x n : ℕ) (f : Frame) (e : ℕ) → s.at.hw ≤ x → (n ≡ 0) ⊎ (x + n ≤ s.at.hw + b) → Stays b p z s
    → Stays b p z (record s { puts = put_at x (replicate n f) s.puts; at = record s.at { filled = e } })
stays-filled b p z s x n f e low end h = record {
  way = h.way;
  buffer = h.buffer;
  zero = h.zero;
  near = h.near;
  written = h.written;
  stands = λ k. by end k;
  fit = h.fit;
}
  where
    by : (n ≡ 0) ⊎ (x + n ≤ s.at.hw + b) → s.at.hw ≤ p → Agrees b p z (put_at x (replicate n f) s.puts)
    by (inl none) k = subst (λ (m : ℕ). Agrees b p z (put_at x (replicate m f) s.puts)) (sym none) (h.stands k)
    by (inr far) k =
        let size : length (replicate n f) ≡ n = length-replicate n f in
        agrees-run b p x z (replicate n f) s.puts (omega (arith, low, h.near)) (omega (arith, size, far, k)) (h.stands k)

-- where silence ends, in a stream whose positions are sound once it is put
fill-ends : (n x e m : ℕ) → (if nat_eq n 0 then e else x + n) ≤ m → (n ≡ 0) ⊎ (x + n ≤ m)
fill-ends zero x e m h = inl refl
fill-ends (suc n) x e m h = inr (grind (arith, nat_tests, h))

fill-above : (s : Stream) → s.at.hw ≤ fill_start s
fill-above s = omega arith

-- a stream without a configuration has no buffer, so nothing is near
no-buffer : (b p : ℕ) (z : Frame) (s : Stream) → s.setup ≡ no_setup → Stays b p z s → (p < s.at.hw) × (b ≡ 0)
no-buffer b p z s e h =
    let none : b ≡ 0 = sym h.buffer ∙ ap (λ u. u.buffer) e in
    (omega (arith, h.near, none), none)

-- silence in a sound stream
stays-fill : (b p : ℕ) (z : Frame) (s : Stream) → Sound (fill s) → Stays b p z s → Stays b p z (fill s)
stays-fill b p z s sound h = by s.setup.config sound
  where
    by : (o : Option Config) → SoundAt o (fill s) → Stays b p z (fill s)
    by (Some c) q =
        let far : (fill s).at.filled ≤ s.at.hw + b = omega (arith, q.placed.filled, h.buffer) in
        stays-filled b p z s (fill_start s) (fill_count s) (silent_frame s) (fill s).at.filled (fill-above s) (fill-ends (fill_count s) (fill_start s) s.at.filled (s.at.hw + b) far) h
    by None q =
        let bare : (p < s.at.hw) × (b ≡ 0) = no-buffer b p z s q.setup h in record {
          way = h.way;
          buffer = h.buffer;
          zero = h.zero;
          near = h.near;
          written = h.written;
          stands = λ k. absurd (omega (arith, bare.0, k));
          fit = h.fit;
        }

-- ---- updates

lapped-above : (s : Stream) → s.at.appl ≤ lapped s
lapped-above s = by (nat_le s.setup.boundary (avail s))
  where
    by : (t : Bool) → s.at.appl ≤ cond t (s.at.appl + s.setup.boundary) s.at.appl
    by true = omega arith
    by false = omega arith

stays-settled : (b p : ℕ) (z : Frame) (u : Updated) (s : Stream) → Stays b p z s → Stays b p z (settled u s)
stays-settled b p z updated.Nothing s h = h
stays-settled b p z updated.StopXrun s h = h
stays-settled b p z updated.DrainDone s h = same b p z s (settled updated.DrainDone s) (like s) refl refl h

stays-reported : (b p : ℕ) (z : Frame) (s : Stream) → s.at.hw ≤ s.at.card → Stays b p z s → Stays b p z (lap (reported s))
stays-reported b p z s up h = moved-on b p z s (lap (reported s)) (like s) up (omega (arith, lapped-above (reported s), h.written)) h

stays-update : (b p : ℕ) (z : Frame) (s : Stream) → Sound s → Stays b p z s → Stays b p z (update s).stream
stays-update b p z s sound h = by s.card.runs refl
  where
    up : s.card.runs ≡ true → (o : Option Config) → SoundAt o s → Stays b p z (moved_up s)
    up runs (Some c) q =
        let far : (moved_up s).at.filled ≤ s.at.card + b = omega (arith, (IsConfigured-moved_up c s q).placed.filled, h.buffer) in
        let t : Stream = lap (reported s) in
        stays-filled b p z t (fill_start t) (fill_count t) (silent_frame t) (moved_up s).at.filled (fill-above t) (fill-ends (fill_count t) (fill_start t) t.at.filled (s.at.card + b) far)
        (stays-reported b p z s q.placed.reported h)
    up runs None q = absurd (let k : s.card.runs ≡ false = q.stands in cc)

    by : (r : Bool) → s.card.runs ≡ r → (let q : Refreshed = if r then record { found = found (moved_up s); stream = settled (found (moved_up s)) (moved_up s) } else record { found = updated.Nothing; stream = s } in Stays b p z q.stream)
    by true e = stays-settled b p z (found (moved_up s)) (moved_up s) (up e s.setup.config sound)
    by false e = h

-- ---- acts

stays-starts : (b p : ℕ) (z : Frame) (t : State) (s : Stream) → Sound (fill (set_runs true (set_state t s))) → Stays b p z s → Stays b p z (fill (set_runs true (set_state t s)))
stays-starts b p z t s sound h = stays-fill b p z (set_runs true (set_state t s)) sound (same b p z s (set_runs true (set_state t s)) (like s) refl refl h)

stays-stops : (b p : ℕ) (z : Frame) (u : State) (s : Stream) (t : State) → Stays b p z s
    → Stays b p z (stopped_in t u s)
stays-stops b p z u s state.Closed h = h
stays-stops b p z u s state.Opened h = h
stays-stops b p z u s state.Disconnected h = h
stays-stops b p z u s _ h = same b p z s (set_runs false (record s { state = u; kept = None })) (like s) refl refl h

stays-resumes : (b p : ℕ) (z : Frame) (s : Stream) (k : Option State) → Stays b p z s
    → Stays b p z (resumed_to k s)
stays-resumes b p z s None h = h
stays-resumes b p z s (Some t) h = same b p z s (set_runs (runs_in s.dir t) (record s { state = t; kept = None })) (like s) refl refl h

stays-one_of : (b p : ℕ) (z : Frame) (c : Bool) (s t : Stream) → (c ≡ true → Stays b p z s) → (c ≡ false → Stays b p z t) → Stays b p z (cond c s t)
stays-one_of b p z true s t e g = e refl
stays-one_of b p z false s t e g = g refl

abbrev pub drained_by : Stream → Dir → State → Stream
drained_by s d t = drained_from d t s

stays-drains : (b p : ℕ) (z : Frame) (s : Stream) (d : Dir) (t : State) → Sound (drained_by s d t) → Stays b p z s → Stays b p z (drained_by s d t)
stays-drains b p z s dir.Playback state.Prepared sound h = by (nat_lt (avail s) s.setup.buffer) sound
  where
    by : (c : Bool) → Sound (cond c (fill (set_runs true (set_state state.Draining s))) (set_state state.Setup s)) → Stays b p z (cond c (fill (set_runs true (set_state state.Draining s))) (set_state state.Setup s))
    by true q = stays-starts b p z state.Draining s q h
    by false q = same b p z s (set_state state.Setup s) (like s) refl refl h
stays-drains b p z s dir.Playback state.Running sound h = same b p z s (set_state state.Draining s) (like s) refl refl h
stays-drains b p z s dir.Playback state.Xrun sound h = same b p z s (set_state state.Setup s) (like s) refl refl h
stays-drains b p z s dir.Playback _ sound h = h
stays-drains b p z s dir.Capture state.Running sound h = by (nat_lt 0 (avail s))
  where
    by : (c : Bool) → Stays b p z (set_runs false (cond c (set_state state.Draining s) (set_state state.Setup s)))
    by true = same b p z s (set_runs false (set_state state.Draining s)) (like s) refl refl h
    by false = same b p z s (set_runs false (set_state state.Setup s)) (like s) refl refl h
stays-drains b p z s dir.Capture _ sound h = h

stays-done : (b p : ℕ) (z : Frame) (a : Act) (s : Stream) → is_prepare a outcome.Done ≡ false → Sound (done a s) → Stays b p z s → Stays b p z (done a s)
stays-done b p z act.Start s y sound h = stays-starts b p z state.Running s sound h
stays-done b p z (act.Stop u) s y sound h = stays-stops b p z u s s.state h
stays-done b p z (act.Prepare first) s y sound h = absurd (cc)
stays-done b p z act.Pause s y sound h = same b p z s (done act.Pause s) (like s) refl refl h
stays-done b p z act.Release s y sound h = same b p z s (done act.Release s) (like s) refl refl h
stays-done b p z act.Suspend s y sound h = same b p z s (done act.Suspend s) (like s) refl refl h
stays-done b p z act.Resume s y sound h = stays-resumes b p z s s.kept h
stays-done b p z act.Drain s y sound h = stays-drains b p z s s.dir s.state sound h
stays-done b p z act.Watch s y sound h = h

stays-asked : (b p : ℕ) (z : Frame) (a : Act) (s : Stream) → Stays b p z s → Stays b p z (asked s a)
stays-asked b p z a s h = stays-one_of b p z (asks s a) (consulted s) s (λ _. same b p z s (consulted s) (like s) refl refl h) (λ _. h)

pub stays-after : (b p : ℕ) (z : Frame) (a : Act) (v : Vote) (o : Outcome) (s : Stream) → is_prepare a o ≡ false → Sound (after a v o s) → Stays b p z s → Stays b p z (after a v o s)
stays-after b p z a v outcome.Done s y sound h = stays-done b p z a (asked s a) y sound (stays-asked b p z a s h)
stays-after b p z a v (outcome.Refused k e) s y sound h = h
stays-after b p z a v (outcome.Failed k) s y sound h = stays-one_of b p z (was_asked v) (asked s a) s (λ _. stays-asked b p z a s h) (λ _. h)

-- ---- movements and pointers

stays-move : (b p : ℕ) (z : Frame) (n : ℕ) (s : Stream) → Stays b p z s → Stays b p z (move n s).stream
stays-move b p z n s h = by (not s.card.runs) (nat_le (s.at.hw + s.setup.buffer) (s.at.card + n)) (nat_lt 67108864 (taken_bytes n s))
  where
    by : (stands far much : Bool) → (let m : Movement = if stands then record { reply = reply.Idle; frames = []; stream = s } else if far then record { reply = reply.Late (s.setup.buffer - 1 - (s.at.card - s.at.hw)); frames = []; stream = s } else if much then record { reply = reply.Limit (taken_bytes n s); frames = []; stream = s } else record { reply = reply.Moved n; frames = carried_frames n s; stream = carried n s } in Stays b p z m.stream)
    by true far much = h
    by false true much = h
    by false false true = h
    by false false false = subst (Stays b p z) (sym (carried-playback n s h.way)) (same b p z s (played n s) (like s) refl refl h)

-- the frames written lie behind the card's head
avail-head : (s : Stream) → s.dir ≡ dir.Playback → avail s ≡ s.at.hw + s.setup.buffer - s.at.appl
avail-head s e = playback-avail s e

pub stays-put : (b p : ℕ) (z : Frame) (fs : List Frame) (s : Stream) → length fs ≤ avail s → Stays b p z s → Stays b p z (put_next fs s)
stays-put b p z fs s few h = record {
  way = h.way;
  buffer = h.buffer;
  zero = h.zero;
  near = h.near;
  written = omega (arith, h.written);
  stands = λ k. by fs few k;
  fit = h.fit;
}
  where
    by : (gs : List Frame) → length gs ≤ avail s → s.at.hw ≤ p → Agrees b p z (put_at s.at.appl gs s.puts)
    by [] l k = h.stands k
    by (g ∷ gs) l k =
        let end : s.at.appl + length (g ∷ gs) ≤ p + b = omega (arith, l, avail-head s h.way, h.buffer, k) in
        agrees-run b p s.at.appl z (g ∷ gs) s.puts h.written end (h.stands k)

-- what is written now
pub stays-written : (b p : ℕ) (z : Frame) (fs : List Frame) (s : Stream) → s.dir ≡ dir.Playback → s.setup.buffer ≡ b → zero_frame s ≡ z → AllFit dir.Playback s.sleepers
    → length fs ≤ avail s → s.at.appl ≤ p → p < s.at.appl + length fs → Stays b p z (put_next fs s)
stays-written b p z fs s way size none fit few low high =
    let near : p < s.at.hw + b = omega (arith, few, high, avail-head s way, size) in record {
      way = way;
      buffer = size;
      zero = none;
      near = near;
      written = omega (arith, low, high, near);
      stands = λ k. agrees-put b p s.at.appl z fs s.puts (omega (arith, near, k)) low high (omega (arith, few, high, avail-head s way, size, k));
      fit = fit;
    }

rewind-near : (b p : ℕ) (z : Frame) (n : ℕ) (s : Stream) → n ≤ hw_avail s → Stays b p z s → p < s.at.appl - n + b
rewind-near b p z n s few h = omega (arith, few, h.near, h.written, avail-head s h.way, h.buffer)

-- ---- all changes of a sound stream, but for a sync

pub stays-kept : (b p : ℕ) (z : Frame) → ((k : SubId) (a : Act) (v : Vote) (o : Outcome) (s : Stream) → is_stop a ≡ true → Fits k s a v o → Sound s → Sound (after a v o s)) → IsKept is_prepare dir.Playback (Stays b p z)
stays-kept b p z sounds = record {
  way = λ s h. h.way;
  fit = λ c x wanted s h e. fit-of dir.Playback c s.sleepers x wanted h.fit e;
  updated = λ s sound h. stays-update b p z s sound h;
  acts = λ k a v o s i f y sound h. stays-after b p z a v o s y (sounds k a v o s i f sound) h;
  backs = λ n s few sound h. moved-on b p z s (record s { at = record s.at { appl = s.at.appl - n } }) (like s) (let k : s.at.hw ≤ s.at.hw = omega arith in k) (rewind-near b p z n s few h) h;
  ons = λ n s few sound h. moved-on b p z s (record s { at = record s.at { appl = s.at.appl + n } }) (like s) (let k : s.at.hw ≤ s.at.hw = omega arith in k) (omega (arith, h.written)) h;
  puts = λ fs s i few sound h. stays-put b p z fs s few h;
  moves = λ n s sound h. stays-move b p z n s h;
  sleeps = λ c x rest m wanted s y h. record { way = h.way; buffer = h.buffer; zero = h.zero; near = h.near; written = h.written; stands = h.stands; fit = fit-more dir.Playback (waiting_for c x rest m wanted) s.sleepers h.fit y };
  drains = λ c s h. record { way = h.way; buffer = h.buffer; zero = h.zero; near = h.near; written = h.written; stands = h.stands; fit = fit-more dir.Playback (record { client = c; task = task.Drain }) s.sleepers h.fit tt };
  leaves = λ c s h. record { way = h.way; buffer = h.buffer; zero = h.zero; near = h.near; written = h.written; stands = h.stands; fit = fit-others dir.Playback c s.sleepers h.fit };
  maps = λ n s h. same b p z s _ (like s) refl refl h;
  sws = λ v s h. same b p z s _ (like s) refl refl h;
  plans = λ n s h. same b p z s _ (like s) refl refl h;
  gives = λ gs s h. same b p z s _ (like s) refl refl h;
  unplugs = λ s h. same b p z s _ (like s) refl refl h;
}
