-- A device that plays, by its configuration.
use Rattle.std.proofs.Common.{ℕ, zero, suc, ◌≡◌, ◌≢◌, ◌+◌, ◌-◌, ◌*◌, ◌<◌, ◌≤◌, Bool, true, false, List, [], ◌∷◌, length, take, drop, replicate, refl, sym, ap, ◌∙◌, subst, arith}
use Rattle.std.proofs.Math.Nat.{mul-le-mul_left, mul-le-mul_right}
use Rattle.pcm_base.specs.declared.act.Updated.TheVariants as updated
use Rattle.pcm_base.specs.declared.call.Call.TheVariants as call
use Rattle.pcm_base.specs.declared.call.Layout.TheVariants as layout
use Rattle.pcm_base.specs.declared.call.Mode.TheVariants as mode
use Rattle.pcm_base.specs.declared.config.Config.{Config}
use Rattle.pcm_base.specs.declared.ids.ClientId.{ClientId}
use Rattle.pcm_base.specs.declared.reply.Reply.TheVariants as reply
use Rattle.pcm_base.specs.declared.state.Dir.TheVariants as dir
use Rattle.pcm_base.specs.declared.state.State.{State}
use Rattle.pcm_base.specs.declared.state.State.TheVariants as state
use Rattle.pcm_base.specs.Boundary.{boundary_of}
use Rattle.pcm_base.specs.model.Allowed.{buffer_of, frame_bytes_of}
use Rattle.pcm_base.specs.model.Events.{program}
use Rattle.pcm_base.specs.model.Frame.{Frame, frames_of}
use Rattle.pcm_base.specs.model.Movement.{Movement, move}
use Rattle.pcm_base.specs.model.Standing.{standing_at}
use Rattle.pcm_base.specs.model.Stream.{Stream}
use Rattle.pcm_base.specs.model.Update.{Refreshed, update}
use Rattle.pcm_base.specs.model.Words.{is_closed}
use Rattle.play_record.specs.Stages.{IsSized, long_max, plays}
use Rattle.play_record.specs.Steps.{CanMoveOn, GoesTo, moved_on}
use Rattle.play_record.proofs.PlayEvents.{RingLaws, WriteLaws, goes-first_write, goes-write, moves-playing, put_of}
use Rattle.play_record.proofs.Counts.{ahead-full, ahead-more, ahead-one, below, fewer-bytes, played-next, within, written-next}
use Rattle.play_record.proofs.Frames.{frames_of-take}
use Rattle.play_record.proofs.Quiet.{Sizes, update-drained, update-draining, update-running}

pub sizes-of : (g : Config) → IsSized g → Sizes (frame_bytes_of g) (buffer_of g) (boundary_of (buffer_of g) long_max)
sizes-of g sized = record { frame = sized.sound.frame; least = sized.sound.least; room = sized.sound.room; whole = sized.whole }

-- a buffer has more than one period
pub more-periods : (g : Config) → IsSized g → g.period < buffer_of g
more-periods g sized =
    let two : g.period * 2 ≤ g.period * g.periods = mul-le-mul_left g.period sized.two in
    omega (arith, two, sized.some)

-- ---- the card moves on

-- a movement and an update that are known
pub can : (n : ℕ) (s v : Stream) (m : Movement) (r : Refreshed) → is_closed s.state ≡ false → move n s ≡ m → m.reply ≡ reply.Moved n → m.stream ≡ v → is_closed v.state ≡ false → v.sleepers ≡ []
    → update v ≡ r → r.found ≢ updated.StopXrun → r.stream.sleepers ≡ [] → CanMoveOn n s × (moved_on n s ≡ r.stream)
can n s v m r opened is answers leaves still calls finds quiet after =
    let there : (move n s).stream ≡ v = ap (λ x. x.stream) is ∙ leaves in
    let updates : update (move n s).stream ≡ r = ap update there ∙ finds in (
      record {
        is_open = opened;
        moves = ap (λ x. x.reply) is ∙ answers;
        still_open = ap (λ x. is_closed x.state) there ∙ still;
        quiet = λ e. quiet (ap (λ x. x.found) (sym updates) ∙ e);
        calls = ap (λ x. x.sleepers) there ∙ calls;
        calls_after = ap (λ x. x.stream.sleepers) updates ∙ after;
      },
      ap (λ x. x.stream) updates,
    )

-- what is free once a period is taken
free : (l c n m b : ℕ) → n + m ≤ b → 0 < m → l + (c + n) + b - (l + (c + (n + m))) < b
free l c n m b few more = omega (arith, few, more)

abbrev width : Config → ℕ
width g = frame_bytes_of g

abbrev room_of : Config → ℕ
room_of g = buffer_of g

abbrev origin_of : Config → ℕ
origin_of g = boundary_of (buffer_of g) long_max

module _ (laws : RingLaws) (g : Config) (sized : IsSized g) (bytes : List ℕ) where
  abbrev Leads : Stream → Stream → Type 0
  Leads s t = CanMoveOn g.period s × (moved_on g.period s ≡ t)

  abbrev Short : ℕ → Type 0
  Short c = (c + g.period) * (width g) ≤ 67108864

  moved : (c m : ℕ) (t : State) → g.period + m ≤ (room_of g) → Short c
      → move g.period (plays g bytes t true c (c + (g.period + m)) c) ≡ record { reply = reply.Moved g.period; frames = standing_at (put_of (origin_of g) (width g) (c + (g.period + m)) bytes) (room_of g) ((origin_of g) + c) g.period (replicate (width g) 0); stream = plays g bytes t true c (c + (g.period + m)) (c + g.period) }
  moved c m t few short = moves-playing laws g (width g) (room_of g) (origin_of g) (sizes-of g sized) bytes c g.period m t few (more-periods g sized) short

  running : (c m : ℕ) → g.period + m ≤ (room_of g) → 0 < m → Short c
      → Leads (plays g bytes state.Running true c (c + (g.period + m)) c) (plays g bytes state.Running true (c + g.period) (c + (g.period + m)) (c + g.period))
  running c m few more short =
      let n : ℕ = g.period in
      let u : ℕ = c + (n + m) in
      let v : Stream = plays g bytes state.Running true c u (c + n) in
      let t : Stream = plays g bytes state.Running true (c + n) u (c + n) in
      can n (plays g bytes state.Running true c u c) v _ (record { found = updated.Nothing; stream = t }) refl (moved c m state.Running few short) refl refl refl refl
      (update-running g (width g) (room_of g) (origin_of g) (sizes-of g sized) dir.Playback c u (c + n) (put_of (origin_of g) (width g) u bytes) (frames_of (c + n) (width g) bytes) [] (free (origin_of g) c n m (room_of g) few more)) (λ e. absurd (cc)) refl

  draining : (c m : ℕ) → g.period + m ≤ (room_of g) → 0 < m → Short c
      → Leads (plays g bytes state.Draining true c (c + (g.period + m)) c) (plays g bytes state.Draining true (c + g.period) (c + (g.period + m)) (c + g.period))
  draining c m few more short =
      let n : ℕ = g.period in
      let u : ℕ = c + (n + m) in
      let v : Stream = plays g bytes state.Draining true c u (c + n) in
      let t : Stream = plays g bytes state.Draining true (c + n) u (c + n) in
      can n (plays g bytes state.Draining true c u c) v _ (record { found = updated.Nothing; stream = t }) refl (moved c m state.Draining few short) refl refl refl refl
      (update-draining g (width g) (room_of g) (origin_of g) (sizes-of g sized) c u (c + n) (put_of (origin_of g) (width g) u bytes) (frames_of (c + n) (width g) bytes) [] (omega (arith, more)) (omega (arith, few))) (λ e. absurd (cc)) refl

  drained : (c : ℕ) → Short c
      → Leads (plays g bytes state.Draining true c (c + (g.period + 0)) c) (plays g bytes state.Setup false (c + g.period) (c + g.period) (c + g.period))
  drained c short =
      let n : ℕ = g.period in
      let u : ℕ = c + (n + 0) in
      let same : u ≡ c + n = omega arith in
      let v : Stream = plays g bytes state.Draining true c (c + n) (c + n) in
      let t : Stream = plays g bytes state.Setup false (c + n) (c + n) (c + n) in
      can n (plays g bytes state.Draining true c u c) v _ (record { found = updated.DrainDone; stream = t }) refl (moved c 0 state.Draining (omega (arith, more-periods g sized)) short) refl
      (ap (λ i. plays g bytes state.Draining true c i (c + n)) same) refl refl
      (update-drained g (width g) (room_of g) (origin_of g) (sizes-of g sized) c (c + n) (put_of (origin_of g) (width g) (c + n) bytes) (frames_of (c + n) (width g) bytes) []) (λ e. absurd (cc)) refl

  -- The card moves on by a period while more of the sound is written than it has then played.
  pub moves-on : (u c : ℕ) → c + g.period < u → u ≤ c + (room_of g) → Short c → Leads (plays g bytes state.Running true c u c) (plays g bytes state.Running true (c + g.period) u (c + g.period))
  moves-on u c more room short =
      let m : ℕ = u - c - g.period in
      let is : c + (g.period + m) ≡ u = omega (arith, more) in
      subst (λ i. Leads (plays g bytes state.Running true c i c) (plays g bytes state.Running true (c + g.period) i (c + g.period))) is (running c m (omega (arith, is, room)) (omega (arith, is, more)) short)

  -- the same while it drains
  pub drains-on : (u c : ℕ) → c + g.period < u → u ≤ c + (room_of g) → Short c → Leads (plays g bytes state.Draining true c u c) (plays g bytes state.Draining true (c + g.period) u (c + g.period))
  drains-on u c more room short =
      let m : ℕ = u - c - g.period in
      let is : c + (g.period + m) ≡ u = omega (arith, more) in
      subst (λ i. Leads (plays g bytes state.Draining true c i c) (plays g bytes state.Draining true (c + g.period) i (c + g.period))) is (draining c m (omega (arith, is, room)) (omega (arith, is, more)) short)

  -- and the last period of a drain
  pub drains-last : (u c : ℕ) → c + g.period ≡ u → Short c → Leads (plays g bytes state.Draining true c u c) (plays g bytes state.Setup false u u u)
  drains-last u c is short =
      let same : c + (g.period + 0) ≡ c + g.period = omega arith in
      subst (λ i. Leads (plays g bytes state.Draining true c i c) (plays g bytes state.Setup false i i i)) is
      (subst (λ i. Leads (plays g bytes state.Draining true c i c) (plays g bytes state.Setup false (c + g.period) (c + g.period) (c + g.period))) same (drained c short))

  upper : (i count : ℕ) → i < count → (i + 1) * g.period ≤ count * g.period
  upper i count less = mul-le-mul_right g.period (omega (arith, less))

  -- period i of so many fits in what a card may take
  fits : (i count : ℕ) → i < count → count * g.period * width g ≤ 67108864 → Short (i * g.period)
  fits i count less most = fewer-bytes (i * g.period + g.period) (count * g.period) (width g) 67108864 (omega (arith, written-next i g.period, upper i count less)) most

  -- period i of so many is taken while the device drains, and is not the last
  pub drain-more : (i count : ℕ) → i + 1 < count → count ≤ i + g.periods → count * g.period * width g ≤ 67108864
      → Leads (plays g bytes state.Draining true (i * g.period) (count * g.period) (i * g.period)) (plays g bytes state.Draining true ((i + 1) * g.period) (count * g.period) ((i + 1) * g.period))
  drain-more i count less near most =
      let n : ℕ = g.period in
      let next : i * n + n ≡ (i + 1) * n = written-next i n in
      let here : i < count = omega (arith, less) in
      let more : i * n + n < count * n = ahead-one i count n less sized.some in
      let all : count * n ≤ i * n + room_of g = within i count n g.periods near in
      subst (λ x. Leads (plays g bytes state.Draining true (i * n) (count * n) (i * n)) (plays g bytes state.Draining true x (count * n) x)) next (drains-on (count * n) (i * n) more all (fits i count here most))

  -- the last one
  pub drain-last : (i count : ℕ) → i + 1 ≡ count → count * g.period * width g ≤ 67108864
      → Leads (plays g bytes state.Draining true (i * g.period) (count * g.period) (i * g.period)) (plays g bytes state.Setup false (count * g.period) (count * g.period) (count * g.period))
  drain-last i count last most =
      drains-last (count * g.period) (i * g.period) (written-next i g.period ∙ ap (λ x. x * g.period) last) (fits i count (omega (arith, last)) most)

  -- where the buffer is full, the card moves on before piece i of so many
  pub room-full : (i count : ℕ) → g.periods ≤ i → i < count → count * g.period * width g ≤ 67108864
      → Leads (plays g bytes state.Running true ((i - g.periods) * g.period) (i * g.period) ((i - g.periods) * g.period)) (plays g bytes state.Running true ((i + 1 - g.periods) * g.period) (i * g.period) ((i + 1 - g.periods) * g.period))
  room-full i count full less most =
      let n : ℕ = g.period in
      let p : ℕ = g.periods in
      let more : (i - p) * n + n < i * n = ahead-more i p n full sized.two sized.some in
      let all : i * n ≤ (i - p) * n + room_of g = omega (arith, ahead-full i p n full) in
      let short : Short ((i - p) * n) = fewer-bytes ((i - p) * n + n) (count * n) (width g) 67108864 (omega (arith, more, mul-le-mul_right n (below i count less))) most in
      subst (λ x. Leads (plays g bytes state.Running true ((i - p) * n) (i * n) ((i - p) * n)) (plays g bytes state.Running true x (i * n) x)) (played-next i p n full) (moves-on (i * n) ((i - p) * n) more all short)

-- ---- the client writes

module _ (laws : RingLaws) (writes : WriteLaws) (g : Config) (sized : IsSized g) (bytes : List ℕ) where
  abbrev Next : ℕ → ℕ → List ℕ → Type 0
  Next u n io = (length io ≡ n * (width g)) × (io ≡ take (n * (width g)) (drop (u * (width g)) bytes))

  next_frames : (u n : ℕ) (io : List ℕ) → Next u n io → (length io ≡ n * (width g)) × (frames_of n (width g) io ≡ frames_of n (width g) (drop (u * (width g)) bytes))
  next_frames u n io h = (h.0, ap (frames_of n (width g)) h.1 ∙ frames_of-take n (width g) (drop (u * (width g)) bytes))

  pub writes-next : (k : ClientId) (io : List ℕ) (u c n : ℕ) → 1 ≤ n → c < u → u + n ≤ c + (room_of g) → Next u n io
      → GoesTo (program (call.Write layout.Interleaved mode.NonBlock) k false io (plays g bytes state.Running true c u c)) (record { reply = reply.Frames n; first = 0; frames = frames_of n (width g) io }) (plays g bytes state.Running true c (u + n) c)
  writes-next k io u c n some more room next = goes-write laws writes g sized.access (width g) (room_of g) (origin_of g) (sizes-of g sized) bytes k io u c n some more room (next_frames u n io next)

  pub writes-first : (k : ClientId) (io : List ℕ) (n : ℕ) → 1 ≤ n → n ≤ (room_of g) → Next 0 n io
      → GoesTo (program (call.Write layout.Interleaved mode.NonBlock) k false io (plays g bytes state.Prepared false 0 0 0)) (record { reply = reply.Frames n; first = 0; frames = frames_of n (width g) io }) (plays g bytes state.Running true 0 n 0)
  writes-first k io n some room next =
      let same : 0 + n ≡ n = omega arith in
      subst (λ i. GoesTo (program (call.Write layout.Interleaved mode.NonBlock) k false io (plays g bytes state.Prepared false 0 0 0)) (record { reply = reply.Frames n; first = 0; frames = frames_of n (width g) io }) (plays g bytes state.Running true 0 i 0)) same
      (goes-first_write laws writes g sized.access (width g) (room_of g) (origin_of g) (sizes-of g sized) bytes k io n some room (next_frames 0 n io next))
