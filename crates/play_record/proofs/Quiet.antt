-- Updates and movements of a device, which find nothing to do besides.
use Rattle.std.proofs.Common.{ℕ, zero, suc, ◌≡◌, ◌+◌, ◌-◌, ◌*◌, ◌/◌, ◌%◌, ◌<◌, ◌≤◌, Bool, true, false, cond, not, ◌&&◌, nat_eq, nat_lt, nat_le, List, [], ◌∷◌, ◌++◌, length, take, drop, min, max, replicate, refl, sym, ap, ◌∙◌, subst, arith}
use Rattle.std.proofs.lemmas.Bool.Decides.{nat_tests}
use Rattle.std.specs.declared.option.Option.TheVariants.{Some, None}
use Rattle.pcm_base.specs.declared.act.Updated.{Updated}
use Rattle.pcm_base.specs.declared.act.Updated.TheVariants as updated
use Rattle.pcm_base.specs.declared.config.Config.{Config}
use Rattle.pcm_base.specs.declared.reply.Reply.TheVariants as reply
use Rattle.pcm_base.specs.declared.state.Dir.{Dir}
use Rattle.pcm_base.specs.declared.state.Dir.TheVariants as dir
use Rattle.pcm_base.specs.declared.state.State.{State}
use Rattle.pcm_base.specs.declared.state.State.TheVariants as state
use Rattle.pcm_base.specs.model.Frame.{Frame}
use Rattle.pcm_base.specs.model.Movement.{Movement, move, carried, carried_frames, taken_bytes, taken_by}
use Rattle.pcm_base.specs.model.Standing.{Put, put_at, standing_at}
use Rattle.pcm_base.specs.model.Stream.{Setup, Stream, avail, zero_frame}
use Rattle.pcm_base.specs.model.Update.{Refreshed, fill, fill_count, fill_start, found, lap, moved_up, reported, settled, silent_frame, update}
use Rattle.play_record.specs.Stages.{device_at}

-- the sizes of a device that is set up
abbrev pub setup_with : Config → ℕ → ℕ → ℕ → Setup
setup_with g w b l = record { config = Some g; frame_bytes = w; buffer = b; boundary = l; sw = record { avail_min = g.period; start_threshold = 1; stop_threshold = b; silence_threshold = 0; silence_size = 0 } }

-- what the sizes of a configuration are
pub record Sizes (w b l : ℕ) : Type 0 where
  pub frame : 1 ≤ w
  pub least : 4 ≤ b
  pub room : 2 * b ≤ l
  pub whole : l % b ≡ 0

pub and_false : (a : Bool) → (a && false) ≡ false
and_false true = refl
and_false false = refl

none_of : (b : Bool) (x : ℕ) → x ≡ 0 → cond b x 0 ≡ 0
none_of true x h = h
none_of false x h = refl

pub fill_none : (s : Stream) → fill_count s ≡ 0 → fill s ≡ s
fill_none s h = ap (λ n. record s { puts = put_at (fill_start s) (replicate n (silent_frame s)) s.puts; at = record s.at { filled = cond (nat_eq n 0) s.at.filled (fill_start s + n) } }) h

lap_none : (s : Stream) → nat_le s.setup.boundary (avail s) ≡ false → lap s ≡ s
lap_none s h = ap (λ b. record s { at = record s.at { appl = cond b (s.at.appl + s.setup.boundary) s.at.appl } }) h

module _ (g : Config) (w b l : ℕ) (sizes : Sizes w b l) where
  -- no silence is asked for
  pub unfilled : (d : Dir) (t : State) (runs : Bool) (h u c : ℕ) (puts : List Put) (taken give : List Frame) → fill_count (device_at d (setup_with g w b l) t runs h u c puts taken give) ≡ 0
  unfilled dir.Capture t runs h u c puts taken give = refl
  unfilled dir.Playback t runs h u c puts taken give =
      let s : Stream = device_at dir.Playback (setup_with g w b l) t runs h u c puts taken give in
      let never : nat_le l 0 ≡ false = grind (arith, nat_tests, sizes.least, sizes.room) in
      let nothing : min 0 (s.at.hw + 0 - fill_start s) ≡ 0 = omega arith in
      ap (λ e. cond e (s.at.hw + b - fill_start s) (cond (nat_lt (fill_start s) (s.at.hw + 0)) (min 0 (s.at.hw + 0 - fill_start s)) 0)) never
      ∙ none_of (nat_lt (fill_start s) (s.at.hw + 0)) (min 0 (s.at.hw + 0 - fill_start s)) nothing

  -- the hardware position is moved up and nothing else
  moved : (d : Dir) (t : State) (runs : Bool) (h u c : ℕ) (puts : List Put) (taken give : List Frame) → avail (device_at d (setup_with g w b l) t runs c u c puts taken give) ≤ b
      → moved_up (device_at d (setup_with g w b l) t runs h u c puts taken give) ≡ device_at d (setup_with g w b l) t runs c u c puts taken give
  moved d t runs h u c puts taken give few =
      let s : Stream = device_at d (setup_with g w b l) t runs c u c puts taken give in
      let short : nat_le l (avail s) ≡ false = grind (arith, nat_tests, sizes.least, sizes.room, few) in
      ap fill (lap_none s short) ∙ fill_none s (unfilled d t runs c u c puts taken give)

  -- an update while the card runs and the buffer is neither empty nor full
  pub update-running : (d : Dir) (h u c : ℕ) (puts : List Put) (taken give : List Frame) → avail (device_at d (setup_with g w b l) state.Running true c u c puts taken give) < b
      → update (device_at d (setup_with g w b l) state.Running true h u c puts taken give) ≡ record { found = updated.Nothing; stream = device_at d (setup_with g w b l) state.Running true c u c puts taken give }
  update-running d h u c puts taken give few =
      let s : Stream = device_at d (setup_with g w b l) state.Running true c u c puts taken give in
      let stays : nat_le b (avail s) ≡ false = grind (arith, nat_tests, few) in
      let finds : found s ≡ updated.Nothing = ap (λ e. cond e updated.StopXrun updated.Nothing) stays in
      ap (λ v. record { found = found v; stream = settled (found v) v }) (moved d state.Running true h u c puts taken give (omega (arith, few)))
      ∙ ap (λ e. record { found = e; stream = settled e s }) finds

  -- and while it drains
  pub update-draining : (h u c : ℕ) (puts : List Put) (taken give : List Frame) → c < u → u ≤ c + b
      → update (device_at dir.Playback (setup_with g w b l) state.Draining true h u c puts taken give) ≡ record { found = updated.Nothing; stream = device_at dir.Playback (setup_with g w b l) state.Draining true c u c puts taken give }
  update-draining h u c puts taken give more room =
      let s : Stream = device_at dir.Playback (setup_with g w b l) state.Draining true c u c puts taken give in
      let free : avail s < b = omega (arith, more, room) in
      let stays : nat_le b (avail s) ≡ false = grind (arith, nat_tests, free) in
      let finds : found s ≡ updated.Nothing = ap (λ e. cond e updated.DrainDone updated.Nothing) stays in
      ap (λ v. record { found = found v; stream = settled (found v) v }) (moved dir.Playback state.Draining true h u c puts taken give (omega (arith, free)))
      ∙ ap (λ e. record { found = e; stream = settled e s }) finds

  pub update-drained : (h c : ℕ) (puts : List Put) (taken give : List Frame)
      → update (device_at dir.Playback (setup_with g w b l) state.Draining true h c c puts taken give) ≡ record { found = updated.DrainDone; stream = device_at dir.Playback (setup_with g w b l) state.Setup false c c c puts taken give }
  update-drained h c puts taken give =
      let s : Stream = device_at dir.Playback (setup_with g w b l) state.Draining true c c c puts taken give in
      let free : avail s ≡ b = omega arith in
      let ends : nat_le b (avail s) ≡ true = grind (arith, nat_tests, free) in
      let finds : found s ≡ updated.DrainDone = ap (λ e. cond e updated.DrainDone updated.Nothing) ends in
      ap (λ v. record { found = found v; stream = settled (found v) v }) (moved dir.Playback state.Draining true h c c puts taken give (omega (arith, free)))
      ∙ ap (λ e. record { found = e; stream = settled e s }) finds

-- a card that runs moves on where it is neither late nor at its limit
last_of : (a b d : Bool) (x y z v : Movement) → a ≡ true → b ≡ false → d ≡ false → cond (not a) x (cond b y (cond d z v)) ≡ v
last_of true false false x y z v e f h = refl
last_of true false true x y z v e f h = absurd (cc)
last_of true true d x y z v e f h = absurd (cc)
last_of false b d x y z v e f h = absurd (cc)

pub move-on : (n : ℕ) (s : Stream) → s.card.runs ≡ true → s.at.card + n < s.at.hw + s.setup.buffer → taken_bytes n s ≤ 67108864
    → move n s ≡ record { reply = reply.Moved n; frames = carried_frames n s; stream = carried n s }
move-on n s runs near short =
    let in_time : nat_le (s.at.hw + s.setup.buffer) (s.at.card + n) ≡ false = grind (arith, nat_tests, near) in
    let within : nat_lt 67108864 (taken_bytes n s) ≡ false = grind (arith, nat_tests, short) in
    last_of s.card.runs (nat_le (s.at.hw + s.setup.buffer) (s.at.card + n)) (nat_lt 67108864 (taken_bytes n s)) _ _ _ _ runs in_time within
