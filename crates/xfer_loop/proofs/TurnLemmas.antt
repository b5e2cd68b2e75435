-- What a turn comes to, case by case.
use Rattle.std.proofs.Common.{ℕ, ◌≡◌, ◌≢◌, ◌+◌, ◌-◌, ◌/◌, ◌%◌, ◌≤◌, ◌<◌, Bool, true, false, ◌&&◌, nat_eq, nat_le, List, [], ◌++◌, length, take, drop, min, refl, sym, ap, ◌∙◌, subst, arith}
use Rattle.std.proofs.Math.Nat.{div-le_self}
use Rattle.std.proofs.Math.Path.{ap₂}
use Rattle.std.proofs.lemmas.Bool.Decides.{nat_tests}
use Rattle.std.proofs.lemmas.List.{take-append-drop}
use Rattle.std.specs.Prelude.{IsSome, if◌then◌else◌}
use Rattle.std.specs.Option.{ForSome, option_map}
use Rattle.std.specs.declared.option.Option.{Option}
use Rattle.std.specs.declared.option.Option.TheVariants.{Some, None}
use Rattle.pcm_base.specs.declared.card.Card.{Ghosts}
use Rattle.pcm_base.specs.declared.config.Config.{Config}
use Rattle.pcm_base.specs.declared.config.Shape.{Shape}
use Rattle.pcm_base.specs.Shape.{count_of}
use Rattle.pcm_base.specs.declared.reply.Page.{Page}
use Rattle.pcm_base.specs.declared.sleeper.Xfer.{Xfer}
use Rattle.pcm_base.specs.model.Events.{page}
use Rattle.pcm_base.specs.model.Frame.{Frame}
use Rattle.pcm_base.specs.model.Sound.{Sound}
use Rattle.pcm_base.specs.model.Stream.{Stream, Setup, avail, shown}
use Rattle.pcm_base.specs.model.Transfer.{frames_by, is_filled, put_next}
use Rattle.pcm_base.specs.model.PointerCalls.{on_by}
use Rattle.pcm_base.specs.model.Words.{is_prepared}
use Rattle.pcm_laws.specs.Turns.{turn}
use Rattle.pcm_laws.proofs.ShownPointers.{slot-shown}
use Rattle.pcm_laws.proofs.Sizes.{sizes}
use Rattle.pcm_stream.specs.Buffer.{frames_read}
use Rattle.pcm_stream.specs.StandsFor.{StandsFor, shape_in}
use Rattle.pcm_stream.specs.declared.runtime.Runtime.{Runtime}
use Rattle.pcm_stream.specs.declared.substream.Substream.{Substream}
use Rattle.pcm_stream.proofs.LayoutLemmas.{length-part}
use Rattle.pcm_stream.proofs.StreamLemmas.{configured, page-configured}
use Rattle.xfer_loop.specs.Loop.{IsTurned}
use Rattle.xfer_loop.specs.Turn.{bytes_after, bytes_moved, frames_moved, step_of, stream_after, stream_moved, stuck_step, xfer_moved}
use Rattle.xfer_loop.specs.declared.XferStep.{XferStep}
use Rattle.xfer_loop.specs.declared.XferStep.TheVariants as step

-- ---- the turn, from what clients see

pub turn-shown : (c : Config) (s : Stream) (p : Page) (rest buffer fewer count : ℕ) → s.setup.config ≡ Some c → Sound s → p ≡ page s → s.setup.buffer ≡ buffer
    → fewer ≡ min rest p.avail → count ≡ min fewer (buffer - p.appl % buffer) → count ≡ turn rest s
turn-shown c s p rest buffer fewer count e h q b f n =
    let k : p ≡ record { state = s.state; hw = shown s s.at.hw; appl = shown s s.at.appl; avail = avail s } = q ∙ page-configured c s e in
    let most : fewer ≡ min rest (avail s) = f ∙ ap (λ (r : Page). min rest r.avail) k in
    let slot : p.appl % buffer ≡ s.at.appl % s.setup.buffer = ap (λ (r : Page). r.appl % buffer) k ∙ ap (λ (m : ℕ). shown s s.at.appl % m) (sym b) ∙ slot-shown c s s.at.appl (configured c s e h) in
    n ∙ ap₂ (λ (i j : ℕ). min i j) most (ap₂ (λ (i j : ℕ). i - j) (sym b) slot)

-- a substream with sizes is configured
pub record HasConfig (s : Stream) : Type 0 where
  pub config : Config
  pub is : s.setup.config ≡ Some config

pub config_in : {C : Type 0} {g : Ghosts C} (sub : Substream C g) (s : Stream) → IsSome (shape_in sub) → StandsFor sub s → HasConfig s
config_in sub s k h = by sub.runtime refl k
  where
    by : (o : Option Runtime) → sub.runtime ≡ o → IsSome (option_map (λ r. r.shape) o) → HasConfig s
    by (Some r) e q = record { config = r.config; is = (h.shows.runs_for r e).setup.config }
    by None e q = absurd (cc)

-- a configured stream has room
pub room_in : (s : Stream) → HasConfig s → Sound s → 0 < s.setup.buffer
room_in s k h = omega (arith, (sizes k.config s (configured k.config s k.is h).shaped).least)

pub room-of : {C : Type 0} {g : Ghosts C} (sub : Substream C g) (s : Stream) → IsSome (shape_in sub) → StandsFor sub s → 0 < s.setup.buffer
room-of sub s k h = room_in s (config_in sub s k h) h.sound

-- a turn leaves all but the application position and the puts
turned-by : (b : Bool) (n : ℕ) (fs : List Frame) (s : Stream) → IsTurned s (if b then put_next fs s else on_by n s)
turned-by true n fs s = refl
turned-by false n fs s = refl

pub IsTurned-after : (x : Xfer) (io : List ℕ) (s : Stream) → IsTurned s (stream_after x io s)
IsTurned-after x io s = turned-by x.writing (turn x.rest s) (take (turn x.rest s) (drop x.moved (frames_by x.layout s io))) s

-- a turn of no frames, of some that rest
pub turn-full : (rest n : ℕ) (s : Stream) → 0 < s.setup.buffer → rest ≢ 0 → n ≡ turn rest s → n ≡ 0 → avail s ≡ 0
turn-full rest n s room some e none = omega (arith, e, none, room, some)

pub turn-few : (rest n : ℕ) (s : Stream) → n ≡ turn rest s → n ≤ avail s
turn-few rest n s e = omega (arith, e)

-- ---- answers

abbrev by_tests : Bool → Bool → Bool → Xfer → Stream → XferStep
by_tests none full starts x s = if none then step.Moved 0 else if full then stuck_step x s else if starts then step.WantsStart else step.Moved (turn x.rest s)

abbrev pub starts_by : Xfer → Stream → Bool
starts_by x s = x.writing && (is_prepared s.state && is_filled s (turn x.rest s))

pub none-test : (n : ℕ) → n ≡ 0 → nat_eq n 0 ≡ true
none-test n h = grind (arith, nat_tests, h)

pub some-test : (n : ℕ) → n ≢ 0 → nat_eq n 0 ≡ false
some-test n h = grind (arith, nat_tests, h)

pub step-none : (x : Xfer) (s : Stream) → x.rest ≡ 0 → step.Moved 0 ≡ step_of x s
step-none x s h = sym (ap (λ b. by_tests b (nat_eq (avail s) 0) (starts_by x s) x s) (none-test x.rest h))

pub step-stuck : (x : Xfer) (s : Stream) → x.rest ≢ 0 → avail s ≡ 0 → stuck_step x s ≡ step_of x s
step-stuck x s h full =
    sym (ap (λ b. by_tests b (nat_eq (avail s) 0) (starts_by x s) x s) (some-test x.rest h)
    ∙ ap (λ b. by_tests false b (starts_by x s) x s) (none-test (avail s) full))

pub step-some : (x : Xfer) (s : Stream) (b : Bool) → x.rest ≢ 0 → avail s ≢ 0 → starts_by x s ≡ b → step_of x s ≡ (if b then step.WantsStart else step.Moved (turn x.rest s))
step-some x s b h some e =
    ap (λ t. by_tests t (nat_eq (avail s) 0) (starts_by x s) x s) (some-test x.rest h)
    ∙ ap (λ t. by_tests false t (starts_by x s) x s) (some-test (avail s) some)
    ∙ ap (λ t. by_tests false false t x s) e

pub some-avail : (rest n : ℕ) (s : Stream) → n ≡ turn rest s → n ≢ 0 → avail s ≢ 0
some-avail rest n s e some none = some (omega (arith, e, none))

pub step-starts : (x : Xfer) (n : ℕ) (s : Stream) → x.rest ≢ 0 → n ≡ turn x.rest s → n ≢ 0 → starts_by x s ≡ true → step.WantsStart ≡ step_of x s
step-starts x n s h e some k = sym (step-some x s true h (some-avail x.rest n s e some) k)

pub step-moved : (x : Xfer) (n : ℕ) (s : Stream) → x.rest ≢ 0 → n ≡ turn x.rest s → n ≢ 0 → starts_by x s ≡ false → step.Moved n ≡ step_of x s
step-moved x n s h e some k = ap step.Moved e ∙ sym (step-some x s false h (some-avail x.rest n s e some) k)

-- ---- whether enough is queued, before and after the frames are put

pub filled-after : (x : Xfer) (n : ℕ) (io : List ℕ) (s : Stream) (fs : List Frame) → length fs ≡ n → n ≤ avail s → is_filled (put_next fs s) 0 ≡ is_filled s n
filled-after x n io s fs size few =
    let start : ℕ = s.setup.sw.start_threshold in
    let now : avail (put_next fs s) ≡ avail s - n = omega (arith, size) in
    ap (λ (a : ℕ). nat_le (start + a) (s.setup.buffer + 0)) now ∙ same start (avail s) s.setup.buffer n few
  where
    same : (t a b m : ℕ) → m ≤ a → nat_le (t + (a - m)) (b + 0) ≡ nat_le (t + a) (b + m)
    same t a b m l = by (nat_le (t + a) (b + m)) refl
      where
        by : (v : Bool) → nat_le (t + a) (b + m) ≡ v → nat_le (t + (a - m)) (b + 0) ≡ v
        by true e = grind (arith, nat_tests, e, l)
        by false e = grind (arith, nat_tests, e, l)

-- ---- a turn of no frames

pub xfer-stays : (x : Xfer) (n : ℕ) → n ≡ 0 → x ≡ xfer_moved x n
xfer-stays x n e =
    let rest : x.rest ≡ x.rest - n = omega (arith, e) in
    let moved : x.moved ≡ x.moved + n = omega (arith, e) in
    ap (λ i. let y : Xfer = record x { rest = i } in y) rest ∙ ap (λ i. let y : Xfer = record x { rest = x.rest - n; moved = i } in y) moved

stays-by : (b : Bool) (fs : List Frame) (s : Stream) → s ≡ (if b then put_next (take 0 fs) s else on_by 0 s)
stays-by true fs s = let same : s.at.appl ≡ s.at.appl + 0 = omega arith in ap (λ i. let t : Stream = record s { at = record s.at { appl = i } } in t) same
stays-by false fs s = let same : s.at.appl ≡ s.at.appl + 0 = omega arith in ap (λ i. let t : Stream = record s { at = record s.at { appl = i } } in t) same

pub stream-stays : (x : Xfer) (n : ℕ) (io : List ℕ) (s : Stream) → n ≡ 0 → s ≡ stream_moved x n io s
stream-stays x n io s e = stays-by x.writing (drop x.moved (frames_by x.layout s io)) s ∙ ap (λ i. stream_moved x i io s) (sym e)

over-none : (m : ℕ) (fs : List Frame) → fs ≡ take m fs ++ ([] ++ drop (m + 0) fs)
over-none m fs = let same : m ≡ m + 0 = omega arith in sym (take-append-drop m fs) ∙ ap (λ i. take m fs ++ drop i fs) same

frames-by : (b : Bool) (x : Xfer) (io : List ℕ) (s : Stream) → frames_by x.layout s io ≡ (if b then frames_by x.layout s io else frames_read x.layout s x.moved 0 io)
frames-by true x io s = refl
frames-by false x io s = over-none x.moved (frames_by x.layout s io)

pub frames-stay : (x : Xfer) (n : ℕ) (io : List ℕ) (s : Stream) → n ≡ 0 → frames_by x.layout s io ≡ frames_moved x n io s
frames-stay x n io s e = frames-by x.writing x io s ∙ ap (λ i. frames_moved x i io s) (sym e)

pub bytes-stay : (x : Xfer) (io : List ℕ) (s : Stream) → turn x.rest s ≡ 0 → io ≡ bytes_after x io s
bytes-stay x io s e = sym (ap (λ b. if b then io else bytes_moved x (turn x.rest s) io s) (none-test (turn x.rest s) e))

pub bytes-moved : (x : Xfer) (n : ℕ) (io new : List ℕ) (s : Stream) → n ≡ turn x.rest s → n ≢ 0 → new ≡ bytes_moved x n io s → new ≡ bytes_after x io s
bytes-moved x n io new s e some h =
    h ∙ ap (λ i. bytes_moved x i io s) e
    ∙ sym (ap (λ b. if b then io else bytes_moved x (turn x.rest s) io s) (some-test (turn x.rest s) (λ k. some (e ∙ k))))

pub turn-none : (s : Stream) (rest : ℕ) → rest ≡ 0 → turn rest s ≡ 0
turn-none s rest e = omega (arith, e)

-- the substream stands for a stream that is the same
pub stands-for : {C : Type 0} {g : Ghosts C} (sub : Substream C g) (s t : Stream) → s ≡ t → StandsFor sub s → StandsFor sub t
stands-for sub s t e h = subst (λ (x : Stream). StandsFor sub x) e h

-- ---- a turn of some frames

pub record IsTurn (x : Xfer) (n : ℕ) (s : Stream) : Type 0 where
  pub rests : x.rest ≢ 0
  pub count : n ≡ turn x.rest s
  pub some : n ≢ 0

pub few : (x : Xfer) (n : ℕ) (s : Stream) → IsTurn x n s → n ≤ avail s
few x n s h = omega (arith, h.count)

setup-by : (b : Bool) (x : Xfer) (n : ℕ) (fs : List Frame) (s : Stream) → (let t : Stream = if b then put_next fs s else on_by n s in t.setup) ≡ s.setup
setup-by true x n fs s = refl
setup-by false x n fs s = refl

-- no transfer changes what is set up
pub setup-moved : (x : Xfer) (n : ℕ) (io : List ℕ) (s : Stream) → (stream_moved x n io s).setup ≡ s.setup
setup-moved x n io s = setup-by x.writing x n (take n (drop x.moved (frames_by x.layout s io))) s

pub config-moved : (x : Xfer) (n : ℕ) (io : List ℕ) (s : Stream) (c : Config) → s.setup.config ≡ Some c → (stream_moved x n io s).setup.config ≡ Some c
config-moved x n io s c e = ap (λ (k : Setup). k.config) (setup-moved x n io s) ∙ e

-- whether the group starts, by what is queued after the turn
pub starts-is : (x : Xfer) (n : ℕ) (io : List ℕ) (s : Stream) (r b : Bool) → IsTurn x n s → length (take n (drop x.moved (frames_by x.layout s io))) ≡ n
    → r ≡ (is_prepared (stream_moved x n io s).state && is_filled (stream_moved x n io s) 0) → (x.writing && r) ≡ b → starts_by x s ≡ b
starts-is x n io s r b h size e k = by x.writing refl
  where
    fs : List Frame
    fs = take n (drop x.moved (frames_by x.layout s io))

    by : (w : Bool) → x.writing ≡ w → starts_by x s ≡ b
    by false q = ap (λ t. t && (is_prepared s.state && is_filled s (turn x.rest s))) q ∙ sym (ap (λ t. t && r) q) ∙ k
    by true q =
        let put : r ≡ (is_prepared s.state && is_filled (put_next fs s) 0) = e ∙ ap (λ t. let u : Stream = if t then put_next fs s else on_by n s in is_prepared u.state && is_filled u 0) q in
        let now : r ≡ (is_prepared s.state && is_filled s (turn x.rest s)) =
        put ∙ ap (λ t. is_prepared s.state && t) (filled-after x n io s fs size (few x n s h)) ∙ ap (λ i. is_prepared s.state && is_filled s i) h.count in
        ap (λ t. t && (is_prepared s.state && is_filled s (turn x.rest s))) q ∙ sym now ∙ sym (ap (λ t. t && r) q) ∙ k

-- ---- the frames of the call

-- as many frames as move are there
pub part-length : {C : Type 0} {g : Ghosts C} (sub : Substream C g) (s : Stream) (x : Xfer) (io : List ℕ) (n : ℕ) → IsSome (shape_in sub) → ForSome (shape_in sub) (λ shape. count_of shape io ≡ x.moved + x.rest)
    → StandsFor sub s → n ≤ x.rest → length (take n (drop x.moved (frames_by x.layout s io))) ≡ n
part-length sub s x io n k count h few = by sub.runtime refl k
  where
    by : (o : Option Runtime) → sub.runtime ≡ o → IsSome (option_map (λ r. r.shape) o) → length (take n (drop x.moved (frames_by x.layout s io))) ≡ n
    by (Some r) e q =
        let all : count_of r.shape io ≡ x.moved + x.rest = count r.shape (ap (option_map (λ (y : Runtime). y.shape)) e) in
        length-part x.layout s io x.moved n r.shape.frame_bytes (h.shows.runs_for r e).setup.frame_bytes (omega (arith, all, few))
    by None e q = absurd (cc)

-- they are no more than the bytes
pub sum_fits : (o : Option Shape) (io : List ℕ) (m r n : ℕ) → IsSome o → ForSome o (λ shape. count_of shape io ≡ m + r) → n ≤ r → m + n ≤ length io
sum_fits (Some shape) io m r n k h few =
    let all : length io / shape.frame_bytes ≡ m + r = h shape refl in
    let most : length io / shape.frame_bytes ≤ length io = div-le_self (length io) shape.frame_bytes in
    omega (arith, all, most, few)
sum_fits None io m r n k h few = absurd (cc)

pub both : (a b : Bool) → a ≡ true → b ≡ true → (a && b) ≡ true
both a b e f = ap₂ (λ (x y : Bool). x && y) e f

pub neither-left : (a b : Bool) → a ≡ false → (a && b) ≡ false
neither-left a b e = ap (λ x. x && b) e

pub neither-right : (a b : Bool) → b ≡ false → (a && b) ≡ false
neither-right true b e = e
neither-right false b e = refl
