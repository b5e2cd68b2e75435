-- What a card's set-up and its movements leave of what a substream stands for.
use Rattle.std.proofs.Common.{ℕ, ◌≡◌, ◌+◌, ◌-◌, ◌*◌, ◌/◌, ◌%◌, ◌<◌, ◌≤◌, Bool, true, false, List, [], ◌∷◌, ◌++◌, length, take, drop, replicate, refl, sym, ◌∙◌, ap, subst, arith, zero, suc, IfSome, min, length-append, length-take}
use Rattle.std.specs.Prelude.{nat_lt, if◌then◌else◌}
use Rattle.std.specs.Option.{ForNone, ForSome}
use Rattle.std.specs.declared.option.Option.{Option}
use Rattle.std.specs.declared.option.Option.TheVariants.{Some, None}
use Rattle.std.proofs.Math.Nat.{mod-mod, mod_self, mul-mod_left, mul-div_cancel, mul-sub}
use Rattle.std.proofs.Math.Seq.{take-append-add, drop-append-add, take-nil, drop-nil}
use Rattle.std.proofs.lemmas.Bool.Decides.{nat_tests}
use Rattle.std.proofs.lemmas.List.{length-replicate, replicate-append-replicate}
use Rattle.pcm_base.specs.declared.call.CallKind.{CallKind}
use Rattle.pcm_base.specs.declared.config.Config.{Config}
use Rattle.pcm_base.specs.declared.config.Shape.{Shape}
use Rattle.pcm_base.specs.declared.state.Dir.TheVariants as dir
use Rattle.pcm_base.specs.declared.state.Errno.{Errno}
use Rattle.pcm_base.specs.declared.state.Errno.TheVariants as errno
use Rattle.pcm_base.specs.declared.card.Card.{Ghosts}
use Rattle.pcm_base.specs.CardFacts.{CardFacts, given_bytes}
use Rattle.pcm_base.specs.Boundary.{boundary_of}
use Rattle.pcm_base.specs.declared.call.Call.TheVariants as call
use Rattle.pcm_base.specs.declared.ids.SubId.{SubId}
use Rattle.pcm_base.specs.declared.reply.Reply.TheVariants as reply
use Rattle.pcm_base.specs.model.Acts.{table}
use Rattle.pcm_base.specs.model.Events.{event, freed}
use Rattle.pcm_base.specs.model.Program.{says, fails}
use Rattle.pcm_base.specs.model.Allowed.{accepts, buffer_of, shape_of}
use Rattle.pcm_base.specs.model.Frame.{Frame, bytes_of}
use Rattle.pcm_base.specs.model.Movement.{Movement, move, taken_by, given_by, taken_bytes}
use Rattle.pcm_base.specs.model.Sound.{Sound, IsBare, IsConfigured, IsPlaced, KeepsSound}
use Rattle.pcm_base.specs.model.Standing.{put_at}
use Rattle.pcm_base.specs.model.Stream.{Stream, zero_frame}
use Rattle.pcm_base.specs.model.Words.{when, ◌then◌}
use Rattle.pcm_laws.proofs.KeptByActs.{then_none}
use Rattle.pcm_laws.proofs.KeptByEvents.{KeepsSound-event}
use Rattle.pcm_laws.proofs.KeptByPrograms.{IsConfigured-changed}
use Rattle.pcm_laws.proofs.Remainders.{mod-add_same}
use Rattle.pcm_laws.proofs.Sizes.{boundary_of-whole}
use Rattle.pcm_stream.specs.Runs.{Keeps, RunsFor, IsNewRuntime, known, with_puts, with_count}
use Rattle.pcm_stream.specs.SetUp.{change_refusal, configured_by}
use Rattle.pcm_stream.specs.StandsFor.{IsUnset, StandsFor}
use Rattle.pcm_stream.specs.Wide.{AreWide}
use Rattle.pcm_stream.specs.declared.runtime.Runtime.{Runtime}
use Rattle.pcm_stream.specs.declared.substream.Substream.{Substream}
use Rattle.pcm_stream.proofs.MoveLemmas.{played, captured, move-done, carried-playback, carried-capture, taken_bytes-playback, taken_bytes-capture, AreWide-append, AreWide-standing_at, AreWide-take, AreWide-drop, bytes_of-append}
use Rattle.pcm_stream.proofs.RunsLemmas.{AreWide-replicate}
use Rattle.pcm_stream.proofs.SlotLemmas.{length-bytes_of, length-front}

-- ---- what holds of an option's value

pub if_some : {A : Type 0} (P : A → Type 0) (o : Option A) (a : A) → o ≡ Some a → IfSome o P → P a
if_some {A} P o a e h = subst (λ (x : Option A). IfSome x P) e h

-- ---- streams

pub stands-at : {C : Type 0} {g : Ghosts C} (sub : Substream C g) (s t : Stream) → s ≡ t → StandsFor sub t → StandsFor sub s
stands-at sub s t e h = subst (λ (x : Stream). StandsFor sub x) (sym e) h

-- a substream with the same parts stands for the same stream
pub stands-as : {C : Type 0} {g : Ghosts C} (old new : Substream C g) (s : Stream) → g.facts new.card ≡ g.facts old.card → new.dir ≡ old.dir → new.long_max ≡ old.long_max → new.state ≡ old.state → new.kept ≡ old.kept → new.runtime ≡ old.runtime
    → StandsFor old s → StandsFor new s
stands-as old new s facts dir long_max state kept runtime h = record {
  shows = record {
    dir = dir ∙ h.shows.dir;
    model = ap (λ (f : CardFacts). f.model) facts ∙ h.shows.model;
    long_max = long_max ∙ h.shows.long_max;
    state = state ∙ h.shows.state;
    kept = kept ∙ h.shows.kept;
    taken = ap (λ (f : CardFacts). f.taken) facts ∙ h.shows.taken;
    to_give = ap (λ (f : CardFacts). f.to_give) facts ∙ h.shows.to_give;
    unset = λ e. h.shows.unset (sym runtime ∙ e);
    runs_for = λ r e. h.shows.runs_for r (sym runtime ∙ e);
    position = λ r e. ap (λ (f : CardFacts). f.position) facts ∙ h.shows.position r (sym runtime ∙ e);
  };
  runs = ap (λ (f : CardFacts). f.runs) facts ∙ h.runs;
  plan = λ p e. h.plan p (sym (ap (λ (f : CardFacts). f.plan) facts) ∙ e);
  sound = h.sound;
}

-- ---- positions

pub position-on : (b p c n : ℕ) → p ≡ c % b → (p + n) % b ≡ (c + n) % b
position-on b p c n e = ap (λ x. (x + n) % b) e ∙ mod-add_same b (c % b) c n (mod-mod c b)

-- so many bytes are whole frames, and how many
pub front-whole : (n b w : ℕ) (xs : List ℕ) → length xs ≡ b * w → n ≤ b → length (take (n * w) xs) % w ≡ 0
front-whole n b w xs e h = ap (λ x. x % w) (length-front n b w xs e h) ∙ mul-mod_left n w

pub whole-count : (n w : ℕ) → 1 ≤ w → n * w / w ≡ n
whole-count n w h = let some : 0 < w = omega arith in mul-div_cancel n some

pub front-count : (n b w : ℕ) (xs : List ℕ) → 1 ≤ w → length xs ≡ b * w → n ≤ b → length (take (n * w) xs) / w ≡ n
front-count n b w xs h e k = ap (λ x. x / w) (length-front n b w xs e k) ∙ whole-count n w h

-- ---- movements

pub move-played : (n : ℕ) (s : Stream) → s.dir ≡ dir.Playback → s.card.runs ≡ true → s.at.card + n < s.at.hw + s.setup.buffer → taken_bytes n s ≤ 67108864 → (move n s).stream ≡ played n s
move-played n s d r k l = ap (λ (m : Movement). m.stream) (move-done n s r k l) ∙ carried-playback n s d

pub move-captured : (n : ℕ) (s : Stream) → s.dir ≡ dir.Capture → s.card.runs ≡ true → s.at.card + n < s.at.hw + s.setup.buffer → (move n s).stream ≡ captured n s
move-captured n s d r k =
    let few : taken_bytes n s ≤ 67108864 = omega (arith, taken_bytes-capture n s d) in
    ap (λ (m : Movement). m.stream) (move-done n s r k few) ∙ carried-capture n s d

-- how far the card may go, by how far it has gone
pub near-by : (n b gone : ℕ) (s : Stream) → gone ≡ s.at.card - s.at.hw → IsPlaced s → s.setup.buffer ≡ b → gone < b → n ≤ b - 1 - gone → s.at.card + n < s.at.hw + s.setup.buffer
near-by n b gone s e placed k below h = omega (arith, placed.reported)

pub far-by : (n b gone : ℕ) (s : Stream) → gone ≡ s.at.card - s.at.hw → IsPlaced s → s.setup.buffer ≡ b → b - 1 - gone < n → s.at.hw + s.setup.buffer ≤ s.at.card + n
far-by n b gone s e placed k h = omega (arith, placed.reported)

-- the bytes that a playback card would hold
pub total-bytes : (n w : ℕ) (s : Stream) (bytes : List ℕ) → s.dir ≡ dir.Playback → s.setup.frame_bytes ≡ w → AreWide w s.card.taken → bytes ≡ bytes_of s.card.taken → length bytes + n * w ≡ taken_bytes n s
total-bytes n w s bytes d e wide h =
    let size : length bytes ≡ length s.card.taken * w = ap length h ∙ length-bytes_of w s.card.taken wide in
    let sum : length bytes + n * w ≡ (length s.card.taken + n) * w = grind (arith, size) in
    sum ∙ ap (λ x. (length s.card.taken + n) * x) (sym e) ∙ sym (taken_bytes-playback n s d)

pub played-kept : (r : Runtime) (n : ℕ) (s : Stream) → Keeps r (with_count (s.moved + n) (known s)) → RunsFor r (played n s)
played-kept r n s h = record {
  setup = record {
    config = h.setup.config;
    shape = h.setup.shape;
    frame_bytes = h.setup.frame_bytes;
    buffer = h.setup.buffer;
    boundary = h.setup.boundary;
    sw = h.setup.sw;
    mappings = h.setup.mappings;
  };
  pointers = record {
    hw = h.pointers.hw;
    appl = h.pointers.appl;
    filled = h.pointers.filled;
  };
  frames = record {
    ring = h.frames.ring;
    puts = h.frames.puts;
    taken = AreWide-append r.shape.frame_bytes s.card.taken (taken_by n s) h.frames.taken
        (AreWide-standing_at r.shape.frame_bytes s.puts s.setup.buffer s.at.card n (zero_frame s) h.frames.puts (length-replicate s.setup.frame_bytes 0 ∙ h.setup.frame_bytes));
    to_give = h.frames.to_give;
    moved = h.frames.moved;
  };
}

pub captured-kept : (r : Runtime) (n : ℕ) (s : Stream) → Keeps r (with_count (s.moved + n) (with_puts (put_at s.at.card (given_by n s) s.puts) (known s))) → RunsFor r (captured n s)
captured-kept r n s h = record {
  setup = record {
    config = h.setup.config;
    shape = h.setup.shape;
    frame_bytes = h.setup.frame_bytes;
    buffer = h.setup.buffer;
    boundary = h.setup.boundary;
    sw = h.setup.sw;
    mappings = h.setup.mappings;
  };
  pointers = record {
    hw = h.pointers.hw;
    appl = h.pointers.appl;
    filled = h.pointers.filled;
  };
  frames = record {
    ring = h.frames.ring;
    puts = h.frames.puts;
    taken = h.frames.taken;
    to_give = AreWide-drop r.shape.frame_bytes n s.card.to_give h.frames.to_give;
    moved = h.frames.moved;
  };
}

-- ---- frames that a card gives, as bytes

pub take-bytes_of : (w n : ℕ) (fs : List Frame) → AreWide w fs → take (n * w) (bytes_of fs) ≡ bytes_of (take n fs)
take-bytes_of w zero fs h = let none : zero * w ≡ 0 = omega arith in ap (λ x. take x (bytes_of fs)) none
take-bytes_of w (suc n) [] h = take-nil (suc n * w)
take-bytes_of w (suc n) (f ∷ fs) h =
    let some : suc n * w ≡ length f + n * w = grind (arith, h.0) in
    ap (λ x. take x (f ++ bytes_of fs)) some ∙ take-append-add f (bytes_of fs) (n * w) ∙ ap (λ x. f ++ x) (take-bytes_of w n fs h.1)

pub drop-bytes_of : (w n : ℕ) (fs : List Frame) → AreWide w fs → drop (n * w) (bytes_of fs) ≡ bytes_of (drop n fs)
drop-bytes_of w zero fs h = let none : zero * w ≡ 0 = omega arith in ap (λ x. drop x (bytes_of fs)) none
drop-bytes_of w (suc n) [] h = drop-nil (suc n * w)
drop-bytes_of w (suc n) (f ∷ fs) h =
    let some : suc n * w ≡ length f + n * w = grind (arith, h.0) in
    ap (λ x. drop x (f ++ bytes_of fs)) some ∙ drop-append-add f (bytes_of fs) (n * w) ∙ drop-bytes_of w n fs h.1

zero-bytes : (n w : ℕ) → bytes_of (replicate n (replicate w 0)) ≡ replicate (n * w) 0
zero-bytes zero w = let none : zero * w ≡ 0 = omega arith in sym (ap (λ x. replicate x 0) none)
zero-bytes (suc n) w =
    let some : w + n * w ≡ suc n * w = grind arith in
    ap (λ x. replicate w 0 ++ x) (zero-bytes n w) ∙ replicate-append-replicate w (n * w) 0 ∙ ap (λ x. replicate x 0) some

missing : (n l w : ℕ) → n * w - l * w ≡ (n - l) * w
missing n l w =
    let a : w * (n - l) ≡ w * n - w * l = mul-sub w n l in
    grind (arith, a)

-- what a card gives are the bytes of its next frames, with frames of zero bytes behind them
pub given-bytes : (n w : ℕ) (s : Stream) → s.setup.frame_bytes ≡ w → AreWide w s.card.to_give → given_bytes (n * w) (bytes_of s.card.to_give) ≡ bytes_of (given_by n s)
given-bytes n w s e wide =
    let left : n * w - length (bytes_of s.card.to_give) ≡ (n - length s.card.to_give) * w =
    ap (λ x. n * w - x) (length-bytes_of w s.card.to_give wide) ∙ missing n (length s.card.to_give) w in
    ap (λ x. x ++ replicate (n * w - length (bytes_of s.card.to_give)) 0) (take-bytes_of w n s.card.to_give wide)
    ∙ ap (λ x. bytes_of (take n s.card.to_give) ++ replicate x 0) left
    ∙ ap (λ x. bytes_of (take n s.card.to_give) ++ x) (sym (zero-bytes (n - length s.card.to_give) w))
    ∙ sym (bytes_of-append (take n s.card.to_give) (replicate (n - length s.card.to_give) (replicate w 0)))
    ∙ ap (λ x. bytes_of (take n s.card.to_give ++ replicate (n - length s.card.to_give) (replicate x 0))) (sym e)

pub length-given : (n : ℕ) (s : Stream) → length (given_by n s) ≡ n
length-given n s =
    let a : length (take n s.card.to_give ++ replicate (n - length s.card.to_give) (zero_frame s)) ≡ length (take n s.card.to_give) + length (replicate (n - length s.card.to_give) (zero_frame s)) =
    length-append (take n s.card.to_give) (replicate (n - length s.card.to_give) (zero_frame s)) in
    let b : length (replicate (n - length s.card.to_give) (zero_frame s)) ≡ n - length s.card.to_give = length-replicate (n - length s.card.to_give) (zero_frame s) in
    let d : length (take n s.card.to_give) ≡ min n (length s.card.to_give) = length-take n s.card.to_give in
    omega (arith, a, b, d)

pub AreWide-given : (n w : ℕ) (s : Stream) → s.setup.frame_bytes ≡ w → AreWide w s.card.to_give → AreWide w (given_by n s)
AreWide-given n w s e wide =
    AreWide-append w (take n s.card.to_give) (replicate (n - length s.card.to_give) (zero_frame s)) (AreWide-take w n s.card.to_give wide)
    (AreWide-replicate (n - length s.card.to_give) w (zero_frame s) (length-replicate s.setup.frame_bytes 0 ∙ e))

-- what a card has taken are whole frames of the configuration
pub taken-whole : {C : Type 0} {g : Ghosts C} (sub : Substream C g) (s : Stream) → StandsFor sub s → (c : Config) → s.setup.config ≡ Some c → length (g.facts sub.card).taken % s.setup.frame_bytes ≡ 0
taken-whole {C} {g} sub s h c e = by sub.runtime h.shows.unset h.shows.runs_for
  where
    by : (x : Option Runtime) → ForNone x (IsUnset s.setup.config s.moved) → ForSome x (λ r. RunsFor r s) → length (g.facts sub.card).taken % s.setup.frame_bytes ≡ 0
    by None unset runs = let none : s.setup.config ≡ None = (unset refl).unset in absurd (cc)
    by (Some r) unset runs =
        let kept : RunsFor r s = runs r refl in
        let size : length (g.facts sub.card).taken ≡ length s.card.taken * r.shape.frame_bytes = ap length h.shows.taken ∙ length-bytes_of r.shape.frame_bytes s.card.taken kept.frames.taken in
        ap (λ x. length (g.facts sub.card).taken % x) kept.setup.frame_bytes ∙ ap (λ x. x % r.shape.frame_bytes) size ∙ mul-mod_left (length s.card.taken) r.shape.frame_bytes

-- ---- set-up

-- nothing is mapped where the configuration may change
unmapped : (m : ℕ) (e : Errno) (y : Option Errno) → (when (nat_lt 0 m) e then y) ≡ None → m ≡ 0
unmapped zero e y h = refl
unmapped (suc m) e y h = absurd (let k : nat_lt 0 (suc m) ≡ true = grind (arith, nat_tests) in let g : (when true e then y) ≡ None = ap (λ b. when b e then y) (sym k) ∙ h in cc)

pub allowed-unmapped : (k : CallKind) (b : Bool) (s : Stream) → change_refusal k b s ≡ None → s.mappings ≡ 0
allowed-unmapped k b s h = unmapped s.mappings errno.Ebadfd (when b errno.Ebusy) (then_none (table k s) (when (nat_lt 0 s.mappings) errno.Ebadfd then when b errno.Ebusy) h)

-- the runtime of an accepted configuration
pub new-runs : (c : Config) (s : Stream) (r : Runtime) → IsNewRuntime c (shape_of c s.long_max) r → s.mappings ≡ 0 → RunsFor r (configured_by c s)
new-runs c s r h m =
    let start : (l : ℕ) → l ≡ boundary_of (buffer_of c) s.long_max → boundary_of (buffer_of c) s.long_max % l ≡ 0 =
    λ l e. ap (λ x. x % l) (sym e) ∙ mod_self l in
    let boundary : r.shape.boundary ≡ boundary_of (buffer_of c) s.long_max = ap (λ (x : Shape). x.boundary) h.sizes in
    record {
      setup = record {
        config = ap (λ (x : Config). Some x) (sym h.config);
        shape = h.sizes ∙ ap (λ (x : Config). shape_of x s.long_max) (sym h.config);
        frame_bytes = sym (ap (λ (x : Shape). x.frame_bytes) h.sizes);
        buffer = sym (ap (λ (x : Shape). x.buffer) h.sizes);
        boundary = sym boundary;
        sw = sym h.sw;
        mappings = m ∙ sym h.mappings;
      };
      pointers = record {
        hw = h.hw ∙ sym (start r.shape.boundary boundary);
        appl = h.appl ∙ sym (start r.shape.boundary boundary);
        filled = omega (arith, h.filled);
      };
      frames = record {
        ring = h.empty;
        puts = tt;
        taken = tt;
        to_give = tt;
        moved = h.moved;
      };
    }

-- its stream is sound, as the event that sets it up on a fresh one leaves it
abbrev fresh_again : Stream → Stream
fresh_again s = record (freed s) { mappings = 0; sleepers = [] }

pub configured-sound : (c : Config) (s : Stream) → accepts s.model s.long_max c ≡ true → Sound (configured_by c s)
configured-sound c s h =
    let k : SubId = record { 0 = 0 } in
    let bare : IsBare (fresh_again s) = record { state = refl; setup = refl; at = refl; moved = refl; stands = refl; unmapped = refl; taken = refl; to_give = refl; kept = refl } in
    let kept : KeepsSound k (event (call.HwParams c) (record { 0 = 0 }) false [] (fresh_again s)) =
    KeepsSound-event k (call.HwParams c) (record { 0 = 0 }) false [] (fresh_again s) (λ _. refl) bare in
    let sound : IsConfigured c (configured_by c (fresh_again s)) =
    subst (λ (b : Bool). KeepsSound k (if b then says reply.Ok (configured_by c (fresh_again s)) else fails errno.Einval (freed (fresh_again s)))) h kept in
    IsConfigured-changed c (configured_by c (fresh_again s)) [] s.sleepers s.mappings s.card.plan [] sound

-- where its card stands
pub new-position : (c : Config) (s : Stream) (b : ℕ) → b ≡ buffer_of c → 0 ≡ boundary_of (buffer_of c) s.long_max % b
new-position c s b e = sym (boundary_of-whole (buffer_of c) s.long_max) ∙ ap (λ x. boundary_of (buffer_of c) s.long_max % x) (sym e)
