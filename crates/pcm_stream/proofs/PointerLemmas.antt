-- What the calls on a runtime alone leave of what a substream stands for.
use Rattle.std.proofs.Common.{ℕ, ◌≡◌, ◌*◌, ◌%◌, ◌≤◌, List, length, min, refl, sym, ◌∙◌, ap, arith}
use Rattle.std.specs.Prelude.{IsSome}
use Rattle.std.specs.Option.{ForSome, option_map}
use Rattle.std.specs.declared.option.Option.{Option}
use Rattle.std.specs.declared.option.Option.TheVariants.{Some, None}
use Rattle.pcm_base.specs.CardFacts.{loaded}
use Rattle.pcm_base.specs.Shape.{AreFrames}
use Rattle.pcm_base.specs.declared.card.Card.{Ghosts}
use Rattle.pcm_base.specs.declared.call.Layout.TheVariants as layout
use Rattle.pcm_base.specs.declared.config.Config.{Config}
use Rattle.pcm_base.specs.declared.config.Shape.{Shape}
use Rattle.pcm_base.specs.declared.state.Dir.{Dir}
use Rattle.pcm_base.specs.declared.state.Dir.TheVariants as dir
use Rattle.pcm_base.specs.model.Events.{set_mappings}
use Rattle.pcm_base.specs.model.Frame.{Frame, bytes_of}
use Rattle.pcm_base.specs.model.PointerCalls.{hw_avail}
use Rattle.pcm_base.specs.model.Sound.{Sound, IsPlaced}
use Rattle.pcm_base.specs.model.Stream.{Stream, Card, head, head_of}
use Rattle.pcm_base.specs.model.Transfer.{frames_in}
use Rattle.pcm_laws.proofs.KeptByPrograms.{IsConfigured-changed}
use Rattle.pcm_stream.specs.Buffer.{with_to_give}
use Rattle.pcm_stream.specs.Runs.{RunsFor}
use Rattle.pcm_stream.specs.StandsFor.{IsUnset, StandsFor, shape_in}
use Rattle.pcm_stream.specs.declared.runtime.Runtime.{Runtime}
use Rattle.pcm_stream.specs.declared.substream.Substream.{Substream}
use Rattle.pcm_stream.proofs.ActsLemmas.{IsOneWay}
use Rattle.pcm_stream.proofs.LayoutLemmas.{AreWide-by}
use Rattle.pcm_stream.proofs.PartLemmas.{bytes_of-whole}
use Rattle.pcm_stream.proofs.StreamLemmas.{configured, for_some, no_none, sound_configured}

-- the stream is another in what its runtime tells alone
pub record IsBeside (s t : Stream) : Type 0 where
  pub dir : t.dir ≡ s.dir
  pub model : t.model ≡ s.model
  pub long_max : t.long_max ≡ s.long_max
  pub state : t.state ≡ s.state
  pub kept : t.kept ≡ s.kept
  pub card : t.card ≡ s.card
  pub at : t.at.card ≡ s.at.card

pub StandsFor-runtime : {C : Type 0} {g : Ghosts C} (a b : Substream C g) (s t : Stream) (r u : Runtime) → IsOneWay a b → a.runtime ≡ Some r → b.runtime ≡ Some u → u.shape ≡ r.shape
    → IsBeside s t → RunsFor u t → Sound t → StandsFor a s → StandsFor b t
StandsFor-runtime {C} {g} a b s t r u one er eu shape beside runs sound h =
    let facts : g.facts b.card ≡ g.facts a.card = ap g.facts one.card in
    let at : (g.facts b.card).position ≡ t.at.card % u.shape.buffer =
    ap (λ f. f.position) facts ∙ h.shows.position r er ∙ ap (λ n. n % r.shape.buffer) (sym beside.at) ∙ ap (λ (x : Shape). t.at.card % x.buffer) (sym shape) in
    record {
      shows = record {
        dir = one.dir ∙ h.shows.dir ∙ sym beside.dir;
        model = ap (λ f. f.model) facts ∙ h.shows.model ∙ sym beside.model;
        long_max = one.long_max ∙ h.shows.long_max ∙ sym beside.long_max;
        state = one.state ∙ h.shows.state ∙ sym beside.state;
        kept = one.kept ∙ h.shows.kept ∙ sym beside.kept;
        taken = ap (λ f. f.taken) facts ∙ h.shows.taken ∙ sym (ap (λ (k : Card). bytes_of k.taken) beside.card);
        to_give = ap (λ f. f.to_give) facts ∙ h.shows.to_give ∙ sym (ap (λ (k : Card). bytes_of k.to_give) beside.card);
        unset = λ e. no_none (IsUnset t.setup.config t.moved) u (sym eu ∙ e);
        runs_for = λ x e. for_some (λ (y : Runtime). RunsFor y t) u runs x (sym eu ∙ e);
        position = λ x e. for_some (λ (y : Runtime). (g.facts b.card).position ≡ t.at.card % y.shape.buffer) u at x (sym eu ∙ e);
      };
      runs = ap (λ f. f.runs) facts ∙ h.runs ∙ sym (ap (λ (k : Card). k.runs) beside.card);
      plan = λ p e. h.plan p (sym (ap (λ f. f.plan) facts) ∙ e) ∙ sym (ap (λ (k : Card). k.plan) beside.card);
      sound = sound;
    }

-- ---- how far the application position may go back

pub head-above : (s : Stream) → s.at.hw ≤ head s
head-above s = by s.dir
  where
    by : (d : Dir) → s.at.hw ≤ head_of d s.setup.buffer s.at.hw
    by dir.Playback = omega arith
    by dir.Capture = omega arith

pub rewind-fits : (n : ℕ) (s : Stream) → IsPlaced s → 2 * s.setup.buffer ≤ s.setup.boundary → min n (hw_avail s) ≤ s.at.appl
rewind-fits n s placed room = omega (arith, placed.origin, placed.written, head-above s, room)

-- ---- mappings, and frames to give, of a configured stream

pub Sound-mapped : (c : Config) (n : ℕ) (s : Stream) → s.setup.config ≡ Some c → Sound s → Sound (set_mappings n s)
Sound-mapped c n s e h = sound_configured c (set_mappings n s) e (IsConfigured-changed c s s.puts s.sleepers n s.card.plan s.card.to_give (configured c s e h))

pub Sound-given : (c : Config) (fs : List Frame) (s : Stream) → s.setup.config ≡ Some c → Sound s → Sound (with_to_give fs s)
Sound-given c fs s e h = sound_configured c (with_to_give fs s) e (IsConfigured-changed c s s.puts s.sleepers s.mappings s.card.plan fs (configured c s e h))

-- the runtime does not hang on them but for their width
pub RunsFor-given : (r : Runtime) (bytes : List ℕ) (s : Stream) → RunsFor r s → RunsFor r (with_to_give (frames_in s bytes) s)
RunsFor-given r bytes s h = record {
  setup = record {
    config = h.setup.config;
    shape = h.setup.shape;
    frame_bytes = h.setup.frame_bytes;
    buffer = h.setup.buffer;
    boundary = h.setup.boundary;
    sw = h.setup.sw;
    mappings = h.setup.mappings;
  };
  pointers = record {
    hw = h.pointers.hw;
    appl = h.pointers.appl;
    filled = h.pointers.filled;
  };
  frames = record {
    ring = h.frames.ring;
    puts = h.frames.puts;
    taken = h.frames.taken;
    to_give = AreWide-by layout.Interleaved r s bytes h;
    moved = h.frames.moved;
  };
}

-- their bytes
pub bytes_of-given : (r : Runtime) (bytes : List ℕ) (s : Stream) → RunsFor r s → length bytes % r.shape.frame_bytes ≡ 0 → bytes ≡ bytes_of (frames_in s bytes)
bytes_of-given r bytes s h whole = sym (bytes_of-whole s.setup.frame_bytes bytes (ap (λ w. length bytes % w) h.setup.frame_bytes ∙ whole))

-- a card that was given these bytes, and a substream that is the same otherwise
pub StandsFor-given : {C : Type 0} {g : Ghosts C} (a b : Substream C g) (bytes : List ℕ) (s : Stream) → IsSome (shape_in a) → ForSome (shape_in a) (λ x. AreFrames x bytes)
    → b.dir ≡ a.dir → b.long_max ≡ a.long_max → b.state ≡ a.state → b.kept ≡ a.kept → b.runtime ≡ a.runtime → g.facts b.card ≡ loaded (g.facts a.card) bytes
    → StandsFor a s → StandsFor b (with_to_give (frames_in s bytes) s)
StandsFor-given {C} {g} a b bytes s some whole dir long_max state kept runtime facts h = by a.runtime refl some
  where
    by : (o : Option Runtime) → a.runtime ≡ o → IsSome (option_map (λ r. r.shape) o) → StandsFor b (with_to_give (frames_in s bytes) s)
    by None e k = absurd (cc)
    by (Some r) e k =
        let runs : RunsFor r s = h.shows.runs_for r e in
        let frames : AreFrames r.shape bytes = whole r.shape (ap (option_map (λ (x : Runtime). x.shape)) e) in
        record {
          shows = record {
            dir = dir ∙ h.shows.dir;
            model = ap (λ f. f.model) facts ∙ h.shows.model;
            long_max = long_max ∙ h.shows.long_max;
            state = state ∙ h.shows.state;
            kept = kept ∙ h.shows.kept;
            taken = ap (λ f. f.taken) facts ∙ h.shows.taken;
            to_give = ap (λ f. f.to_give) facts ∙ bytes_of-given r bytes s runs frames;
            unset = λ q. h.shows.unset (sym runtime ∙ q);
            runs_for = λ x q. RunsFor-given x bytes s (h.shows.runs_for x (sym runtime ∙ q));
            position = λ x q. ap (λ f. f.position) facts ∙ h.shows.position x (sym runtime ∙ q);
          };
          runs = ap (λ f. f.runs) facts ∙ h.runs;
          plan = λ p q. h.plan p (sym (ap (λ f. f.plan) facts) ∙ q);
          sound = Sound-given r.config (frames_in s bytes) s runs.setup.config h.sound;
        }
