-- What the file of a feed, and what a carry, makes of a session.
use Rattle.std.proofs.Common.{◌≡◌, ℕ, zero, suc, ◌*◌, ◌-◌, ◌^◌, ◌≤◌, ◌<◌, Bool, true, false, not, ◌&&◌, List, [], ◌++◌, length, take, min, None, Some, Ok, Err, Result, refl, sym, ◌∙◌, ap, subst, inl, inr, arith, Vec, Global}
use Rattle.std.specs.Prelude.{IfOk, IfSome, OnOk, nat_eq}
use Rattle.std.specs.FinMap.{get}
use Rattle.std.specs.Option.{option_map}
use Rattle.std.specs.declared.option.Option.{Option}
use Rattle.std.proofs.lemmas.Bool.{cases_lt}
use Rattle.std.proofs.lemmas.List.{drop_all, length-take, take_all}
use Rattle.pcm_base.specs.declared.ids.SubId.{SubId}
use Rattle.pcm_base.specs.declared.reply.Told.{Told as Shown}
use Rattle.pcm_base.specs.model.Frame.{bytes_of}
use Rattle.pcm_base.specs.model.Sound.{Sound, SoundAt}
use Rattle.pcm_base.specs.declared.config.Config.{Config}
use Rattle.pcm_base.specs.model.Stream.{Stream, is_bare, no_stream}
use Rattle.pcm_base.specs.model.Words.{is_playback}
use Rattle.pcm_base.specs.Shape.{IsSoundShape}
use Rattle.pcm_base.specs.declared.config.Shape.{Shape}
use Rattle.pcm_stream.specs.StandsFor.{IsShapeOf}
use Rattle.loop_card.specs.Rest.{rest_of}
use Rattle.pcm_io.specs.Shelf.{Files, Stay, first_bytes}
use Rattle.pcm_line.specs.declared.line.Line.{Line}
use Rattle.pcm_line.specs.declared.line.Line.TheVariants.{Feed}
use Rattle.pcm_text.specs.Told.{told_line}
use Rattle.wav_file.specs.Grammar.{IsWav}
use Rattle.wav_file.specs.Recordings.{Recording, recording}
use Rattle.wav_file.specs.declared.wav.Wav.{Wav}
use Rattle.pcm_top.specs.CodeSession.{IsNext, IsSession, IsStopped, Keeps}
use Rattle.pcm_top.specs.Run.{Finds, IsLoaded, LineLeads, carries, feed_answer, feed_refusal, is_built_at, run_line, tells, wav_limit}
use Rattle.pcm_top.specs.Script.{IsFeedEnd, IsFileEnd}
use Rattle.pcm_top.specs.Session.{AreFilesBut, Session}
use Rattle.pcm_top.specs.declared.command.Command.TheVariants.{Run}
use Rattle.pcm_top.specs.declared.end.End.{End}
use Rattle.pcm_top.specs.declared.end.End.TheVariants as end
use Rattle.pcm_top.specs.declared.end.Unanswered.{Unanswered}
use Rattle.pcm_top.specs.declared.session.Session.{Session as Kept}
use Rattle.pcm_top.proofs.SessionLemmas.{stays-along}
use Rattle.pcm_world.specs.declared.world.World.{World as CodeWorld}
use Rattle.pcm_world.specs.Shown.{IsWorld, shown}

-- ---- the file of a name, by what a load gives of it

-- a load gave this
abbrev pub Gave : Option Files → List ℕ → List ℕ → Type 0
Gave files name bytes = IfSome files (λ f. Some bytes ≡ option_map first_bytes (get f name))

whole-file : (bytes file : List ℕ) → bytes ≡ take 68157441 file → length bytes ≤ wav_limit → bytes ≡ file
whole-file bytes file e few =
    let size : length bytes ≡ min 68157441 (length file) = ap (λ (l : List ℕ). length l) e ∙ length-take 68157441 file in
    e ∙ take_all 68157441 file (omega (arith, size, few))

long-file : (bytes file : List ℕ) → bytes ≡ take 68157441 file → wav_limit < length bytes → wav_limit < length file
long-file bytes file e long =
    let size : length bytes ≡ min 68157441 (length file) = ap (λ (l : List ℕ). length l) e ∙ length-take 68157441 file in
    omega (arith, size, long)

gave-file : (bytes : List ℕ) (o : Option (List ℕ)) → Some bytes ≡ option_map first_bytes o → (file : List ℕ) × (o ≡ Some file) × (bytes ≡ take 68157441 file)
unfolding first_bytes
gave-file bytes None e = cc
gave-file bytes (Some file) e = (file, refl, (let h : Some bytes ≡ Some (take 68157441 file) = e in cc))

found-whole : (files : Option Files) (name bytes : List ℕ) → Gave files name bytes → length bytes ≤ wav_limit → Finds files name (Some bytes)
found-whole None name bytes gave few = tt
found-whole (Some files) name bytes gave few =
    let f = gave-file bytes (get files name) gave in
    ap (λ (l : List ℕ). Some l) (whole-file bytes f.0 f.2 few) ∙ sym f.1

found-long : (files : Option Files) (name bytes : List ℕ) → Gave files name bytes → wav_limit < length bytes → IsFeedEnd files name end.WavBytes
found-long None name bytes gave long = inr (Some bytes, tt, inl (long, refl))
found-long (Some files) name bytes gave long =
    let f = gave-file bytes (get files name) gave in
    inr (Some f.0, sym f.1, inl (long-file bytes f.0 f.2 long, refl))

load-ended : (files : Option Files) (name bytes : List ℕ) (e : End) → Gave files name bytes → IsFileEnd name (Some bytes) e → IsFeedEnd files name e
load-ended files name bytes e gave (inl h) = subst (λ (x : End). IsFeedEnd files name x) (sym h.1) (found-long files name bytes gave h.0)
load-ended files name bytes e gave (inr h) = inr (Some bytes, found-whole files name bytes gave h.0, inr h)

pub load-ends : (files : Option Files) (name bytes here : List ℕ) (e : End) → here ≡ bytes → Gave files name bytes → IsFileEnd name (Some here) e → IsFeedEnd files name e
load-ends files name bytes here e same gave h = load-ended files name bytes e gave (subst (λ (l : List ℕ). IsFileEnd name (Some l) e) same h)

pub load-found : (r : Result Wav Unanswered) (files : Option Files) (name bytes here : List ℕ) → here ≡ bytes → Gave files name bytes → OnOk r (length here ≤ wav_limit) → IfOk r (λ wav. IsWav here (recording wav))
    → IfOk r (λ wav. IsLoaded files name (recording wav))
load-found (Err e) files name bytes here same gave few says = tt
load-found (Ok wav) files name bytes here same gave few says =
    let size : length bytes ≤ wav_limit = subst (λ (l : List ℕ). length l ≤ wav_limit) same few in
    record { bytes = bytes; found = found-whole files name bytes gave size; few = size; says = subst (λ (l : List ℕ). IsWav l (recording wav)) same says }

-- ---- the files that the session knows

finds-along : (a b : Option Files) (name : List ℕ) (found : Option (List ℕ)) → Stay a b → Finds b name found → Finds a name found
finds-along None b name found stay h = tt
finds-along (Some f) None name found stay h = absurd stay
finds-along (Some f) (Some g) name found stay h = h ∙ ap (λ (x : Files). get x name) stay

loaded-along : (a b : Option Files) (name : List ℕ) (r : Recording) → Stay a b → IsLoaded b name r → IsLoaded a name r
loaded-along a b name r stay h = record { bytes = h.bytes; found = finds-along a b name (Some h.bytes) stay h.found; few = h.few; says = h.says }

ends-along : (a b : Option Files) (name : List ℕ) (e : End) → Stay a b → IsFeedEnd b name e → IsFeedEnd a name e
ends-along a b name e stay (inl h) = inl h
ends-along a b name e stay (inr h) = inr (h.0, finds-along a b name h.0 stay h.1, h.2)

-- ---- the session behind a feed

pub fed-next : (number : ℕ) (k : SubId) (name : List ℕ) (s : Session) (r : Recording) (kept : Kept) (world : CodeWorld) (files now : Option Files) (told : Shown) (text : Vec ℕ Global) → feed_refusal k s.world ≡ None
    → IsSession kept files s → IsLoaded files name r → Stay files now → told ≡ shown (feed_answer k r s.world) → IsWorld world (feed_answer k r s.world).world → text.items ≡ kept.text.items ++ told_line number told None
    → IsNext Run number (Feed k name) s (record { world = world; version = kept.version; text = text }) now
fed-next number k name s r kept world files now told text none is loaded stay t stands line = record {
  next = tells number (feed_answer k r s.world) None s;
  answers = (refl, inr (none, r, loaded-along s.files files name r is.shelf loaded, refl));
  session = record {
    keeps = record {
      world = stands;
      version = is.keeps.version;
      text = line ∙ ap (λ (l : List ℕ). l ++ told_line number told None) is.keeps.text ∙ ap (λ (x : Shown). s.text ++ told_line number x None) t;
    };
    none_lost = is.none_lost;
    shelf = stays-along s.files files now is.shelf stay;
  };
}

pub fed-stopped : (k : SubId) (name : List ℕ) (kept : Kept) (s : Session) (files now : Option Files) (e : End) → feed_refusal k s.world ≡ None → IsSession kept files s → Stay files now → IsFeedEnd files name e
    → IsStopped Run (Feed k name) s kept.text.items now e
fed-stopped k name kept s files now e none is stay ends = record {
  last = s;
  halts = (none, refl, ends-along s.files files name e is.shelf ends);
  written = is.keeps.text;
  shelf = subst (λ (lost : Option (List ℕ)). AreFilesBut lost s.files now) (sym is.none_lost) (stays-along s.files files now is.shelf stay);
}

-- ---- what is carried

carries-no : (a : Stream) → carries a no_stream ≡ false
carries-no a = by (is_playback a.dir)
  where
    by : (b : Bool) → ((((b && false) && not (is_bare a)) && false) && nat_eq a.setup.frame_bytes 0) ≡ false
    by true = refl
    by false = refl

no-carries : (b : Stream) → carries no_stream b ≡ false
no-carries b = by (not (is_playback b.dir))
  where
    by : (x : Bool) → ((((true && x) && false) && not (is_bare b)) && nat_eq 0 b.setup.frame_bytes) ≡ false
    by true = refl
    by false = refl

pub carries-from : (a b : Stream) → a ≡ no_stream → false ≡ carries a b
carries-from a b e = sym (ap (λ (s : Stream). carries s b) e ∙ no-carries b)

pub carries-to : (a b : Stream) → b ≡ no_stream → false ≡ carries a b
carries-to a b e = sym (ap (λ (s : Stream). carries a s) e ∙ carries-no a)

grows : (m k : ℕ) → 1 ≤ k → m ≤ m * k
grows m zero h = absurd (omega (arith, h))
grows m (suc k) h = grind arith

pub capped-rest : (taken : List ℕ) (k m n : ℕ) → 1 ≤ k → length taken ≤ 67108864 → m ≡ min n (2 ^ 64 - 1) → rest_of taken k m ≡ rest_of taken k n
capped-rest taken k m n some few e = elim (cases_lt n (2 ^ 64)) [
  | inl less ↦ ap (λ (x : ℕ). rest_of taken k x) (let same : m ≡ n = omega (arith, e, less) in same)
  | inr more ↦
      let capped : m ≡ 2 ^ 64 - 1 = omega (arith, e, more) in
      let here = grows m k some in
      let there = grows n k some in
      drop_all (m * k) taken (omega (arith, few, capped, here)) ∙ sym (drop_all (n * k) taken (omega (arith, few, more, there)))
]

pub rest-carried : (s : Stream) (shape : Shape) (o : Option Shape) (taken : List ℕ) (m n : ℕ) → Some shape ≡ o → IfSome o IsSoundShape → IfSome o (IsShapeOf s) → taken ≡ bytes_of s.card.taken → length taken ≤ 67108864
    → m ≡ min n (2 ^ 64 - 1) → rest_of taken shape.frame_bytes m ≡ rest_of (bytes_of s.card.taken) s.setup.frame_bytes n
rest-carried s shape o taken m n some sound is took few e =
    let sized : IsSoundShape shape = subst (λ (x : Option Shape). IfSome x IsSoundShape) (sym some) sound in
    let same : IsShapeOf s shape = subst (λ (x : Option Shape). IfSome x (IsShapeOf s)) (sym some) is in
    capped-rest taken shape.frame_bytes m n sized.frame few e
    ∙ ap (λ (l : List ℕ). rest_of l shape.frame_bytes n) took
    ∙ ap (λ (k : ℕ). rest_of (bytes_of s.card.taken) k n) (sym same.frame_bytes)

bare-taken : (o : Option Config) (s : Stream) → SoundAt o s → o ≡ None → s.card.taken ≡ []
bare-taken None s h e = h.taken
bare-taken (Some c) s h e = cc

pub nothing-taken : (s : Stream) (n : ℕ) → s.card.taken ≡ [] → [] ≡ rest_of (bytes_of s.card.taken) s.setup.frame_bytes n
nothing-taken s n e = sym (drop_all (n * s.setup.frame_bytes) (bytes_of s.card.taken) (let size : length (bytes_of s.card.taken) ≡ 0 = ap (λ fs. length (bytes_of fs)) e in omega (arith, size)))

pub unset-taken : (s : Stream) (n : ℕ) → Sound s → s.setup.config ≡ None → [] ≡ rest_of (bytes_of s.card.taken) s.setup.frame_bytes n
unset-taken s n sound none = nothing-taken s n (bare-taken s.setup.config s sound none)

-- ---- the session behind a line that stores nothing and loads nothing

pub plain-next : (number : ℕ) (line there : Line) (s : Session) (old new now : Kept) (files : Option Files) → line ≡ there → now ≡ new → is_built_at number line ≡ true → IsSession old files s
    → LineLeads number there s (run_line number there s) → (run_line number there s).lost ≡ s.lost → (run_line number there s).files ≡ s.files → Keeps new (run_line number there s) → IsNext Run number line s now files
plain-next number line there s old new now files e same built is leads lost kept keeps = record {
  next = run_line number there s;
  answers = (built, subst (λ (l : Line). LineLeads number l s (run_line number there s)) (sym e) leads);
  session = record {
    keeps = subst (λ (k : Kept). Keeps k (run_line number there s)) (sym same) keeps;
    none_lost = lost ∙ is.none_lost;
    shelf = subst (λ (f : Option Files). Stay f files) (sym kept) is.shelf;
  };
}
