-- What a line leads to is one where the files are told; a feed's file leads to one recording or one end.
use Rattle.std.proofs.Common.{◌≡◌, ℕ, ◌≤◌, ◌<◌, true, false, List, ◌∷◌, length, None, Some, refl, sym, ◌∙◌, ap, subst, inl, inr, arith}
use Rattle.std.specs.Prelude.{◌≢◌, ◌⊎◌, ⊤}
use Rattle.std.specs.FinMap.{get}
use Rattle.std.specs.Option.{is_some}
use Rattle.std.specs.declared.option.Option.{Option}
use Rattle.std.proofs.lemmas.Bool.{cases_lt}
use Rattle.pcm_base.specs.declared.ids.SubId.{SubId}
use Rattle.pcm_base.specs.declared.reply.Reply.TheVariants as reply
use Rattle.pcm_base.specs.declared.state.Errno.{Errno}
use Rattle.pcm_base.specs.model.World.{World, state_in, stays, stream_in}
use Rattle.pcm_io.specs.Shelf.{Files}
use Rattle.pcm_line.specs.declared.line.Line.{Line}
use Rattle.pcm_line.specs.declared.line.Line.TheVariants.{LongMax, Card, Event, Feed, Save, Space, Beat, Threads, Join, Version, Carry, Wire}
use Rattle.pcm_line.specs.Grammar.{IsLine}
use Rattle.wav_file.specs.Grammar.{IsWav}
use Rattle.wav_file.specs.Recordings.{Recording}
use Rattle.wav_file.specs.declared.wav.WavError.{WavError}
use Rattle.wav_file.proofs.Files.{wav_or_fault, not_both, one_recording, one_fault}
use Rattle.pcm_top.specs.Run.{Feeds, Finds, IsLoaded, LineLeads, feed_answer, feed_refusal, files_saved, run_line, save_refusal, saved_file, stored, tells, wav_limit}
use Rattle.pcm_top.specs.Script.{Answers, Halts, IsFeedEnd, IsFileEnd, IsKnown, has, is_feed, is_file_end}
use Rattle.pcm_top.specs.Session.{Session}
use Rattle.pcm_top.specs.declared.command.Command.{Command}
use Rattle.pcm_top.specs.declared.command.Command.TheVariants.{Run, Refine}
use Rattle.pcm_top.specs.declared.end.End.{End}
use Rattle.pcm_top.specs.declared.end.End.TheVariants as end

-- the files are told, or the line is no feed
abbrev pub IsFound : Option Files → Line → Type 0
IsFound (Some files) line = ⊤
IsFound None line = is_feed line ≡ false

-- the first line of those that are known, and the others
pub known-first : (files : Option Files) (bytes : List ℕ) (lines : List (List ℕ)) (line : Line) → IsKnown files (bytes ∷ lines) → IsLine bytes line → IsFound files line
known-first (Some files) bytes lines line known says = tt
known-first None bytes lines line known says = known.0 line says

known-others : (files next : Option Files) (bytes : List ℕ) (lines : List (List ℕ)) → is_some next ≡ is_some files → IsKnown files (bytes ∷ lines) → IsKnown next lines
known-others files (Some next) bytes lines same known = tt
known-others (Some files) None bytes lines same known = cc
known-others None None bytes lines same known = known.1

-- ---- a line keeps whether the files are told

stored-told : (name bytes : List ℕ) (files : Option Files) → is_some (stored name bytes files) ≡ is_some files
stored-told name bytes None = refl
stored-told name bytes (Some files) = refl

saved-told : (k : SubId) (name : List ℕ) (w : World) (files : Option Files) → is_some (files_saved k name w files) ≡ is_some files
saved-told k name w files =
    elim (save_refusal k w) as (λ (r : Option Errno). is_some (elim r [ Some e ↦ files | None ↦ stored name (saved_file (stream_in k w)) files ]) ≡ is_some files)
    [ Some e ↦ refl | None ↦ stored-told name (saved_file (stream_in k w)) files ]

feeds-told : (number : ℕ) (k : SubId) (name : List ℕ) (s t : Session) → Feeds number k name s t → t.files ≡ s.files
feeds-told number k name s t (inl h) = ap (λ (x : Session). x.files) h.2
feeds-told number k name s t (inr h) = ap (λ (x : Session). x.files) h.3

leads-told : (number : ℕ) (line : Line) (s t : Session) → LineLeads number line s t → is_some t.files ≡ is_some s.files
leads-told number (Feed k name) s t h = ap (λ (x : Option Files). is_some x) (feeds-told number k name s t h)
leads-told number (Save k name) s t h = ap (λ (x : Session). is_some x.files) h ∙ saved-told k name s.world s.files
leads-told number _ s t h = ap (λ (x : Session). is_some x.files) h

answers-told : (c : Command) (number : ℕ) (line : Line) (s t : Session) → Answers c number line s t → is_some t.files ≡ is_some s.files
answers-told Run number line s t h = leads-told number line s t h.1
answers-told Refine number (Space model space) s t h = ap (λ (x : Session). is_some x.files) h.2
answers-told Refine number _ s t h = absurd h

pub known-next : (c : Command) (number : ℕ) (line : Line) (s t : Session) (bytes : List ℕ) (lines : List (List ℕ)) → Answers c number line s t → IsKnown s.files (bytes ∷ lines) → IsKnown t.files lines
known-next c number line s t bytes lines h known = known-others s.files t.files bytes lines (answers-told c number line s t h) known

pub known-skipped : (s : Session) (bytes : List ℕ) (lines : List (List ℕ)) → IsKnown s.files (bytes ∷ lines) → IsKnown s.files lines
known-skipped s bytes lines known = known-others s.files s.files bytes lines refl known

-- ---- one file, and one recording of it

one-found : (files : Option Files) (k : SubId) (name : List ℕ) (x y : Option (List ℕ)) → IsFound files (Feed k name) → Finds files name x → Finds files name y → x ≡ y
one-found (Some files) k name x y told a b = a ∙ sym b
one-found None k name x y told a b = let no : true ≡ false = told in cc

one-file : (files : Option Files) (k : SubId) (name x y : List ℕ) → IsFound files (Feed k name) → Finds files name (Some x) → Finds files name (Some y) → x ≡ y
one-file files k name x y told a b = let same : Some x ≡ Some y = one-found files k name (Some x) (Some y) told a b in cc

one-loaded : (files : Option Files) (k : SubId) (name : List ℕ) (q r : Recording) → IsFound files (Feed k name) → IsLoaded files name q → IsLoaded files name r → q ≡ r
one-loaded files k name q r told x y =
    let same : x.bytes ≡ y.bytes = one-file files k name x.bytes y.bytes told x.found y.found in
    one_recording y.bytes q r (subst (λ (bytes : List ℕ). IsWav bytes q) same x.says) y.says

-- a refusal is one
refused-not : (o : Option Errno) (e : Errno) → o ≡ Some e → o ≡ None → ⊥
refused-not o e some none = let h : Some e ≡ None = sym some ∙ none in cc

one-refusal : (o : Option Errno) (d e : Errno) → o ≡ Some d → o ≡ Some e → d ≡ e
one-refusal o d e a b = let h : Some d ≡ Some e = sym a ∙ b in cc

one-feed : (number : ℕ) (k : SubId) (name : List ℕ) (s a b : Session) → IsFound s.files (Feed k name) → Feeds number k name s a → Feeds number k name s b → a ≡ b
one-feed number k name s a b told (inl x) (inl y) =
    let same : x.0 ≡ y.0 = one-refusal (feed_refusal k s.world) x.0 y.0 x.1 y.1 in
    x.2 ∙ ap (λ (e : Errno). tells number (stays (reply.Err e) (Some (state_in k s.world)) s.world) None s) same ∙ sym y.2
one-feed number k name s a b told (inl x) (inr y) = absurd (refused-not (feed_refusal k s.world) x.0 x.1 y.0)
one-feed number k name s a b told (inr x) (inl y) = absurd (refused-not (feed_refusal k s.world) y.0 y.1 x.0)
one-feed number k name s a b told (inr x) (inr y) =
    let same : x.1 ≡ y.1 = one-loaded s.files k name x.1 y.1 told x.2 y.2 in
    x.3 ∙ ap (λ (r : Recording). tells number (feed_answer k r s.world) None s) same ∙ sym y.3

pub one-leads : (number : ℕ) (line : Line) (s a b : Session) → IsFound s.files line → LineLeads number line s a → LineLeads number line s b → a ≡ b
one-leads number (Feed k name) s a b told x y = one-feed number k name s a b told x y
one-leads number _ s a b told x y = x ∙ sym y

-- ---- one end, and no answer beside it

long-or-few : (bytes : List ℕ) (A : Type 0) → wav_limit < length bytes → length bytes ≤ wav_limit → A
long-or-few bytes A long few = absurd (omega (arith, long, few))

one-file-end : (name : List ℕ) (found : Option (List ℕ)) (e f : End) → IsFileEnd name found e → IsFileEnd name found f → e ≡ f
one-file-end name None e f x y = x ∙ sym y
one-file-end name (Some bytes) e f (inl x) (inl y) = x.1 ∙ sym y.1
one-file-end name (Some bytes) e f (inl x) (inr y) = long-or-few bytes (e ≡ f) x.0 y.0
one-file-end name (Some bytes) e f (inr x) (inl y) = long-or-few bytes (e ≡ f) y.0 x.0
one-file-end name (Some bytes) e f (inr x) (inr y) = x.3 ∙ ap (λ (w : WavError). end.BadWav name w) (one_fault bytes x.1 y.1 x.2 y.2) ∙ sym y.3

one-feed-end : (files : Option Files) (k : SubId) (name : List ℕ) (e f : End) → e ≢ end.ShelfFault → f ≢ end.ShelfFault → IsFound files (Feed k name) → IsFeedEnd files name e → IsFeedEnd files name f → e ≡ f
one-feed-end files k name e f p q told (inl x) y = absurd (p x)
one-feed-end files k name e f p q told x (inl y) = absurd (q y)
one-feed-end files k name e f p q told (inr x) (inr y) =
    let same : x.0 ≡ y.0 = one-found files k name x.0 y.0 told x.1 y.1 in
    one-file-end name y.0 e f (subst (λ (found : Option (List ℕ)). IsFileEnd name found e) same x.2) y.2

pub one-halt : (c : Command) (line : Line) (s a b : Session) (e f : End) → e ≢ end.ShelfFault → f ≢ end.ShelfFault → IsFound s.files line → Halts c line s a e → Halts c line s b f → (a ≡ b) × (e ≡ f)
one-halt Run (Save k name) s a b e f p q told x y = absurd (p x.2)
one-halt Run (Feed k name) s a b e f p q told x y = (x.1 ∙ sym y.1, one-feed-end s.files k name e f p q told x.2 y.2)
one-halt Run _ s a b e f p q told x y = absurd x
one-halt Refine line s a b e f p q told x y = absurd x

-- a file that ends the run is none that is fed
loaded-ends : (name bytes : List ℕ) (r : Recording) (e : End) → length bytes ≤ wav_limit → IsWav bytes r → IsFileEnd name (Some bytes) e → ⊥
loaded-ends name bytes r e few says (inl x) = long-or-few bytes ⊥ x.0 few
loaded-ends name bytes r e few says (inr x) = not_both bytes r x.1 says x.2

feeds-ends : (number : ℕ) (k : SubId) (name : List ℕ) (s t : Session) (e : End) → e ≢ end.ShelfFault → IsFound s.files (Feed k name) → Feeds number k name s t → feed_refusal k s.world ≡ None → IsFeedEnd s.files name e → ⊥
feeds-ends number k name s t e p told (inl x) none h = refused-not (feed_refusal k s.world) x.0 x.1 none
feeds-ends number k name s t e p told (inr x) none (inl h) = p h
feeds-ends number k name s t e p told (inr x) none (inr h) =
    let loaded = x.2 in
    let same : h.0 ≡ Some loaded.bytes = one-found s.files k name h.0 (Some loaded.bytes) told h.1 loaded.found in
    loaded-ends name loaded.bytes x.1 e loaded.few loaded.says (subst (λ (found : Option (List ℕ)). IsFileEnd name found e) same h.2)

pub answers-halts : (c : Command) (number : ℕ) (line : Line) (s t last : Session) (e : End) → e ≢ end.ShelfFault → IsFound s.files line → Answers c number line s t → Halts c line s last e → ⊥
answers-halts Run number (Save k name) s t last e p told x y = p y.2
answers-halts Run number (Feed k name) s t last e p told x y = feeds-ends number k name s t e p told x.1 y.0 y.2
answers-halts Run number _ s t last e p told x y = absurd y
answers-halts Refine number line s t last e p told x y = absurd y

pub halts-has : (c : Command) (number : ℕ) (line : Line) (s last : Session) (e : End) → Halts c line s last e → has c number line ≡ true
halts-has Run number (Save k name) s last e h = refl
halts-has Run number (Feed k name) s last e h = refl
halts-has Run number _ s last e h = absurd h
halts-has Refine number line s last e h = absurd h

-- ---- how a line ends the run

file-end : (name : List ℕ) (found : Option (List ℕ)) (e : End) → IsFileEnd name found e → is_file_end e ≡ true
file-end name None e h = ap is_file_end h
file-end name (Some bytes) e (inl h) = ap is_file_end h.1
file-end name (Some bytes) e (inr h) = ap is_file_end h.3

feed-end : (files : Option Files) (name : List ℕ) (e : End) → IsFeedEnd files name e → (e ≡ end.ShelfFault) ⊎ (is_file_end e ≡ true)
feed-end files name e (inl h) = inl h
feed-end files name e (inr h) = inr (file-end name h.0 e h.2)

pub halts-end : (c : Command) (line : Line) (s last : Session) (e : End) → Halts c line s last e → (e ≡ end.ShelfFault) ⊎ (is_file_end e ≡ true)
halts-end Run (Save k name) s last e h = inl h.2
halts-end Run (Feed k name) s last e h = feed-end s.files name e h.2
halts-end Run _ s last e h = absurd h
halts-end Refine line s last e h = absurd h

file-not-whole : (e : End) → is_file_end e ≡ true → e ≡ end.Whole → ⊥
file-not-whole e h w = let no : true ≡ false = sym h ∙ ap is_file_end w in cc

shelf-not-whole : (e : End) → e ≡ end.ShelfFault → e ≡ end.Whole → ⊥
shelf-not-whole e a b = let h : end.ShelfFault ≡ end.Whole = sym a ∙ b in cc

pub halts-not-whole : (c : Command) (line : Line) (s last : Session) (e : End) → Halts c line s last e → e ≡ end.Whole → ⊥
halts-not-whole c line s last e h whole = elim (halts-end c line s last e h) [ inl shelf ↦ shelf-not-whole e shelf whole | inr file ↦ file-not-whole e file whole ]

-- ---- each line of `run` leads to something

-- the line is answered, or ends the run, where the shelf does not fail
abbrev pub Goes : ℕ → Line → Session → Type 0
Goes number line s = ((t : Session) × LineLeads number line s t) ⊎ ((last : Session) × (e : End) × (e ≢ end.ShelfFault) × Halts Run line s last e)

-- what an untold shelf has may be anything: nothing, say
find : (files : Option Files) (name : List ℕ) → (found : Option (List ℕ)) × Finds files name found
find None name = (None, tt)
find (Some files) name = (get files name, refl)

found-goes : (number : ℕ) (k : SubId) (name : List ℕ) (s : Session) (found : Option (List ℕ)) → feed_refusal k s.world ≡ None → Finds s.files name found → Goes number (Feed k name) s
found-goes number k name s None none h = inr (s, end.Missing name, (λ e. cc), (none, refl, inr (None, h, refl)))
found-goes number k name s (Some bytes) none h = elim (cases_lt wav_limit (length bytes)) [
  | inl long ↦ inr (s, end.WavBytes, (λ e. cc), (none, refl, inr (Some bytes, h, inl (long, refl))))
  | inr few ↦ elim (wav_or_fault bytes) [
    | inl wav ↦ inl (tells number (feed_answer k wav.0 s.world) None s, inr (none, wav.0, record { bytes = bytes; found = h; few = few; says = wav.1 }, refl))
    | inr fault ↦ inr (s, end.BadWav name fault.0, (λ e. cc), (none, refl, inr (Some bytes, h, inr (few, fault.0, fault.1, refl))))
  ]
]

feed-goes : (number : ℕ) (k : SubId) (name : List ℕ) (s : Session) (o : Option Errno) → feed_refusal k s.world ≡ o → Goes number (Feed k name) s
feed-goes number k name s (Some e) some = inl (tells number (stays (reply.Err e) (Some (state_in k s.world)) s.world) None s, inl (e, some, refl))
feed-goes number k name s None none = let f = find s.files name in found-goes number k name s f.0 none f.1

pub line-goes : (number : ℕ) (line : Line) (s : Session) → Goes number line s
line-goes number (Feed k name) s = feed-goes number k name s (feed_refusal k s.world) refl
line-goes number (LongMax n) s = inl (run_line number (LongMax n) s, refl)
line-goes number (Card k model dir) s = inl (run_line number (Card k model dir) s, refl)
line-goes number (Event e bytes) s = inl (run_line number (Event e bytes) s, refl)
line-goes number (Save k name) s = inl (run_line number (Save k name) s, refl)
line-goes number (Space model space) s = inl (s, refl)
line-goes number (Beat k m n) s = inl (s, refl)
line-goes number Threads s = inl (s, refl)
line-goes number Join s = inl (s, refl)
line-goes number (Version n) s = inl (run_line number (Version n) s, refl)
line-goes number (Carry k j) s = inl (run_line number (Carry k j) s, refl)
line-goes number (Wire k j) s = inl (s, refl)
