-- A file's chunks at their places, against the chunks that its bytes spell.
use Rattle.std.proofs.Common.{◌≡◌, ◌≢◌, ℕ, zero, suc, ◌+◌, ◌≤◌, Bool, true, false, leb, List, [], ◌∷◌, ◌++◌, length, take, drop, Some, Result, Ok, Err, refl, sym, ap, subst, ◌∙◌, append_assoc, arith, inl, inr, ◌⊎◌}
use Rattle.std.specs.Prelude.{codes, flat_map}
use Rattle.std.specs.List.{AllByRecursion}
use Rattle.std.specs.Str.{bytes_eq}
use Rattle.std.proofs.lemmas.Bool.{cases_lt, cases_Bool, both_ways, or_from, or_left, or_right, or_parts, and_parts, and_from, leb-true, le-leb, cond-true, cond-false, MatchBool-at_true, MatchBool-at_false}
use Rattle.std.proofs.lemmas.List.{length-append, length-drop, length-take, drop_at, take_at, drop-drop}
use Rattle.std.proofs.lemmas.List.Concat.{flat_map-cons}
use Rattle.byteorder.specs.Endian.{little_number}
use Rattle.byteorder.specs.Numbers.{little_from-take}
use Rattle.wav_file.specs.Recordings.{Recording, frame_bytes, whole_frames, frames_from}
use Rattle.wav_file.specs.Chunks.{Place, AreChunks, next_place, past_chunk, size_at, body_at, has_id, from_first, is_data, is_format_or_data}
use Rattle.wav_file.specs.Grammar.{WholeChunk, IsWhole, chunk_bytes, first_format, IsFormat, IsWav}
use Rattle.wav_file.specs.Faults.{is_riff, after_riff, format_at, with_data, from_format, told, WavFault, Answers, recording_of}
use Rattle.wav_file.specs.declared.layout.Layout.{Layout}
use Rattle.wav_file.specs.declared.wav.WavError.{WavError}
use Rattle.wav_file.specs.declared.wav.WavError.TheVariants.{NotRiff, NoFmt}
use Rattle.wav_file.proofs.Search.{from_first-yes, from_first-no}
use Rattle.wav_file.proofs.Pieces.{Opens, head_opens, Begins, chunk_begins, chunk_at, chunk_at-whole, chunk_at-joins, head_joins, split_again, id_true, id_same, id_false}
use Rattle.wav_file.proofs.Formats.{layout, format_says, format_read}

-- ---- the chunks from a place on are there, and are one list

pub one_list : (p : Place) (cs ds : List Place) → AreChunks p cs → AreChunks p ds → cs ≡ ds
one_list p [] [] a b = refl
one_list p [] (d ∷ ds) a b = absurd (omega (arith, b.0))
one_list p (c ∷ cs) [] a b = absurd (omega (arith, a.0))
one_list p (c ∷ cs) (d ∷ ds) a b =
    let heads : c ≡ d = a.1 ∙ sym b.1 in
    let tails : cs ≡ ds = one_list (next_place p) cs ds a.2 b.2 in
    ap (λ (x : Place). x ∷ cs) heads ∙ ap (λ (x : List Place). d ∷ x) tails

list_within : (n : ℕ) (p : Place) → length p.bytes ≤ n → (cs : List Place) × AreChunks p cs
list_within zero p le = ([], omega arith)
list_within (suc n) p le =
    elim (cases_lt (length p.bytes) 8) [
      | inl lt ↦ ([], lt)
      | inr ge ↦
          let rest = list_within n (next_place p) (omega (arith, length-drop (past_chunk p.bytes) p.bytes)) in
          (p ∷ rest.0, (ge, refl, rest.1))
    ]

pub some_list : (p : Place) → (cs : List Place) × AreChunks p cs
some_list p = list_within (length p.bytes) p (omega arith)

abbrev data_id : List ℕ
data_id = codes "data"

abbrev format_id : List ℕ
format_id = codes "fmt "

abbrev AreNoData : List WholeChunk → Type 0
AreNoData chunks = AllByRecursion (λ c. c.id ≢ codes "data") chunks

-- ---- from what the bytes spell to the chunks at their places

abbrev Holds : Place → List WholeChunk → List ℕ → Type 0
Holds p chunks tail = p.bytes ≡ flat_map chunk_bytes chunks ++ tail

first_begins : (p : Place) (k : WholeChunk) (ks : List WholeChunk) (tail : List ℕ) → IsWhole k → Holds p (k ∷ ks) tail → Begins p.bytes k (flat_map chunk_bytes ks ++ tail)
first_begins p k ks tail whole holds =
    let grouped : p.bytes ≡ chunk_bytes k ++ (flat_map chunk_bytes ks ++ tail) =
    holds ∙ ap (λ (x : List ℕ). x ++ tail) (flat_map-cons chunk_bytes k ks) ∙ append_assoc (chunk_bytes k) (flat_map chunk_bytes ks) tail in
    subst (λ (x : List ℕ). Begins x k (flat_map chunk_bytes ks ++ tail)) (sym grouped) (chunk_begins k (flat_map chunk_bytes ks ++ tail) whole)

pub finds_data : (p : Place) (chunks : List WholeChunk) (tail : List ℕ) (cs : List Place) → AllByRecursion IsWhole chunks → AreNoData chunks → Holds p chunks tail → 8 ≤ length tail → is_data tail ≡ true → AreChunks p cs
    → (d : Place) × (ds : List Place) × (from_first is_data cs ≡ d ∷ ds) × (d.bytes ≡ tail)
finds_data p [] tail [] whole other holds long starts are = absurd (omega (arith, are, ap length holds))
finds_data p [] tail (c ∷ cs) whole other holds long starts are =
    let here : c.bytes ≡ tail = ap (λ (q : Place). q.bytes) are.1 ∙ holds in
    (c, cs, from_first-yes is_data c cs (ap is_data here ∙ starts), here)
finds_data p (k ∷ ks) tail [] whole other holds long starts are =
    let begins = first_begins p k ks tail whole.0 holds in absurd (omega (arith, are, begins.long))
finds_data p (k ∷ ks) tail (c ∷ cs) whole other holds long starts are =
    let begins = first_begins p k ks tail whole.0 holds in
    let no_data : is_data c.bytes ≡ false = ap (λ (q : Place). is_data q.bytes) are.1 ∙ ap (bytes_eq data_id) begins.id_is ∙ id_false data_id k.id other.0 in
    let found = finds_data (next_place p) ks tail cs whole.1 other.1 begins.tail_is long starts are.2 in
    (found.0, found.1, from_first-no is_data c cs no_data ∙ found.2, found.3)

-- the first "fmt " chunk at its place
pub record FindsFormat (cs : List Place) (body : List ℕ) : Type 0 where
  pub place : Place
  pub more : List Place
  pub first : from_first is_format_or_data cs ≡ place ∷ more
  pub no_data : is_data place.bytes ≡ false
  pub same_data : from_first is_data (place ∷ more) ≡ from_first is_data cs
  pub body_is : body_at place.bytes ≡ body
  pub fits : 8 + size_at place.bytes ≤ length place.bytes

pub finds_format : (p : Place) (chunks : List WholeChunk) (tail body : List ℕ) (cs : List Place) → AllByRecursion IsWhole chunks → AreNoData chunks → Holds p chunks tail → AreChunks p cs → first_format chunks ≡ Some body → FindsFormat cs body
finds_format p [] tail body cs whole other holds are first = absurd cc
finds_format p (k ∷ ks) tail body [] whole other holds are first =
    let begins = first_begins p k ks tail whole.0 holds in absurd (omega (arith, are, begins.long))
finds_format p (k ∷ ks) tail body (c ∷ cs) whole other holds are first =
    let begins = first_begins p k ks tail whole.0 holds in
    let no_data : is_data c.bytes ≡ false = ap (λ (q : Place). is_data q.bytes) are.1 ∙ ap (bytes_eq data_id) begins.id_is ∙ id_false data_id k.id other.0 in
    let is_format : has_id format_id c.bytes ≡ bytes_eq format_id k.id = ap (λ (q : Place). has_id format_id q.bytes) are.1 ∙ ap (bytes_eq format_id) begins.id_is in
    elim (cases_Bool (bytes_eq format_id k.id)) [
      | inl same ↦
          let body_is : k.body ≡ body = (let some : Some k.body ≡ Some body = sym (cond-true _ (Some k.body) (first_format ks) same) ∙ first in cc) in
          record {
            place = c;
            more = cs;
            first = from_first-yes is_format_or_data c cs (or_left _ _ (is_format ∙ same));
            no_data = no_data;
            same_data = refl;
            body_is = ap (λ (q : Place). body_at q.bytes) are.1 ∙ begins.body_is ∙ body_is;
            fits = rw are.1 (omega (arith, begins.long, begins.size_is));
          }
      | inr differs ↦
          let rest : first_format ks ≡ Some body = sym (cond-false _ (Some k.body) (first_format ks) differs) ∙ first in
          let found = finds_format (next_place p) ks tail body cs whole.1 other.1 begins.tail_is are.2 rest in
          record {
            place = found.place;
            more = found.more;
            first = from_first-no is_format_or_data c cs (or_from _ _ (is_format ∙ differs) no_data) ∙ found.first;
            no_data = found.no_data;
            same_data = found.same_data ∙ sym (from_first-no is_data c cs no_data);
            body_is = found.body_is;
            fits = found.fits;
          }
    ]

-- ---- from the chunks at their places to what the bytes spell

reaches : (test : List ℕ → Bool) (p : Place) (cs : List Place) (d : Place) (ds : List Place) → AreChunks p cs → from_first test cs ≡ d ∷ ds → 8 ≤ length p.bytes
reaches test p [] d ds are first = absurd cc
reaches test p (c ∷ cs) d ds are first = are.0

pub same_data : (cs : List Place) (c : Place) (more : List Place) → from_first is_format_or_data cs ≡ c ∷ more → from_first is_data (c ∷ more) ≡ from_first is_data cs
same_data [] c more first = absurd cc
same_data (x ∷ xs) c more first =
    elim (cases_Bool (is_format_or_data x.bytes)) [
      | inl passes ↦ ap (from_first is_data) (sym first ∙ from_first-yes is_format_or_data x xs passes)
      | inr fails ↦
          same_data xs c more (sym (from_first-no is_format_or_data x xs fails) ∙ first)
          ∙ sym (from_first-no is_data x xs (or_parts _ _ fails).1)
    ]

head_is : (a b : Place) (cs ds : List Place) → a ∷ cs ≡ b ∷ ds → a ≡ b
head_is a b cs ds e = cc

-- the chunks before a "data" chunk
pub record Parses (p : Place) (cs : List Place) (d : Place) : Type 0 where
  pub chunks : List WholeChunk
  pub whole : AllByRecursion IsWhole chunks
  pub before_data : AreNoData chunks
  pub holds : Holds p chunks d.bytes
  pub starts : is_data d.bytes ≡ true
  pub long : 8 ≤ length d.bytes
  pub format : (c : Place) (more : List Place) → from_first is_format_or_data cs ≡ c ∷ more → is_data c.bytes ≡ false → first_format chunks ≡ Some (body_at c.bytes)

parses_at_once : (p : Place) (c : Place) (cs : List Place) (d : Place) (ds : List Place) → AreChunks p (c ∷ cs) → from_first is_data (c ∷ cs) ≡ d ∷ ds → is_data c.bytes ≡ true → Parses p (c ∷ cs) d
parses_at_once p c cs d ds are first passes =
    let here : c ≡ d = head_is c d cs ds (sym (from_first-yes is_data c cs passes) ∙ first) in
    let first_known = from_first-yes is_format_or_data c cs (or_right (has_id format_id c.bytes) _ passes) in
    record {
      chunks = [];
      whole = tt;
      before_data = tt;
      holds = ap (λ (q : Place). q.bytes) (sym are.1 ∙ here);
      starts = rw (← here) passes;
      long = rw (← here, are.1) are.0;
      format = λ e more known differs. absurd (both_ways (is_data e.bytes) differs (ap (λ (q : Place). is_data q.bytes) (sym (head_is c e cs more (sym first_known ∙ known))) ∙ passes));
    }

pub parses : (p : Place) (cs : List Place) (d : Place) (ds : List Place) → AreChunks p cs → from_first is_data cs ≡ d ∷ ds → Parses p cs d
parses p [] d ds are first = absurd cc
parses p (c ∷ cs) d ds are first =
    elim (cases_Bool (is_data c.bytes)) [
      | inl passes ↦ parses_at_once p c cs d ds are first passes
      | inr fails ↦
          let later : from_first is_data cs ≡ d ∷ ds = sym (from_first-no is_data c cs fails) ∙ first in
          let rest = parses (next_place p) cs d ds are.2 later in
          let k = chunk_at p.bytes in
          let fits : past_chunk p.bytes ≤ length p.bytes = omega (arith, reaches is_data (next_place p) cs d ds are.2 later, length-drop (past_chunk p.bytes) p.bytes) in
          let id_is : take 4 c.bytes ≡ k.id = ap (λ (q : Place). take 4 q.bytes) are.1 in
          record {
            chunks = k ∷ rest.chunks;
            whole = (chunk_at-whole p.bytes fits, rest.whole);
            before_data = (λ e. both_ways (is_data c.bytes) fails (ap (bytes_eq data_id) (id_is ∙ e) ∙ id_same data_id), rest.before_data);
            holds =
                chunk_at-joins p.bytes ∙ ap (λ (x : List ℕ). chunk_bytes k ++ x) rest.holds ∙ sym (append_assoc (chunk_bytes k) (flat_map chunk_bytes rest.chunks) d.bytes)
                ∙ ap (λ (x : List ℕ). x ++ d.bytes) (sym (flat_map-cons chunk_bytes k rest.chunks));
            starts = rest.starts;
            long = rest.long;
            format = λ e more known differs.
                elim (cases_Bool (has_id format_id c.bytes)) [
                  | inl same ↦
                      let here : c ≡ e = head_is c e cs more (sym (from_first-yes is_format_or_data c cs (or_left _ _ same)) ∙ known) in
                      cond-true _ (Some k.body) (first_format rest.chunks) (ap (bytes_eq format_id) (sym id_is) ∙ same) ∙ ap (λ (q : Place). Some (body_at q.bytes)) (sym are.1 ∙ here)
                  | inr other ↦
                      cond-false _ (Some k.body) (first_format rest.chunks) (ap (bytes_eq format_id) (sym id_is) ∙ other)
                      ∙ rest.format e more (sym (from_first-no is_format_or_data c cs (or_from _ _ other fails)) ∙ known) differs
                ];
          }
    ]

-- ---- the front of a file, and its "data" chunk

pub riff_joins : (bytes : List ℕ) → is_riff bytes ≡ true → bytes ≡ codes "RIFF" ++ (take 4 (drop 4 bytes) ++ (codes "WAVE" ++ drop 12 bytes))
riff_joins bytes e =
    let parts = and_parts (leb 12 (length bytes)) _ e in
    let ids = and_parts (has_id (codes "RIFF") bytes) _ parts.1 in
    let riff : take 4 bytes ≡ codes "RIFF" = id_true (codes "RIFF") (take 4 bytes) ids.0 in
    let wave : take 4 (drop 8 bytes) ≡ codes "WAVE" = id_true (codes "WAVE") (take 4 (drop 8 bytes)) ids.1 in
    let size = take 4 (drop 4 bytes) in
    head_joins bytes
    ∙ ap (λ (x : List ℕ). x ++ (size ++ drop 8 bytes)) riff
    ∙ ap (λ (x : List ℕ). codes "RIFF" ++ (size ++ x)) (split_again 8 4 bytes)
    ∙ ap (λ (x : List ℕ). codes "RIFF" ++ (size ++ (x ++ drop 12 bytes))) wave

pub riff_long : (bytes : List ℕ) → is_riff bytes ≡ true → 12 ≤ length bytes
riff_long bytes e = leb-true _ _ (and_parts (leb 12 (length bytes)) _ e).0

pub riff_opens : (bytes size more : List ℕ) → length size ≡ 4 → bytes ≡ codes "RIFF" ++ (size ++ (codes "WAVE" ++ more)) → (is_riff bytes ≡ true) × (drop 12 bytes ≡ more)
riff_opens bytes size more len e =
    let opens : Opens bytes (codes "RIFF") size (codes "WAVE" ++ more) = subst (λ (x : List ℕ). Opens x (codes "RIFF") size (codes "WAVE" ++ more)) (sym e) (head_opens (codes "RIFF") size (codes "WAVE" ++ more) refl len) in
    let wave : take 4 (drop 8 bytes) ≡ codes "WAVE" = ap (take 4) opens.rest_is ∙ take_at (codes "WAVE") more 4 refl in
    let long : 12 ≤ length bytes = omega (arith, opens.long, length-append (codes "WAVE") more) in
    (and_from _ _ (le-leb 12 (length bytes) long) (and_from _ _ (ap (bytes_eq (codes "RIFF")) opens.id_is ∙ id_same (codes "RIFF")) (ap (bytes_eq (codes "WAVE")) wave ∙ id_same (codes "WAVE"))), sym (drop-drop 4 8 bytes) ∙ ap (drop 4) opens.rest_is ∙ drop_at (codes "WAVE") more 4 refl)

pub data_joins : (bytes : List ℕ) → is_data bytes ≡ true → bytes ≡ codes "data" ++ (take 4 (drop 4 bytes) ++ drop 8 bytes)
data_joins bytes e = head_joins bytes ∙ ap (λ (x : List ℕ). x ++ (take 4 (drop 4 bytes) ++ drop 8 bytes)) (id_true data_id (take 4 bytes) e)

-- ---- the two directions

record Heard (fs : List Place) (r : Recording) : Type 0 where
  place : Place
  more : List Place
  places_are : fs ≡ place ∷ more
  no_data : is_data place.bytes ≡ false
  says : with_data (format_at place) (from_first is_data (place ∷ more)) ≡ Ok r

heard : (fs : List Place) (r : Recording) → from_format fs ≡ Ok r → Heard fs r
heard [] r e = absurd cc
heard (c ∷ cs) r e =
    elim (cases_Bool (is_data c.bytes)) [
      | inl passes ↦ absurd (let refused : Err NoFmt ≡ Ok r = sym (cond-true _ (Err NoFmt) _ passes) ∙ e in cc)
      | inr fails ↦ record { place = c; more = cs; places_are = refl; no_data = fails; says = sym (cond-false _ (Err NoFmt) _ fails) ∙ e }
    ]

abbrev recorded : Layout → Place → Recording
recorded l d = recording_of l (whole_frames (frame_bytes l.format l.channels) (body_at d.bytes))

record Found (f : Result Layout WavError) (ds : List Place) (r : Recording) : Type 0 where
  layout_is : Layout
  data_at : Place
  more : List Place
  says : f ≡ Ok layout_is
  data_is : ds ≡ data_at ∷ more
  recording_is : recorded layout_is data_at ≡ r

found_with : (f : Result Layout WavError) (ds : List Place) (r : Recording) → with_data f ds ≡ Ok r → Found f ds r
found_with (Err d) ds r e = absurd cc
found_with (Ok l) [] r e = absurd cc
found_with (Ok l) (d ∷ ds) r e = record { layout_is = l; data_at = d; more = ds; says = refl; data_is = refl; recording_is = cc }

pub wav_from_told : (bytes : List ℕ) (cs : List Place) (r : Recording) → is_riff bytes ≡ true → AreChunks (after_riff bytes) cs → told cs ≡ Ok r → IsWav bytes r
wav_from_told bytes cs r riff are e =
    let h = heard (from_first is_format_or_data cs) r e in
    let f = found_with (format_at h.place) (from_first is_data (h.place ∷ h.more)) r h.says in
    let first : from_first is_data cs ≡ f.data_at ∷ f.more = sym (same_data cs h.place h.more h.places_are) ∙ f.data_is in
    let k = parses (after_riff bytes) cs f.data_at f.more are first in
    let says = format_says h.place f.layout_is f.says in
    let d = f.data_at.bytes in
    let size = take 4 (drop 4 d) in
    let size_is : size_at d ≡ little_number 4 size = sym (little_from-take 0 4 4 (drop 4 d) (omega arith)) in
    let long = riff_long bytes riff in
    let wav : IsWav bytes (recorded f.layout_is f.data_at) = record {
      riff_size = take 4 (drop 4 bytes);
      chunks = k.chunks;
      data_size = size;
      rest = drop 8 d;
      spelled = riff_joins bytes riff ∙ ap (λ (x : List ℕ). codes "RIFF" ++ (take 4 (drop 4 bytes) ++ (codes "WAVE" ++ x))) (k.holds ∙ ap (λ (x : List ℕ). flat_map chunk_bytes k.chunks ++ x) (data_joins d k.starts));
      riff_four = omega (arith, length-take 4 (drop 4 bytes), length-drop 4 bytes, long);
      data_four = omega (arith, length-take 4 (drop 4 d), length-drop 4 d, k.long);
      whole = k.whole;
      before_data = k.before_data;
      body = body_at h.place.bytes;
      first = k.format h.place h.more h.places_are h.no_data;
      says = says.1;
      frames = ap (λ (n : ℕ). frames_from f.layout_is.format (whole_frames (frame_bytes f.layout_is.format f.layout_is.channels) (take n (drop 8 d)))) size_is;
    } in
    subst (IsWav bytes) f.recording_is wav

pub told_from_wav : (bytes : List ℕ) (r : Recording) → IsWav bytes r → (is_riff bytes ≡ true) × ((cs : List Place) → AreChunks (after_riff bytes) cs → told cs ≡ Ok r)
told_from_wav bytes r wav =
    let tail = codes "data" ++ (wav.data_size ++ wav.rest) in
    let riff = riff_opens bytes wav.riff_size (flat_map chunk_bytes wav.chunks ++ tail) wav.riff_four wav.spelled in
    let opens = head_opens (codes "data") wav.data_size wav.rest refl wav.data_four in
    let starts : is_data tail ≡ true = ap (bytes_eq data_id) opens.id_is ∙ id_same data_id in
    let body : body_at tail ≡ take (little_number 4 wav.data_size) wav.rest = ap (λ (n : ℕ). take n (drop 8 tail)) opens.size_is ∙ ap (take (little_number 4 wav.data_size)) opens.rest_is in (
      riff.0,
      λ cs are.
          let d = finds_data (after_riff bytes) wav.chunks tail cs wav.whole wav.before_data riff.1 (omega (arith, opens.long)) starts are in
          let f = finds_format (after_riff bytes) wav.chunks tail wav.body cs wav.whole wav.before_data riff.1 are wav.first in
          let says : IsFormat (body_at f.place.bytes) r.format r.channels r.rate = rw f.body_is wav.says in
          let read = format_read f.place r.format r.channels r.rate f.fits says in
          let stored : whole_frames (frame_bytes r.format r.channels) (body_at d.0.bytes) ≡ whole_frames (frame_bytes r.format r.channels) (take (little_number 4 wav.data_size) wav.rest) =
          ap (λ (x : List ℕ). whole_frames (frame_bytes r.format r.channels) (body_at x)) d.3 ∙ ap (whole_frames (frame_bytes r.format r.channels)) body in
          let frames : frames_from r.format (whole_frames (frame_bytes r.format r.channels) (body_at d.0.bytes)) ≡ r.frames = ap (frames_from r.format) stored ∙ sym wav.frames in
          ap from_format f.first
          ∙ cond-false _ (Err NoFmt) _ f.no_data
          ∙ ap (λ (x : Result Layout WavError). with_data x (from_first is_data (f.place ∷ f.more))) read
          ∙ ap (with_data (Ok (layout r.format r.channels r.rate))) (f.same_data ∙ d.2)
          ∙ ap (λ (x : List ℕ). Ok (record { format = r.format; channels = r.channels; rate = r.rate; frames = x })) frames,
    )

-- ---- what a reader answers

pub ok_is_wav : (bytes : List ℕ) (r : Recording) → Answers bytes (Ok r) → IsWav bytes r
ok_is_wav bytes r answers =
    elim (cases_Bool (is_riff bytes)) [
      | inl riff ↦
          let cs = some_list (after_riff bytes) in
          wav_from_told bytes cs.0 r riff cs.1 (MatchBool-at_true _ _ riff answers cs.0 cs.1)
      | inr other ↦ absurd (let refused : Err NotRiff ≡ Ok r = MatchBool-at_false _ _ other answers in cc)
    ]

pub err_is_fault : (bytes : List ℕ) (e : WavError) → Answers bytes (Err e) → WavFault bytes e
err_is_fault bytes e answers =
    elim (cases_Bool (is_riff bytes)) [
      | inl riff ↦
          let cs = some_list (after_riff bytes) in
          rw riff (cs.0, cs.1, MatchBool-at_true _ _ riff answers cs.0 cs.1)
      | inr other ↦ rw other (let refused : Err NotRiff ≡ Err e = MatchBool-at_false _ _ other answers in cc)
    ]

pub wav_is_answer : (bytes : List ℕ) (w : Recording) (r : Result Recording WavError) → IsWav bytes w → Answers bytes r → r ≡ Ok w
wav_is_answer bytes w r wav answers =
    let told_is = told_from_wav bytes w wav in
    let cs = some_list (after_riff bytes) in
    sym (MatchBool-at_true _ _ told_is.0 answers cs.0 cs.1) ∙ told_is.1 cs.0 cs.1

pub fault_is_answer : (bytes : List ℕ) (e : WavError) (r : Result Recording WavError) → WavFault bytes e → Answers bytes r → r ≡ Err e
fault_is_answer bytes e r fault answers =
    elim (cases_Bool (is_riff bytes)) [
      | inl riff ↦
          let f = MatchBool-at_true _ _ riff fault in
          sym (MatchBool-at_true _ _ riff answers f.0 f.1) ∙ f.2
      | inr other ↦ sym (MatchBool-at_false _ _ other answers) ∙ ap (λ (x : WavError). Err x) (sym (MatchBool-at_false _ _ other fault))
    ]

-- what a reader of these bytes answers
answer_of : (bytes : List ℕ) → (r : Result Recording WavError) × Answers bytes r
answer_of bytes =
    elim (cases_Bool (is_riff bytes)) [
      | inl riff ↦
          let cs = some_list (after_riff bytes) in
          (told cs.0, rw riff (λ ds are. ap told (one_list (after_riff bytes) ds cs.0 are cs.1)))
      | inr other ↦ (Err NotRiff, rw other refl)
    ]

wav_or_fault_at : (bytes : List ℕ) (r : Result Recording WavError) → Answers bytes r → ((w : Recording) × IsWav bytes w) ⊎ ((e : WavError) × WavFault bytes e)
wav_or_fault_at bytes (Ok w) answers = inl (w, ok_is_wav bytes w answers)
wav_or_fault_at bytes (Err e) answers = inr (e, err_is_fault bytes e answers)

pub wav_or_fault : (bytes : List ℕ) → ((w : Recording) × IsWav bytes w) ⊎ ((e : WavError) × WavFault bytes e)
wav_or_fault bytes = let a = answer_of bytes in wav_or_fault_at bytes a.0 a.1

pub not_both : (bytes : List ℕ) (w : Recording) (e : WavError) → IsWav bytes w → WavFault bytes e → ⊥
not_both bytes w e wav fault =
    let a = answer_of bytes in
    let one : Ok w ≡ Err e = sym (wav_is_answer bytes w a.0 wav a.1) ∙ fault_is_answer bytes e a.0 fault a.1 in
    absurd cc

abbrev ok_recording : Recording → Result Recording WavError
ok_recording w = Ok w

abbrev err_recording : WavError → Result Recording WavError
err_recording e = Err e

pub one_recording : (bytes : List ℕ) (v w : Recording) → IsWav bytes v → IsWav bytes w → v ≡ w
one_recording bytes v w first second =
    let a = answer_of bytes in
    let one : ok_recording v ≡ ok_recording w = sym (wav_is_answer bytes v a.0 first a.1) ∙ wav_is_answer bytes w a.0 second a.1 in
    cc

pub one_fault : (bytes : List ℕ) (d e : WavError) → WavFault bytes d → WavFault bytes e → d ≡ e
one_fault bytes d e first second =
    let a = answer_of bytes in
    let one : err_recording d ≡ err_recording e = sym (fault_is_answer bytes d a.0 first a.1) ∙ fault_is_answer bytes e a.0 second a.1 in
    cc

-- ---- what a search for the chunks gives

found_first : (p : Place) (cs : List Place) → AreChunks p cs → 8 ≤ length p.bytes → (more : List Place) × (cs ≡ p ∷ more)
found_first p [] are long = absurd (omega arith)
found_first p (c ∷ cs) are long = (cs, ap (λ (q : Place). q ∷ cs) are.1)

pub found_both : (bytes frames : List ℕ) (first data_at : Place) (l : Layout) → is_riff bytes ≡ true
    → ((cs : List Place) → AreChunks (after_riff bytes) cs → AreChunks first (from_first is_format_or_data cs)) → 8 ≤ length first.bytes → is_data first.bytes ≡ false → format_at first ≡ Ok l
    → ((cs : List Place) → AreChunks first cs → AreChunks data_at (from_first is_data cs)) → 8 ≤ length data_at.bytes → frames ≡ whole_frames (frame_bytes l.format l.channels) (body_at data_at.bytes)
    → Answers bytes (Ok (recording_of l frames))
found_both bytes frames first data_at l riff to_first long differs says to_data data_long held =
    let told_is : (cs : List Place) → AreChunks (after_riff bytes) cs → told cs ≡ Ok (recording_of l frames) = λ cs are.
    let known = from_first is_format_or_data cs in
    let f = found_first first known (to_first cs are) long in
    let d = found_first data_at (from_first is_data known) (to_data known (to_first cs are)) data_long in
    ap from_format f.1
    ∙ cond-false _ (Err NoFmt) _ differs
    ∙ ap (λ (x : Result Layout WavError). with_data x (from_first is_data (first ∷ f.0))) says
    ∙ ap (with_data (Ok l)) (ap (from_first is_data) (sym f.1) ∙ d.1)
    ∙ ap (λ (x : List ℕ). Ok (recording_of l x)) (sym held) in
    rw riff told_is
