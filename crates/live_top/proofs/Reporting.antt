-- Text of substream after substream.
use Rattle.std.proofs.Common.{Result, Ok, Err, OnErr, ◌≡◌, ℕ, zero, suc, min, ◌+◌, ◌-◌, ◌^◌, ◌<◌, List, [], ◌∷◌, ◌++◌, length, get_or, drop, take, take-append-drop, refl, sym, ◌∙◌, ap, arith, append_assoc, append-nil}
use Rattle.std.proofs.KnownBytes.{Appends-trans}
use Rattle.std.proofs.lemmas.Grind.{flat_map-append}
use Rattle.std.proofs.lemmas.Option.{slice_get_read}
use Rattle.std.specs.List.{flat_map, range_with_len}
use Rattle.std.specs.declared.option.Option.{Option}
use Rattle.std.specs.Io.KnownBytes.{Appends}
use Rattle.pcm_base.specs.declared.ids.SubId.{SubId}
use Rattle.pcm_base.specs.declared.reply.Page.{Page}
use Rattle.pcm_base.specs.declared.state.Dir.{Dir}
use Rattle.pcm_base.specs.model.Events.{page}
use Rattle.pcm_base.specs.model.Stream.{Stream}
use Rattle.pcm_text.specs.End.{end_line}
use Rattle.floor_rule.specs.declared.entry.Entry.{Entry}
use Rattle.live_gather.specs.declared.gathered.Gathered.{Gathered}
use Rattle.live_log.specs.declared.log.LogError.{LogError}
use Rattle.live_log.specs.Log.{lines_from}
use Rattle.live_log.specs.Written.{IsCutInto, IsFrontWritten}
use Rattle.live_top.specs.Ends.{AreOf, IsOf, end_of, sub_at, text_at}

last : (a n j : ℕ) → a + n ≡ j → range_with_len a (suc n) ≡ range_with_len a n ++ j ∷ []
last a zero j e = let same : a ≡ j = omega arith in ap (λ k. k ∷ []) same
last a (suc n) j e = ap (λ l. a ∷ l) (last (a + 1) n j (omega arith))

-- the text of one more
pub one_more : (f : ℕ → List ℕ) (n : ℕ) → flat_map f (range_with_len 0 (n + 1)) ≡ flat_map f (range_with_len 0 n) ++ f n
one_more f n =
    let on : n + 1 ≡ suc n = omega arith in
    ap (λ k. flat_map f (range_with_len 0 k)) on
    ∙ ap (flat_map f) (last 0 n n (omega arith))
    ∙ flat_map-append f (range_with_len 0 n) (n ∷ [])
    ∙ ap (λ t. flat_map f (range_with_len 0 n) ++ t) (append-nil (f n))

-- the text of the first n stands at the front of that of more
pub front_of : (f : ℕ → List ℕ) (n more : ℕ) → (rest : List ℕ) × (flat_map f (range_with_len 0 (n + more)) ≡ flat_map f (range_with_len 0 n) ++ rest)
front_of f n zero = ([], let e : n + zero ≡ n = omega arith in ap (λ k. flat_map f (range_with_len 0 k)) e ∙ sym (append-nil (flat_map f (range_with_len 0 n))))
front_of f n (suc more) =
    let r = front_of f n more in
    let e : n + suc more ≡ (n + more) + 1 = omega arith in
    (r.0 ++ f (n + more), ap (λ k. flat_map f (range_with_len 0 k)) e ∙ one_more f (n + more) ∙ ap (λ t. t ++ f (n + more)) r.1 ∙ append_assoc (flat_map f (range_with_len 0 n)) r.0 (f (n + more)))

-- what is gathered of the substream at this place
pub one_of : (logs : ℕ → List Entry) (streams : ℕ → Stream) (gs : List Gathered) (i : ℕ) (g : Gathered) → i < length gs → g ≡ get_or gs i g → AreOf logs streams gs → IsOf i (logs i) (streams i) g
one_of logs streams gs i g lt at are = are.each i g (slice_get_read gs (length gs) i g refl lt at)

-- the `end` line of a substream, behind those before
pub end_line_of : (j : ℕ) (k : SubId) (p : Page) (n : ℕ) (s : Stream) (line : List ℕ) → k ≡ sub_at j → p ≡ page s → n ≡ min s.moved (2 ^ 64 - 1) → line ≡ end_line k p n → line ≡ end_of (sub_at j) s
end_line_of j k p n s line sub page_is moved e =
    e ∙ ap (λ (i : SubId). end_line i p n) sub ∙ ap (λ (q : Page). end_line (sub_at j) q n) page_is ∙ ap (λ (m : ℕ). end_line (sub_at j) (page s) m) moved

pub put_end : (f : ℕ → List ℕ) (i : ℕ) (t text line now : List ℕ) → text ≡ t ++ flat_map f (range_with_len 0 i) → line ≡ f i → now ≡ text ++ line → now ≡ t ++ flat_map f (range_with_len 0 (i + 1))
put_end f i t text line now before is e =
    e ∙ ap (λ (l : List ℕ). l ++ line) before ∙ ap (λ (l : List ℕ). (t ++ flat_map f (range_with_len 0 i)) ++ l) is
    ∙ append_assoc t (flat_map f (range_with_len 0 i)) (f i) ∙ ap (λ (l : List ℕ). t ++ l) (sym (one_more f i))

-- the text of a log, by what stands there
pub log_text_of : (streams : ℕ → Stream) (logs : ℕ → List Entry) (j : ℕ) (d : Dir) (k : SubId) (es : List Entry) → d ≡ (streams j).dir → k ≡ sub_at j → es ≡ logs j
    → lines_from d k 0 es ≡ text_at streams logs j
log_text_of streams logs j d k es dir sub entries =
    ap (λ (x : Dir). lines_from x k 0 es) dir ∙ ap (λ (x : SubId). lines_from (streams j).dir x 0 es) sub ∙ ap (λ (x : List Entry). lines_from (streams j).dir (sub_at j) 0 x) entries

-- one log more
pub put_log : (f : ℕ → List ℕ) (i : ℕ) (a b c : Option (List ℕ)) (t text line rest : List ℕ) → IsCutInto a b (t ++ flat_map f (range_with_len 0 i)) text → line ≡ f i
    → IsCutInto b c (text ++ line) rest → IsCutInto a c (t ++ flat_map f (range_with_len 0 (i + 1))) rest
put_log f i a b c t text line rest h is k =
    let before = flat_map f (range_with_len 0 i) in
    record {
      front = h.front ++ k.front;
      written = Appends-trans a b c h.front k.front h.written k.written;
      cut = ap (λ (l : List ℕ). t ++ l) (one_more f i) ∙ sym (append_assoc t before (f i)) ∙ ap (λ (l : List ℕ). (t ++ before) ++ l) (sym is)
          ∙ ap (λ (l : List ℕ). l ++ line) h.cut ∙ append_assoc h.front text line ∙ ap (λ (l : List ℕ). h.front ++ l) k.cut ∙ sym (append_assoc h.front k.front rest);
    }

-- a front of a text is one of what begins with it
pub front_of_more : (a b : Option (List ℕ)) (whole w rest more : List ℕ) → IsCutInto a b w rest → whole ≡ w ++ more → IsFrontWritten a b whole
front_of_more a b whole w rest more h e = record {
  rest = rest ++ more;
  front = record { front = h.front; written = h.written; cut = e ∙ ap (λ (l : List ℕ). l ++ more) h.cut ∙ append_assoc h.front rest more };
}

pub put_front : (f : ℕ → List ℕ) (i n : ℕ) (a b c : Option (List ℕ)) (t text line : List ℕ) → i < n → IsCutInto a b (t ++ flat_map f (range_with_len 0 i)) text → line ≡ f i
    → IsFrontWritten b c (text ++ line) → IsFrontWritten a c (t ++ flat_map f (range_with_len 0 n))
put_front f i n a b c t text line lt h is k =
    let more = n - (i + 1) in
    let r = front_of f (i + 1) more in
    let e : n ≡ (i + 1) + more = omega (arith, lt) in
    front_of_more a c (t ++ flat_map f (range_with_len 0 n)) (t ++ flat_map f (range_with_len 0 (i + 1))) k.rest r.0 (put_log f i a b c t text line k.rest h is k.front)
    (ap (λ (m : ℕ). t ++ flat_map f (range_with_len 0 m)) e ∙ ap (λ (l : List ℕ). t ++ l) r.1 ∙ sym (append_assoc t (flat_map f (range_with_len 0 (i + 1))) r.0))

-- a front of what was left is written
pub rest_front : (a b c : Option (List ℕ)) (whole w text : List ℕ) (n : ℕ) → IsCutInto a b w text → whole ≡ w → Appends b c (take n text) → IsFrontWritten a c whole
rest_front a b c whole w text n h e more = record {
  rest = drop n text;
  front = record {
    front = h.front ++ take n text;
    written = Appends-trans a b c h.front (take n text) h.written more;
    cut = e ∙ h.cut ∙ ap (λ (l : List ℕ). h.front ++ l) (sym (take-append-drop n text)) ∙ sym (append_assoc h.front (take n text) (drop n text));
  };
}

-- all that was left is written
pub rest_all : (a b c : Option (List ℕ)) (whole w text : List ℕ) → IsCutInto a b w text → whole ≡ w → Appends b c text → Appends a c whole
rest_all a b c whole w text h e more = rw (e ∙ h.cut) (Appends-trans a b c h.front text h.written more)

-- text is put behind what is left
pub cut_behind : (a b : Option (List ℕ)) (w text more now : List ℕ) → IsCutInto a b w text → now ≡ text ++ more → IsCutInto a b (w ++ more) now
cut_behind a b w text more now h e = record {
  front = h.front;
  written = h.written;
  cut = ap (λ (l : List ℕ). l ++ more) h.cut ∙ append_assoc h.front text more ∙ ap (λ (l : List ℕ). h.front ++ l) (sym e);
}

pub on_err : {P : Type 0} (r : Result (Unit {0}) LogError) → P → OnErr r P
on_err (Ok u) p = tt
on_err (Err e) p = p
