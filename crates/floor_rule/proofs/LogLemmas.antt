-- Logs that grow: what was read of them, and what backs their entries.
use Rattle.std.proofs.Common.{◌≡◌, ℕ, zero, suc, ◌+◌, ◌<◌, ◌≤◌, ◌^◌, Bool, true, false, ◌||◌, ◌&&◌, ne_eqb, List, [], ◌∷◌, ◌++◌, length, Some, refl, sym, ap, ◌∙◌, subst, arith, length-append, append-nil, append_assoc}
use Rattle.std.specs.Prelude.{slice_get, nat_eq}
use mathlib.Core.Logic.{dite}
use mathlib.Core.List.{IsPrefix}
use native.Mathlib.Decide.{ℕ_discrete}
use Rattle.floor_rule.specs.declared.entry.Entry.{Entry}
use Rattle.floor_rule.specs.declared.entry.EntryMark.{EntryMark}
use Rattle.floor_rule.specs.declared.entry.EntryMark.TheVariants as mark
use Rattle.floor_rule.specs.declared.rule.Lists.{Lists}
use Rattle.floor_rule.specs.declared.rule.Made.{Made}
use Rattle.floor_rule.specs.declared.rule.Marked.{Marked}
use Rattle.floor_rule.specs.declared.rule.Reading.{Reading}
use Rattle.floor_rule.specs.Causes.{At, AllBacked, AllOwn, AllOwnIn, AllReceived, IsBacked, IsOwn, NoneHas}
use Rattle.floor_rule.specs.Lists.{AllBegin}
use Rattle.floor_rule.specs.Marks.{IsOnce, Shown, has_call, is_call, is_new, shown_of}
use Rattle.floor_rule.specs.Pages.{AllLow, AllRead, AllReadOf, IsPageOf, closed, pack_at, page_word, shown_at}
use Rattle.floor_rule.specs.Rule.{Holds}
use Rattle.floor_rule.specs.Steps.{NoneAbove, NoneBeyond, NoneLonger}
use Rattle.floor_rule.specs.Views.{both_lists}
use Rattle.floor_rule.proofs.ListLemmas.{Grows, begins_both, begins_on, get_below, prefix_get, prefix_length}

-- pages

pub shown_at-append : (s : Shown) (xs ys : List Marked) (k : ℕ) → k ≤ length xs → shown_at s (xs ++ ys) k ≡ shown_at s xs k
shown_at-append s [] [] zero le = refl
shown_at-append s [] (y ∷ ys) zero le = refl
shown_at-append s [] ys (suc k) le = absurd (omega arith)
shown_at-append s (x ∷ xs) ys zero le = refl
shown_at-append s (x ∷ xs) ys (suc k) le = shown_at-append (shown_of x.mark) xs ys k (omega arith)

shown_at-last : (s : Shown) (xs : List Marked) (e : Marked) (k : ℕ) → k ≡ length xs → shown_at s (xs ++ e ∷ []) (suc k) ≡ shown_of e.mark
shown_at-last s [] e zero is = refl
shown_at-last s [] e (suc k) is = absurd (omega arith)
shown_at-last s (x ∷ xs) e zero is = absurd (omega arith)
shown_at-last s (x ∷ xs) e (suc k) is = shown_at-last (shown_of x.mark) xs e k (omega arith)

pub shown_at-low : (s : Shown) (xs : List Marked) (k : ℕ) → s.hw < 2 ^ 36 → AllLow xs → (shown_at s xs k).hw < 2 ^ 36
shown_at-low s xs zero l ls = l
shown_at-low s [] (suc k) l ls = l
shown_at-low s (x ∷ xs) (suc k) l ls = shown_at-low (shown_of x.mark) xs k ls.0 ls.1

pub low_push : (xs : List Marked) (e : Marked) → AllLow xs → (shown_of e.mark).hw < 2 ^ 36 → AllLow (xs ++ e ∷ [])
low_push [] e ls l = (l, tt)
low_push (x ∷ xs) e ls l = (ls.0, low_push xs e ls.1 l)

-- the page of a log with one entry more
pub pack_last : (log : List Marked) (e : Marked) → pack_at (log ++ e ∷ []) (length (log ++ e ∷ [])) ≡ page_word (length log + 1) (shown_of e.mark)
pack_last log e =
    let n : length (log ++ e ∷ []) ≡ suc (length log) = omega (arith, length-append log (e ∷ [])) in
    let m : length (log ++ e ∷ []) ≡ length log + 1 = omega (arith, length-append log (e ∷ [])) in
    ap (pack_at (log ++ e ∷ [])) n ∙ ap (page_word (suc (length log))) (shown_at-last closed log e (length log) refl) ∙ ap (λ i. page_word i (shown_of e.mark)) (sym n ∙ m)

page_on : (xs ys : List Marked) (r : Reading) → IsPrefix xs ys → IsPageOf xs r → IsPageOf ys r
page_on xs ys r p is =
    let le : r.count ≤ length ys = omega (arith, prefix_length xs ys p, is.0) in
    (le, is.1 ∙ ap (page_word r.count) (sym (shown_at-append closed xs p.0 r.count is.0)) ∙ ap (λ l. pack_at l r.count) p.1)

pub reads_on : (f g : ℕ → List Marked) → Grows f g → (rs : List Reading) → AllRead f rs → AllRead g rs
reads_on f g grow [] h = tt
reads_on f g grow (r ∷ rs) h = (page_on (f r.sub) (g r.sub) r (grow r.sub) h.0, reads_on f g grow rs h.1)

pub reads_push : (f : ℕ → List Marked) (rs : List Reading) (r : Reading) → AllRead f rs → IsPageOf (f r.sub) r → AllRead f (rs ++ r ∷ [])
reads_push f [] r a is = (is, tt)
reads_push f (x ∷ xs) r a is = (a.0, reads_push f xs r a.1 is)

pub reads_both : (f : ℕ → List Marked) (rs qs : List Reading) → AllRead f rs → AllRead f qs → AllRead f (rs ++ qs)
reads_both f [] qs a b = b
reads_both f (r ∷ rs) qs a b = (a.0, reads_both f rs qs a.1 b)

pub reads_of : (f : ℕ → List Marked) (sub : ℕ) (rs : List Reading) → AllRead f rs → AllReadOf sub (f sub) rs
reads_of f sub [] h = tt
reads_of f sub (r ∷ rs) h = ((λ e. subst (λ j. IsPageOf (f j) r) e h.0), reads_of f sub rs h.1)

pub none_above : (f : ℕ → List Marked) (sub : ℕ) (rs : List Reading) → AllRead f rs → NoneAbove sub (length (f sub)) rs
none_above f sub [] h = tt
none_above f sub (r ∷ rs) h = ((λ e. subst (λ j. r.count ≤ length (f j)) e h.0.0), none_above f sub rs h.1)

pub none_longer : (f : ℕ → List Marked) (sub : ℕ) (ps : List (ℕ × List Marked)) → AllBegin f ps → NoneLonger sub (length (f sub)) ps
none_longer f sub [] h = tt
none_longer f sub (p ∷ ps) h = ((λ e. subst (λ j. length p.1 ≤ length (f j)) e (prefix_length p.1 (f p.0) h.0)), none_longer f sub ps h.1)

pub none_beyond : (f : ℕ → List Marked) (number k sub : ℕ) (rs : List (ℕ × ℕ)) → AllReceived f number k rs → NoneBeyond sub (length (f sub)) rs
none_beyond f number k sub [] h = tt
none_beyond f number k sub (r ∷ rs) h = ((λ e. subst (λ j. r.1 < length (f j)) e (get_below (f r.0) r.1 h.0.0 h.0.1)), none_beyond f number (suc k) sub rs h.1)

-- what a seat holds

pub holds_on : (f g : ℕ → List Marked) (c d : ℕ → List Made) → Grows f g → Grows c d → (l : Lists) → Holds f c l → Holds g d l
holds_on f g c d more calls l h = record { logs = begins_on f g more l.logs h.logs; calls = begins_on c d calls l.calls h.calls; reads = reads_on f g more l.reads h.reads }

pub holds_both : (f : ℕ → List Marked) (c : ℕ → List Made) (a b : Lists) → Holds f c a → Holds f c b → Holds f c (both_lists a b)
holds_both f c a b h k = record { logs = begins_both f a.logs b.logs h.logs k.logs; calls = begins_both c a.calls b.calls h.calls k.calls; reads = reads_both f a.reads b.reads h.reads k.reads }

-- what backs an entry

pub backed_by : (s t : ℕ → ℕ → Marked → Type 0) (a b : ℕ → ℕ → Made → Type 0) → ((j i : ℕ) (e : Marked) → s j i e → t j i e) → ((p n : ℕ) (c : Made) → a p n c → b p n c)
    → (j : ℕ) (e : Entry) (m : EntryMark) → IsBacked s a j e m → IsBacked t b j e m
backed_by s t a b more made j e (mark.Called state hw caller number count) h = (h.0, made caller number h.0 h.1, h.2, h.3)
backed_by s t a b more made j e (mark.Caused state hw sub place) h = (h.0, more sub.0 place h.0 h.1, h.2)

at_on : {A : Type 0} → (f g : ℕ → List A) → Grows f g → (j i : ℕ) (a : A) → At f j i a → At g j i a
at_on f g more j i a h = prefix_get (f j) (g j) i a (more j) h

pub all_backed_on : (f g : ℕ → List Marked) (c d : ℕ → List Made) → Grows f g → Grows c d → (j : ℕ) (es : List Marked) → AllBacked f c j es → AllBacked g d j es
all_backed_on f g c d more calls j [] h = tt
all_backed_on f g c d more calls j (e ∷ es) h = (backed_by (At f) (At g) (At c) (At d) (at_on f g more) (at_on c d calls) j e.entry e.mark h.0, all_backed_on f g c d more calls j es h.1)

pub backed_push : (f : ℕ → List Marked) (c : ℕ → List Made) (j : ℕ) (es : List Marked) (e : Marked) → AllBacked f c j es → IsBacked (At f) (At c) j e.entry e.mark → AllBacked f c j (es ++ e ∷ [])
backed_push f c j [] e h b = (b, tt)
backed_push f c j (x ∷ es) e h b = (h.0, backed_push f c j es e h.1 b)

backed_front : (f : ℕ → List Marked) (c : ℕ → List Made) (j : ℕ) (es rest : List Marked) → AllBacked f c j (es ++ rest) → AllBacked f c j es
backed_front f c j [] rest h = tt
backed_front f c j (e ∷ es) rest h = (h.0, backed_front f c j es rest h.1)

pub once_push : (before es : List Marked) (e : Marked) → IsOnce before es → is_new e.mark (before ++ es) ≡ true → IsOnce before (es ++ e ∷ [])
once_push before [] e h new = (subst (λ l. is_new e.mark l ≡ true) (append-nil before) new, tt)
once_push before (x ∷ es) e h new = (h.0, once_push (before ++ x ∷ []) es e h.1 (subst (λ l. is_new e.mark l ≡ true) (sym (append_assoc before (x ∷ []) es)) new))

-- receipts

pub received_on : (f g : ℕ → List Marked) → Grows f g → (number k : ℕ) (rs : List (ℕ × ℕ)) → AllReceived f number k rs → AllReceived g number k rs
received_on f g more number k [] h = tt
received_on f g more number k (r ∷ rs) h = ((h.0.0, prefix_get (f r.0) (g r.0) r.1 h.0.0 (more r.0) h.0.1, h.0.2), received_on f g more number (suc k) rs h.1)

pub received_push : (f : ℕ → List Marked) (number k : ℕ) (rs : List (ℕ × ℕ)) (r : ℕ × ℕ) (e : Marked) → AllReceived f number k rs → slice_get (f r.0) r.1 ≡ Some e → is_call number (k + length rs) e.mark ≡ true → AllReceived f number k (rs ++ r ∷ [])
received_push f number k [] r e h at is = ((e, at, subst (λ n. is_call number n e.mark ≡ true) (omega arith) is), tt)
received_push f number k (x ∷ rs) r e h at is = (h.0, received_push f number (suc k) rs r e h.1 at (subst (λ n. is_call number n e.mark ≡ true) (omega arith) is))

-- a pass's own calls

own_of : (f : ℕ → List Marked) (c : ℕ → List Made) (number : ℕ) (calls : List Made) → calls ≡ c number → (j : ℕ) (e : Entry) (m : EntryMark) → IsBacked (At f) (At c) j e m → IsOwn number calls j e m
own_of f c number calls same j e (mark.Called state hw caller n count) h = λ is. (h.0, ap (λ l. slice_get l n) (same ∙ ap c (sym is)) ∙ h.1, h.2, h.3)
own_of f c number calls same j e (mark.Caused state hw sub place) h = tt

own_in : (f : ℕ → List Marked) (c : ℕ → List Made) (number : ℕ) (calls : List Made) → calls ≡ c number → (j : ℕ) (es : List Marked) → AllBacked f c j es → AllOwnIn number calls j es
own_in f c number calls same j [] h = tt
own_in f c number calls same j (e ∷ es) h = (own_of f c number calls same j e.entry e.mark h.0, own_in f c number calls same j es h.1)

pub all_own : (f : ℕ → List Marked) (c : ℕ → List Made) (number : ℕ) (calls : List Made) → calls ≡ c number → ((j : ℕ) → AllBacked f c j (f j)) → (ps : List (ℕ × List Marked)) → AllBegin f ps → AllOwn number calls ps
all_own f c number calls same backed [] h = tt
all_own f c number calls same backed (p ∷ ps) h = (
  own_in f c number calls same p.0 p.1 (backed_front f c p.0 p.1 h.0.0 (subst (AllBacked f c p.0) (sym h.0.1) (backed p.0))),
  all_own f c number calls same backed ps h.1,
)

not_next : (number : ℕ) (calls : List Made) (j : ℕ) (e : Entry) (m : EntryMark) → IsOwn number calls j e m → is_call number (length calls) m ≡ false
not_next number calls j e (mark.Called state hw caller n count) h =
    dite (ℕ_discrete caller number)
    (λ is.
    let own = h is in
    let lt : n < length calls = get_below calls n own.0 own.1 in
    let other : nat_eq n (length calls) ≡ false = ne_eqb n (length calls) (λ e. omega arith) in
    subst (λ b. (nat_eq caller number && b) ≡ false) (sym other) (and_false (nat_eq caller number)))
    (λ ne. subst (λ b. (b && nat_eq n (length calls)) ≡ false) (sym (ne_eqb caller number ne)) refl)
  where
    and_false : (b : Bool) → (b && false) ≡ false
    and_false true = refl
    and_false false = refl
not_next number calls j e (mark.Caused state hw sub place) h = refl

none_next : (number : ℕ) (calls : List Made) (j : ℕ) (es : List Marked) → AllOwnIn number calls j es → has_call number (length calls) es ≡ false
none_next number calls j [] h = refl
none_next number calls j (e ∷ es) h =
    subst (λ b. (b || has_call number (length calls) es) ≡ false) (sym (not_next number calls j e.entry e.mark h.0)) (none_next number calls j es h.1)

pub none_has : (number : ℕ) (calls : List Made) (ps : List (ℕ × List Marked)) → AllOwn number calls ps → NoneHas number (length calls) ps
none_has number calls [] h = tt
none_has number calls (p ∷ ps) h = (none_next number calls p.0 p.1 h.0, none_has number calls ps h.1)
