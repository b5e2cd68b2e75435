-- What reading gives is what the grammar says.
use Rattle.std.specs.Prelude.{◌==◌, ◌&&◌, not, Option, Some, None, Result, Ok, Err, IfOk, IfErr, ◌⊎◌}
use Rattle.std.proofs.lemmas.Bool.{eqb-true}
use Rattle.std.proofs.lemmas.List.{append-nil}
use Rattle.std.proofs.Common.{◌≡◌, Bool, true, false, cond, ℕ, ◌+◌, List, [], ◌∷◌, ◌++◌, length, refl, sym, ◌∙◌, ap, subst, inl, inr, append_assoc}
use Rattle.pcm_line.specs.declared.line.Line.{Line}
use Rattle.pcm_line.specs.declared.error.LineError.{LineError}
use Rattle.pcm_line.specs.declared.keyword.Keyword.{Keyword}
use Rattle.pcm_line.specs.declared.keyword.Keyword.TheVariants as keyword
use Rattle.pcm_line.specs.declared.error.LineError.TheVariants.{Word, Number, Short, Long, Memory}
use Rattle.pcm_line.specs.Kinds.{Kind, Value, spelled, Fits}
use Rattle.pcm_line.specs.Pieces.{joined, onto_first, pieces_of, Place}
use Rattle.pcm_line.specs.Forms.{Values, form_of}
use Rattle.pcm_line.specs.Tables.{keyword_for}
use Rattle.pcm_line.specs.Keywords.{text_of}
use Rattle.pcm_line.specs.Grammar.{spellings, AllFit, IsLine, IsOfKind, misfit, IsFault, IsNoKeyword, IsPiecesFault, LineFault}
use Rattle.pcm_line.specs.Reading.{◌>>=◌, Gives, value_of, or_misfit, read_values, read_by, read_after, read_others, read_pieces, read_bytes}
use Rattle.pcm_line.proofs.Cutting.{first_piece, no_space}
use Rattle.pcm_line.proofs.KindLaws.{again, is-spelled}
use Rattle.pcm_line.proofs.KeywordLaws.{keyword-again, keyword_for-is}

-- ---- joining and cutting

abbrev tail : List (List ℕ) → List ℕ
tail [] = []
tail (p ∷ ps) = joined (32 ∷ p) ps

joined-front : (a b : List ℕ) (ps : List (List ℕ)) → joined (a ++ b) ps ≡ a ++ joined b ps
joined-front a b [] = refl
joined-front a b (p ∷ ps) = ap (λ (x : List ℕ). joined x ps) (append_assoc a b (32 ∷ p)) ∙ joined-front a (b ++ 32 ∷ p) ps

joined-tail : (w : List ℕ) (ps : List (List ℕ)) → joined w ps ≡ w ++ tail ps
joined-tail w [] = sym (append-nil w)
joined-tail w (p ∷ ps) = joined-front w (32 ∷ p) ps

abbrev pub AllClear : List (List ℕ) → Type 0
AllClear [] = Unit {0}
AllClear (p ∷ ps) = (no_space p ≡ true) × AllClear ps

not-parts : (x y : Bool) → (not x && y) ≡ true → (x ≡ false) × (y ≡ true)
not-parts true y e = absurd cc
not-parts false y e = (refl, e)

pieces_of-front : (p rest : List ℕ) (ps : List (List ℕ)) → no_space p ≡ true → pieces_of rest ≡ [] ∷ ps → pieces_of (p ++ rest) ≡ p ∷ ps
pieces_of-front [] rest ps e f = f
pieces_of-front (b ∷ p) rest ps e f =
    let a = not-parts (b == 32) (no_space p) e in
    rw (a.0, pieces_of-front p rest ps a.1 f) refl

pieces_of-tail : (ps : List (List ℕ)) → AllClear ps → pieces_of (tail ps) ≡ [] ∷ ps
pieces_of-tail [] c = refl
pieces_of-tail (p ∷ ps) c =
    let e : joined (32 ∷ p) ps ≡ 32 ∷ (p ++ tail ps) = joined-tail (32 ∷ p) ps in
    rw (e, pieces_of-front p (tail ps) ps c.0 (pieces_of-tail ps c.1)) refl

pieces_of-joined : (w : List ℕ) (ps : List (List ℕ)) → no_space w ≡ true → AllClear ps → pieces_of (joined w ps) ≡ w ∷ ps
pieces_of-joined w ps e c = rw joined-tail (pieces_of-front w (tail ps) ps e (pieces_of-tail ps c))

-- the pieces of bytes, joined
abbrev all_joined : List (List ℕ) → List ℕ
all_joined [] = []
all_joined (w ∷ ps) = joined w ps

joined-onto_first : (b : ℕ) (pieces : List (List ℕ)) → all_joined (onto_first b pieces) ≡ b ∷ all_joined pieces
joined-onto_first b [] = refl
joined-onto_first b (p ∷ ps) = joined-front (b ∷ []) p ps

spaced : (p : List ℕ) (ps : List (List ℕ)) (pieces : List (List ℕ)) → pieces ≡ p ∷ ps → all_joined ([] ∷ pieces) ≡ 32 ∷ all_joined pieces
spaced p ps pieces e = rw e (joined-front (32 ∷ []) p ps)

joined-pieces_of-if : (b : ℕ) (bytes : List ℕ) (t : Bool) → all_joined (pieces_of bytes) ≡ bytes → all_joined (cond t ([] ∷ pieces_of bytes) (onto_first b (pieces_of bytes))) ≡ cond t 32 b ∷ bytes
joined-pieces_of-if b bytes true ih =
    let f = first_piece bytes in
    spaced f.0 f.1 (pieces_of bytes) f.2 ∙ ap (λ (x : List ℕ). 32 ∷ x) ih
joined-pieces_of-if b bytes false ih = joined-onto_first b (pieces_of bytes) ∙ ap (λ (x : List ℕ). b ∷ x) ih

is-32 : (b : ℕ) (t : Bool) → (b == 32) ≡ t → cond t 32 b ≡ b
is-32 b true e = sym (eqb-true b 32 e)
is-32 b false e = refl

joined-pieces_of : (bytes : List ℕ) → all_joined (pieces_of bytes) ≡ bytes
joined-pieces_of [] = refl
joined-pieces_of (b ∷ bytes) = joined-pieces_of-if b bytes (b == 32) (joined-pieces_of bytes) ∙ ap (λ (x : ℕ). x ∷ bytes) (is-32 b (b == 32) refl)

-- ---- the pieces of a form

abbrev place : ℕ → List (List ℕ) → Place
place at pieces = record { at = at; pieces = pieces }

clear : (ks : List Kind) (a : Values ks) → AllFit ks a → AllClear (spellings ks a)
clear [] a fit = tt
clear (k ∷ ks) a fit = ((again k a.0 fit.0).1, clear ks a.1 fit.1)

values-again : (ks : List Kind) (a : Values ks) (at : ℕ) → AllFit ks a → read_values ks (place at (spellings ks a)) ≡ Ok a
values-again [] a at fit = refl
values-again (k ∷ ks) a at fit = rw ((again k a.0 fit.0).0, values-again ks a.1 (at + length (spelled k a.0) + 1) fit.1) refl

-- what a list of pieces gives, as the grammar says
abbrev Told : (ks : List Kind) → ℕ → List (List ℕ) → Result (Values ks) LineError → Type 0
Told ks at ps (Ok a) = AllFit ks a × (ps ≡ spellings ks a)
Told ks at ps (Err e) = IsFault ks at ps e

none-of-kind : (k : Kind) (p : List ℕ) → value_of k p ≡ None → IsOfKind k p → ⊥
none-of-kind k p e is =
    let r : value_of k p ≡ Some is.0 = rw is.2 (again k is.0 is.1).0 in
    absurd cc

told-others : (k : Kind) (ks : List Kind) (at : ℕ) (p : List ℕ) (ps : List (List ℕ)) (v : Value k) → Fits k v → p ≡ spelled k v
    → (r : Result (Values ks) LineError) → Told ks (at + length p + 1) ps r → Told (k ∷ ks) at (p ∷ ps) (r >>= λ others. Ok (v, others))
told-others k ks at p ps v fit e (Ok a) h = ((fit, h.0), rw (e, h.1) refl)
told-others k ks at p ps v fit e (Err f) h = inr ((v, fit, e), h)

told-value : (k : Kind) (ks : List Kind) (at : ℕ) (p : List ℕ) (ps : List (List ℕ)) (o : Option (Value k)) → value_of k p ≡ o
    → ((at : ℕ) → Told ks at ps (read_values ks (place at ps)))
    → Told (k ∷ ks) at (p ∷ ps) (or_misfit k at (place (at + length p + 1) ps) o >>= λ x. read_values ks x.1 >>= λ others. Ok (x.0, others))
told-value k ks at p ps None e ih = inl (none-of-kind k p e, refl)
told-value k ks at p ps (Some v) e ih =
    let s = is-spelled k p v e in
    told-others k ks at p ps v s.0 s.1 (read_values ks (place (at + length p + 1) ps)) (ih (at + length p + 1))

told : (ks : List Kind) (at : ℕ) (ps : List (List ℕ)) → Told ks at ps (read_values ks (place at ps))
told [] at [] = (tt, refl)
told [] at (p ∷ ps) = refl
told (k ∷ ks) at [] = refl
told (k ∷ ks) at (p ∷ ps) = told-value k ks at p ps (value_of k p) refl (λ next. told ks next ps)

abbrev and_values : (k : Kind) (ks : List Kind) → Result (Value k × Place) LineError → Result (Values (k ∷ ks)) LineError
and_values k ks r = r >>= λ x. read_values ks x.1 >>= λ others. Ok (x.0, others)

-- a fault is the fault that reading finds
fault-value : (k : Kind) (ks : List Kind) (at : ℕ) (p : List ℕ) (ps : List (List ℕ)) (e : LineError) (o : Option (Value k)) → value_of k p ≡ o
    → ((¬ IsOfKind k p) × (e ≡ misfit k at)) ⊎ (IsOfKind k p × (read_values ks (place (at + length p + 1) ps) ≡ Err e))
    → and_values k ks (or_misfit k at (place (at + length p + 1) ps) o) ≡ Err e
fault-value k ks at p ps e None h (inl f) = ap (λ (x : LineError). Err x) (sym f.1)
fault-value k ks at p ps e None h (inr f) = absurd (none-of-kind k p h f.0)
fault-value k ks at p ps e (Some v) h (inl f) =
    let s = is-spelled k p v h in
    absurd (f.0 (v, s.0, s.1))
fault-value k ks at p ps e (Some v) h (inr f) = rw f.1 refl

or-later : {P Q R : Type 0} → (Q → R) → P ⊎ Q → P ⊎ R
or-later f (inl p) = inl p
or-later f (inr q) = inr (f q)

fault-values : (ks : List Kind) (at : ℕ) (ps : List (List ℕ)) (e : LineError) → IsFault ks at ps e → read_values ks (place at ps) ≡ Err e
fault-values [] at [] e f = absurd f
fault-values [] at (p ∷ ps) e f = ap (λ (x : LineError). Err x) (sym f)
fault-values (k ∷ ks) at [] e f = ap (λ (x : LineError). Err x) (sym f)
fault-values (k ∷ ks) at (p ∷ ps) e f = fault-value k ks at p ps e (value_of k p) refl (or-later (λ q. (q.0, fault-values ks (at + length p + 1) ps e q.1)) f)

-- ---- forms

read_after-form : (k : Keyword) (at : Place) → read_after k at ≡ read_by (form_of k) at
read_after-form keyword.Writei at = refl
read_after-form keyword.Move at = refl
read_after-form keyword.Irq at = refl
read_after-form keyword.Status at = refl
read_after-form keyword.Readi at = refl
read_after-form keyword.Writen at = refl
read_after-form keyword.Readn at = refl
read_after-form keyword.Store at = refl
read_after-form keyword.Load at = refl
read_after-form keyword.Rewind at = refl
read_after-form keyword.Forward at = refl
read_after-form keyword.Sync at = refl
read_after-form keyword.Hwsync at = refl
read_after-form keyword.Delay at = refl
read_after-form keyword.Page at = refl
read_after-form keyword.Poll at = refl
read_after-form keyword.Prepare at = refl
read_after-form keyword.Start at = refl
read_after-form keyword.Drop at = refl
read_after-form keyword.Drain at = refl
read_after-form keyword.Xrun at = refl
read_after-form keyword.Pause at = refl
read_after-form keyword.Release at = refl
read_after-form keyword.Suspend at = refl
read_after-form keyword.Resume at = refl
read_after-form keyword.Go at = refl
read_after-form keyword.Link at = refl
read_after-form keyword.Unlink at = refl
read_after-form keyword.Mmap at = refl
read_after-form keyword.Munmap at = refl
read_after-form keyword.Open at = refl
read_after-form keyword.Close at = refl
read_after-form keyword.Hw at = refl
read_after-form keyword.Hwfree at = refl
read_after-form keyword.Sw at = refl
read_after-form keyword.Long at = refl
read_after-form keyword.Card at = refl
read_after-form keyword.Fail at = refl
read_after-form keyword.Unplug at = refl
read_after-form keyword.Give at = refl
read_after-form keyword.Feed at = refl
read_after-form keyword.Save at = refl
read_after-form keyword.Space at = refl
read_after-form keyword.Beat at = refl
read_after-form keyword.Threads at = refl
read_after-form keyword.Join at = refl
read_after-form keyword.Version at = refl
read_after-form keyword.Carry at = refl
read_after-form keyword.Wire at = refl

in-form : (piece : List ℕ) (k : Keyword) (at : Place) → piece ≡ text_of k → read_others (keyword_for piece) at ≡ read_by (form_of k) at
in-form piece k at e = rw (e, (keyword-again k).1) (read_after-form k at)

no-keyword-if : (piece : List ℕ) (o : Option Keyword) (at : Place) → keyword_for piece ≡ o → IsNoKeyword piece → read_others o at ≡ Err (Word 0)
no-keyword-if piece None at e never = refl
no-keyword-if piece (Some k) at e never = absurd (never k (keyword_for-is piece k e))

no-keyword : (piece : List ℕ) (at : Place) → IsNoKeyword piece → read_others (keyword_for piece) at ≡ Err (Word 0)
no-keyword piece at never = no-keyword-if piece (keyword_for piece) at refl never

-- ---- lines

-- what a line gives, as the grammar says
abbrev pub LineTold : List ℕ → Result Line LineError → Type 0
LineTold bytes (Ok line) = IsLine bytes line
LineTold bytes (Err e) = LineFault bytes e

form-told : (bytes first : List ℕ) (others : List (List ℕ)) (k : Keyword) (r : Result (Values (form_of k).kinds) LineError) → pieces_of bytes ≡ first ∷ others → first ≡ text_of k → bytes ≡ joined first others
    → Told (form_of k).kinds (length first + 1) others r → LineTold bytes (r >>= λ v. Ok ((form_of k).means v))
form-told bytes first others k (Ok v) c d j t = record { keyword = k; values = v; fit = t.0; means = refl; spelling = j ∙ ap (λ (x : List ℕ). joined x others) d ∙ ap (λ (x : List (List ℕ)). joined (text_of k) x) t.1 }
form-told bytes first others k (Err e) c d j t = rw c (inr (k, d, t))

no-line : (bytes first : List ℕ) (others : List (List ℕ)) → pieces_of bytes ≡ first ∷ others → IsNoKeyword first → LineFault bytes (Word 0)
no-line bytes first others c never = rw c (inl (never, refl))

differs : (first : List ℕ) (k : Keyword) → keyword_for first ≡ None → first ≡ text_of k → ⊥
differs first k e is =
    let found : keyword_for first ≡ Some k = rw is (keyword-again k).1 in
    absurd cc

keyword-told : (bytes first : List ℕ) (others : List (List ℕ)) (o : Option Keyword) → pieces_of bytes ≡ first ∷ others → keyword_for first ≡ o → bytes ≡ joined first others
    → LineTold bytes (read_others (keyword_for first) (place (length first + 1) others))
keyword-told bytes first others None c d j =
    let never : IsNoKeyword first = λ k e. differs first k d e in
    let r = no-keyword first (place (length first + 1) others) never in
    subst (λ (x : Result Line LineError). LineTold bytes x) (sym r) (no-line bytes first others c never)
keyword-told bytes first others (Some k) c d j =
    let is = keyword_for-is first k d in
    let r = in-form first k (place (length first + 1) others) is in
    subst (λ (x : Result Line LineError). LineTold bytes x) (sym r) (form-told bytes first others k (read_values (form_of k).kinds (place (length first + 1) others)) c is j (told (form_of k).kinds (length first + 1) others))

-- what is read is a line or has the fault
pub line-told : (bytes : List ℕ) → LineTold bytes (read_bytes bytes)
line-told bytes =
    let f = first_piece bytes in
    let j : bytes ≡ joined f.0 f.1 = sym (joined-pieces_of bytes) ∙ ap all_joined f.2 in
    let r : read_bytes bytes ≡ read_others (keyword_for f.0) (place (length f.0 + 1) f.1) = ap read_pieces f.2 in
    subst (λ (x : Result Line LineError). LineTold bytes x) (sym r) (keyword-told bytes f.0 f.1 (keyword_for f.0) f.2 refl j)

-- a line is read
pub line-again : (bytes : List ℕ) (line : Line) → IsLine bytes line → read_bytes bytes ≡ Ok line
line-again bytes line is =
    let c : pieces_of bytes ≡ text_of is.keyword ∷ spellings (form_of is.keyword).kinds is.values = ap pieces_of is.spelling ∙ pieces_of-joined (text_of is.keyword) (spellings (form_of is.keyword).kinds is.values) (keyword-again is.keyword).0 (clear (form_of is.keyword).kinds is.values is.fit) in
    let a = values-again (form_of is.keyword).kinds is.values (length (text_of is.keyword) + 1) is.fit in
    let f = in-form (text_of is.keyword) is.keyword (place (length (text_of is.keyword) + 1) (spellings (form_of is.keyword).kinds is.values)) refl in
    ap read_pieces c ∙ f ∙ rw a (ap (λ (x : Line). Ok x) (sym is.means))

fault-pieces : (pieces : List (List ℕ)) (e : LineError) → IsPiecesFault pieces e → read_pieces pieces ≡ Err e
fault-pieces [] e f = absurd f
fault-pieces (first ∷ others) e (inl f) = no-keyword first (place (length first + 1) others) f.0 ∙ ap (λ (x : LineError). Err x) (sym f.1)
fault-pieces (first ∷ others) e (inr f) = in-form first f.0 (place (length first + 1) others) f.1 ∙ rw (fault-values (form_of f.0).kinds (length first + 1) others e f.2) refl

-- a fault is found
pub fault-again : (bytes : List ℕ) (e : LineError) → LineFault bytes e → read_bytes bytes ≡ Err e
fault-again bytes e f = fault-pieces (pieces_of bytes) e f

told-either : (bytes : List ℕ) (r : Result Line LineError) → LineTold bytes r → ((line : Line) × IsLine bytes line) ⊎ ((e : LineError) × LineFault bytes e)
told-either bytes (Ok line) t = inl (line, t)
told-either bytes (Err e) t = inr (e, t)

pub line-or-fault : (bytes : List ℕ) → ((line : Line) × IsLine bytes line) ⊎ ((e : LineError) × LineFault bytes e)
line-or-fault bytes = told-either bytes (read_bytes bytes) (line-told bytes)

pub line-no-fault : (bytes : List ℕ) (line : Line) (e : LineError) → IsLine bytes line → ¬ LineFault bytes e
line-no-fault bytes line e is fault =
    let read : read_bytes bytes ≡ Ok line = line-again bytes line is in
    let refused : read_bytes bytes ≡ Err e = fault-again bytes e fault in
    cc

pub one-fault : (bytes : List ℕ) (a b : LineError) → LineFault bytes a → LineFault bytes b → a ≡ b
one-fault bytes a b f g =
    let first : read_bytes bytes ≡ Err a = fault-again bytes a f in
    let second : read_bytes bytes ≡ Err b = fault-again bytes b g in
    cc

-- ---- for the clauses

pub is-line : (bytes : List ℕ) (r : Result Line LineError) → Gives (λ (l : Line). l) r (read_bytes bytes) → IfOk r (λ line. IsLine bytes line)
is-line bytes (Ok line) g = subst (λ (x : Result Line LineError). LineTold bytes x) g (line-told bytes)
is-line bytes (Err e) g = tt

failed : (bytes : List ℕ) (e f : LineError) → read_bytes bytes ≡ Err f → f ≡ e → (e ≡ Memory) ⊎ LineFault bytes e
failed bytes e f g s = inr (rw (← s) (subst (λ (x : Result Line LineError). LineTold bytes x) g (line-told bytes)))

pub is-fault : (bytes : List ℕ) (r : Result Line LineError) → Gives (λ (l : Line). l) r (read_bytes bytes) → IfErr r (λ e. (e ≡ Memory) ⊎ LineFault bytes e)
is-fault bytes (Ok line) g = tt
is-fault bytes (Err Memory) g = inl refl
is-fault bytes (Err (Word at)) g = failed bytes (Word at) (Word at) g refl
is-fault bytes (Err (Number at)) g = failed bytes (Number at) (Number at) g refl
is-fault bytes (Err Short) g = failed bytes Short Short g refl
is-fault bytes (Err (Long at)) g = failed bytes (Long at) (Long at) g refl

given-ok : (r read : Result Line LineError) (line : Line) → Gives (λ (l : Line). l) r read → read ≡ Ok line → (r ≡ Err Memory) ⊎ (r ≡ Ok line)
given-ok (Ok l) read line g e = inr (sym g ∙ e)
given-ok (Err Memory) read line g e = inl refl
given-ok (Err (Word at)) read line g e = absurd cc
given-ok (Err (Number at)) read line g e = absurd cc
given-ok (Err Short) read line g e = absurd cc
given-ok (Err (Long at)) read line g e = absurd cc

given-err : (r read : Result Line LineError) (f : LineError) → Gives (λ (l : Line). l) r read → read ≡ Err f → (r ≡ Err Memory) ⊎ (r ≡ Err f)
given-err (Ok l) read f g e = absurd cc
given-err (Err Memory) read f g e = inl refl
given-err (Err (Word at)) read f g e = inr (sym g ∙ e)
given-err (Err (Number at)) read f g e = inr (sym g ∙ e)
given-err (Err Short) read f g e = inr (sym g ∙ e)
given-err (Err (Long at)) read f g e = inr (sym g ∙ e)

pub reads-line : (bytes : List ℕ) (r : Result Line LineError) → Gives (λ (l : Line). l) r (read_bytes bytes) → (line : Line) → IsLine bytes line → (r ≡ Err Memory) ⊎ (r ≡ Ok line)
reads-line bytes r g line is = given-ok r (read_bytes bytes) line g (line-again bytes line is)

pub finds-fault : (bytes : List ℕ) (r : Result Line LineError) → Gives (λ (l : Line). l) r (read_bytes bytes) → (e : LineError) → LineFault bytes e → (r ≡ Err Memory) ⊎ (r ≡ Err e)
finds-fault bytes r g e f = given-err r (read_bytes bytes) e g (fault-again bytes e f)
