-- What one more line of a script gives, and that a script whose stores go well gives one session and one end.
use Rattle.std.proofs.Common.{◌≡◌, ℕ, ◌+◌, ◌≤◌, ◌==◌, Bool, true, false, List, [], ◌∷◌, ◌++◌, None, Some, refl, sym, ◌∙◌, ap, subst, inl, inr, arith, length, append-nil, eq-eqb}
use Rattle.std.specs.Prelude.{◌≢◌, ◌⊎◌, ◌<◌, ◌↔◌, IsTrue, if◌then◌else◌, Result, Ok, Err, OnErr}
use Rattle.std.specs.declared.option.Option.{Option}
use Rattle.std.proofs.lemmas.Bool.{cases_lt}
use Rattle.std.proofs.lemmas.Bool.Decides.{nat_tests}
use Rattle.pcm_base.specs.declared.config.Model.{Model}
use Rattle.pcm_base.specs.declared.config.Space.{Space as Box}
use Rattle.pcm_line.specs.declared.error.LineError.{LineError}
use Rattle.pcm_line.specs.declared.line.Line.{Line}
use Rattle.pcm_line.specs.declared.line.Line.TheVariants.{Space}
use Rattle.pcm_line.specs.Grammar.{IsLine}
use Rattle.pcm_line.specs.Skipped.{IsSkipped}
use Rattle.pcm_line.proofs.Spellings.{one-spelling, one-meaning}
use Rattle.pcm_line.proofs.GrammarLaws.{line-no-fault, one-fault}
use Rattle.card_emul.specs.Limits.{limits_of}
use Rattle.hw_params.specs.Hull.{HasNone}
use Rattle.hw_params.proofs.Unique.{one-hull}
use Rattle.pcm_top.specs.declared.command.Command.{Command}
use Rattle.pcm_top.specs.declared.command.Command.TheVariants.{Run, Refine}
use Rattle.pcm_top.specs.declared.end.End.{End}
use Rattle.pcm_top.specs.declared.end.End.TheVariants.{Whole, BadLine, ScriptLines, ScriptBytes, ShelfFault}
use Rattle.pcm_io.specs.Shelf.{Files}
use Rattle.pcm_top.specs.declared.session.Session.{Session as Kept}
use Rattle.pcm_top.specs.CodeSession.{IsSession, IsNext, IsStopped, IsCut, HasPassed, HasEnded, HasLacked, IsStop, IsNoLine, StopsBy}
use Rattle.pcm_top.specs.Lines.{lines_of, is_last}
use Rattle.pcm_top.specs.Refine.{IsBoxLine, IsAnswer}
use Rattle.pcm_top.specs.Script.{Answers, Halts, has, misplaced, HasFault, IsAnswered, IsBad, IsHalted, IsKnown, Passes, line_limit, limit_for, LineGives, Gives, Reaches, closing, whole_text}
use Rattle.pcm_top.specs.Session.{Session, AreFiles, AreFilesBut}
use Rattle.pcm_top.proofs.LoadLemmas.{IsFound, known-first, known-next, known-skipped, one-leads, one-halt, answers-halts, halts-has, halts-not-whole}

-- ---- where the lines end

pub no-lines : (rest : List ℕ) → (length rest == 0) ≡ true → lines_of rest ≡ []
no-lines [] e = refl
no-lines (x ∷ xs) e = absurd (grind (arith, nat_tests))

pub gives-whole : (c : Command) (over : Bool) (count : ℕ) (s : Session) (lines : List (List ℕ)) → lines ≡ [] → Gives c over count s lines s Whole
gives-whole c over count s lines e = subst (λ (xs : List (List ℕ)). Gives c over count s xs s Whole) (sym e) (refl, refl)

-- ---- a line that passes

pub passes-map : (c : Command) (number : ℕ) (P Q : Session → Type 0) (s : Session) (bytes : List ℕ) → ((t : Session) → P t → Q t) → Passes c number P s bytes → Passes c number Q s bytes
passes-map c number P Q s bytes f (inl h) = inl (h.0, f s h.1)
passes-map c number P Q s bytes f (inr h) = inr (record { speaks = h.speaks; line = h.line; says = h.says; next = h.next; answers = h.answers; follows = f h.next h.follows })

-- the line passes to the next session, and this follows
pub passes-on : (c : Command) (number : ℕ) (P : Session → Type 0) (s next : Session) (bytes : List ℕ) → Passes c number (λ t. t ≡ next) s bytes → P next → Passes c number P s bytes
passes-on c number P s next bytes h p = passes-map c number (λ t. t ≡ next) P s bytes (λ t e. subst P (sym e) p) h

pub passes-answered : (c : Command) (number : ℕ) (s next : Session) (line : Line) (bytes : List ℕ) → (¬ IsSkipped s.version bytes) → IsLine bytes line → Answers c number line s next → Passes c number (λ t. t ≡ next) s bytes
passes-answered c number s next line bytes speaks says answers = inr (record { speaks = speaks; line = line; says = says; next = next; answers = answers; follows = refl })

-- ---- what a line gives

stopped : (c : Command) (o : Option End) (number : ℕ) (rest : Session → Type 0) (s : Session) (ended : End) (bytes : List ℕ)
    → (o ≡ None → ¬ IsSkipped s.version bytes) → StopsBy o c number bytes ended → LineGives c o number rest s s ended bytes
stopped c (Some limit) number rest s ended bytes speaks h = (refl, h)
stopped c None number rest s ended bytes speaks h = inr (inl (record { speaks = speaks refl; fault = h.fault; why = h.why; same = refl; here = h.here }))

pub gives-stop : (c : Command) (over : Bool) (count : ℕ) (s : Session) (ended : End) (bytes : List ℕ) (lines : List (List ℕ))
    → (limit_for (is_last over lines) count ≡ None → ¬ IsSkipped s.version bytes) → IsStop c (is_last over lines) count bytes ended → Gives c over count s (bytes ∷ lines) s ended
gives-stop c over count s ended bytes lines speaks h =
    stopped c (limit_for (is_last over lines) count) (count + 1) (λ t. Gives c over (count + 1) t lines s ended) s ended bytes speaks h

-- no limit is reached, and the line gives this
below : (c : Command) (o : Option End) (number : ℕ) (rest : Session → Type 0) (s last : Session) (ended : End) (bytes : List ℕ) → o ≡ None
    → LineGives c None number rest s last ended bytes → LineGives c o number rest s last ended bytes
below c o number rest s last ended bytes e h = subst (λ (x : Option End). LineGives c x number rest s last ended bytes) (sym e) h

pub gives-passed : (c : Command) (over : Bool) (count : ℕ) (s next last : Session) (ended : End) (bytes : List ℕ) (lines : List (List ℕ)) → limit_for (is_last over lines) count ≡ None
    → Passes c (count + 1) (λ t. t ≡ next) s bytes → Gives c over (count + 1) next lines last ended → Gives c over count s (bytes ∷ lines) last ended
gives-passed c over count s next last ended bytes lines few passes follows =
    below c (limit_for (is_last over lines) count) (count + 1) (λ t. Gives c over (count + 1) t lines last ended) s last ended bytes few
    (inl (passes-on c (count + 1) (λ t. Gives c over (count + 1) t lines last ended) s next bytes passes follows))

pub gives-halted : (c : Command) (over : Bool) (count : ℕ) (s last : Session) (ended : End) (line : Line) (bytes : List ℕ) (lines : List (List ℕ))
    → limit_for (is_last over lines) count ≡ None → (¬ IsSkipped s.version bytes) → IsLine bytes line → Halts c line s last ended → Gives c over count s (bytes ∷ lines) last ended
gives-halted c over count s last ended line bytes lines few speaks says halts =
    below c (limit_for (is_last over lines) count) (count + 1) (λ t. Gives c over (count + 1) t lines last ended) s last ended bytes few
    (inr (inr (record { speaks = speaks; line = line; says = says; halts = halts })))

-- ---- what some of the lines lead to

pub reaches-here : (c : Command) (over : Bool) (count : ℕ) (s : Session) (lines : List (List ℕ)) → Reaches c over count s lines s
reaches-here c over count s [] = refl
reaches-here c over count s (bytes ∷ lines) = inl refl

pub reaches-passed : (c : Command) (over : Bool) (count : ℕ) (s next last : Session) (bytes : List ℕ) (lines : List (List ℕ)) → limit_for (is_last over lines) count ≡ None
    → Passes c (count + 1) (λ t. t ≡ next) s bytes → Reaches c over (count + 1) next lines last → Reaches c over count s (bytes ∷ lines) last
reaches-passed c over count s next last bytes lines few passes follows =
    inr (few, passes-on c (count + 1) (λ t. Reaches c over (count + 1) t lines last) s next bytes passes follows)

reaches-cut : (c : Command) (over : Bool) (count : ℕ) (s last : Session) (line : Line) (bytes : List ℕ) (lines : List (List ℕ)) → limit_for (is_last over lines) count ≡ None
    → (¬ IsSkipped s.version bytes) → IsLine bytes line → (last ≡ s) ⊎ Answers c (count + 1) line s last → Reaches c over count s (bytes ∷ lines) last
reaches-cut c over count s last line bytes lines few speaks says (inl same) = inl same
reaches-cut c over count s last line bytes lines few speaks says (inr answers) =
    reaches-passed c over count s last last bytes lines few (passes-answered c (count + 1) s last line bytes speaks says answers) (reaches-here c over (count + 1) last lines)

-- ---- a script that is cut is never whole

limit-not-whole : (full last : Bool) → (if full then Some ScriptLines else if last then Some ScriptBytes else None) ≡ Some Whole → ⊥
limit-not-whole true last e = cc
limit-not-whole false true e = cc
limit-not-whole false false e = cc

-- ---- one session and one end

one-box : (m : Model) (s : Box) (a b : List ℕ) → IsBoxLine m s a → IsBoxLine m s b → a ≡ b
one-box m s a b x y =
    let box : x.box ≡ y.box = one-hull (limits_of m) s x.box y.box x.hull y.hull in
    let line : x.line ≡ y.line = one-spelling x.line y.line (Space m y.box) (subst (λ (h : Box). IsLine x.line (Space m h)) box x.says) y.says in
    x.whole ∙ (ap (λ (l : List ℕ). l ++ 10 ∷ []) line ∙ sym y.whole)

not-none : (m : Model) (s : Box) (a : List ℕ) → IsBoxLine m s a → HasNone (limits_of m) s → ⊥
not-none m s a x none = none x.hull.channels.least.0 x.hull.channels.least.1

one-answer : (m : Model) (s : Box) (a b : List ℕ) → IsAnswer m s a → IsAnswer m s b → a ≡ b
one-answer m s a b (inl x) (inl y) = one-box m s a b x y
one-answer m s a b (inl x) (inr y) = absurd (not-none m s a x y.0)
one-answer m s a b (inr x) (inl y) = absurd (not-none m s b y x.0)
one-answer m s a b (inr x) (inr y) = x.1 ∙ sym y.1

pub one-next : (c : Command) (number : ℕ) (line : Line) (s a b : Session) → IsFound s.files line → Answers c number line s a → Answers c number line s b → a ≡ b
one-next Run number line s a b told x y = one-leads number line s a b told x.1 y.1
one-next Refine number (Space m space) s a b told x y =
    let texts : x.0 ≡ y.0 = one-answer m space x.0 y.0 x.1 y.1 in
    x.2 ∙ (ap (λ (t : List ℕ). let r : Session = record s { text = s.text ++ t } in r) texts ∙ sym y.2)
one-next Refine number _ s a b told x y = absurd x

answers-has : (c : Command) (number : ℕ) (line : Line) (s t : Session) → Answers c number line s t → has c number line ≡ true
answers-has Run number line s t h = h.0
answers-has Refine number (Space m space) s t h = refl
answers-has Refine number _ s t h = absurd h

pub no-fault : (c : Command) (number : ℕ) (bytes : List ℕ) (line : Line) (fault : LineError) → IsLine bytes line → has c number line ≡ true → HasFault c number bytes fault → ⊥
no-fault c number bytes line fault says own (inl f) = line-no-fault bytes line fault says f
no-fault c number bytes line fault says own (inr other) =
    let same : other.0 ≡ line = one-meaning bytes other.0 line other.1 says in
    let e : true ≡ false = sym own ∙ (sym (ap (has c number) same) ∙ other.2) in cc

one-why : (c : Command) (number : ℕ) (bytes : List ℕ) (a b : LineError) → HasFault c number bytes a → HasFault c number bytes b → a ≡ b
one-why c number bytes a b (inl x) (inl y) = one-fault bytes a b x y
one-why c number bytes a b (inl x) (inr y) = absurd (line-no-fault bytes y.0 a y.1 x)
one-why c number bytes a b (inr x) (inl y) = absurd (line-no-fault bytes x.0 b x.1 y)
one-why c number bytes a b (inr x) (inr y) = x.3 ∙ (ap (misplaced c number) (one-meaning bytes x.0 y.0 x.1 y.1) ∙ sym y.3)

-- a line that passes is none that ends the script
pub not-bad : (c : Command) (number : ℕ) (P : Session → Type 0) (s last : Session) (ended : End) (bytes : List ℕ) → Passes c number P s bytes → IsBad c number s last ended bytes → ⊥
not-bad c number P s last ended bytes (inl h) bad = bad.speaks h.0
not-bad c number P s last ended bytes (inr h) bad = no-fault c number bytes h.line bad.fault h.says (answers-has c number h.line s h.next h.answers) bad.why

-- a line that is no line of the command is none that ends the script otherwise
pub bad-not-halted : (c : Command) (number : ℕ) (s a b : Session) (e f : End) (bytes : List ℕ) → IsBad c number s a e bytes → IsHalted c s b f bytes → ⊥
bad-not-halted c number s a b e f bytes x y = no-fault c number bytes y.line x.fault y.says (halts-has c number y.line s b f y.halts) x.why

-- a line that passes ends no script, where the shelf does not fail
pub pass-not-halted : (c : Command) (number : ℕ) (P : Session → Type 0) (s last : Session) (ended : End) (bytes : List ℕ) (lines : List (List ℕ)) → IsKnown s.files (bytes ∷ lines) → ended ≢ ShelfFault
    → Passes c number P s bytes → IsHalted c s last ended bytes → ⊥
pass-not-halted c number P s last ended bytes lines known calm (inl x) y = y.speaks x.0
pass-not-halted c number P s last ended bytes lines known calm (inr x) y =
    let same : x.line ≡ y.line = one-meaning bytes x.line y.line x.says y.says in
    answers-halts c number y.line s x.next last ended calm (known-first s.files bytes lines y.line known y.says) (subst (λ (l : Line). Answers c number l s x.next) same x.answers) y.halts

one-halted : (c : Command) (s a b : Session) (e f : End) (bytes : List ℕ) (lines : List (List ℕ)) → IsKnown s.files (bytes ∷ lines) → e ≢ ShelfFault → f ≢ ShelfFault
    → IsHalted c s a e bytes → IsHalted c s b f bytes → (a ≡ b) × (e ≡ f)
one-halted c s a b e f bytes lines known p q x y =
    let same : x.line ≡ y.line = one-meaning bytes x.line y.line x.says y.says in
    one-halt c y.line s a b e f p q (known-first s.files bytes lines y.line known y.says) (subst (λ (l : Line). Halts c l s a e) same x.halts) y.halts

-- what follows gives one session and one end
abbrev IsOne : List (List ℕ) → (Session → Session → End → Type 0) → Type 0
IsOne lines rest = (t a b : Session) (e f : End) → IsKnown t.files lines → e ≢ ShelfFault → f ≢ ShelfFault → rest t a e → rest t b f → (a ≡ b) × (e ≡ f)

one-answered : (c : Command) (number : ℕ) (rest : Session → Session → End → Type 0) (s a b : Session) (e f : End) (bytes : List ℕ) (lines : List (List ℕ)) → IsOne lines rest → IsKnown s.files (bytes ∷ lines)
    → e ≢ ShelfFault → f ≢ ShelfFault → IsAnswered c number (λ t. rest t a e) s bytes → IsAnswered c number (λ t. rest t b f) s bytes → (a ≡ b) × (e ≡ f)
one-answered c number rest s a b e f bytes lines one known p q x y =
    let same : x.line ≡ y.line = one-meaning bytes x.line y.line x.says y.says in
    let here : Answers c number y.line s x.next = subst (λ (l : Line). Answers c number l s x.next) same x.answers in
    let next : x.next ≡ y.next = one-next c number y.line s x.next y.next (known-first s.files bytes lines y.line known y.says) here y.answers in
    one y.next a b e f (known-next c number y.line s y.next bytes lines y.answers known) p q (subst (λ (t : Session). rest t a e) next x.follows) y.follows

one-passed : (c : Command) (number : ℕ) (rest : Session → Session → End → Type 0) (s a b : Session) (e f : End) (bytes : List ℕ) (lines : List (List ℕ)) → IsOne lines rest → IsKnown s.files (bytes ∷ lines)
    → e ≢ ShelfFault → f ≢ ShelfFault → Passes c number (λ t. rest t a e) s bytes → Passes c number (λ t. rest t b f) s bytes → (a ≡ b) × (e ≡ f)
one-passed c number rest s a b e f bytes lines one known p q (inl x) (inl y) = one s a b e f (known-skipped s bytes lines known) p q x.1 y.1
one-passed c number rest s a b e f bytes lines one known p q (inl x) (inr y) = absurd (y.speaks x.0)
one-passed c number rest s a b e f bytes lines one known p q (inr x) (inl y) = absurd (x.speaks y.0)
one-passed c number rest s a b e f bytes lines one known p q (inr x) (inr y) = one-answered c number rest s a b e f bytes lines one known p q x y

one-line : (c : Command) (o : Option End) (number : ℕ) (rest : Session → Session → End → Type 0) (s a b : Session) (e f : End) (bytes : List ℕ) (lines : List (List ℕ)) → IsOne lines rest → IsKnown s.files (bytes ∷ lines)
    → e ≢ ShelfFault → f ≢ ShelfFault → LineGives c o number (λ t. rest t a e) s a e bytes → LineGives c o number (λ t. rest t b f) s b f bytes → (a ≡ b) × (e ≡ f)
one-line c (Some limit) number rest s a b e f bytes lines one known p q x y = (x.0 ∙ sym y.0, x.1 ∙ sym y.1)
one-line c None number rest s a b e f bytes lines one known p q (inl x) (inl y) = one-passed c number rest s a b e f bytes lines one known p q x y
one-line c None number rest s a b e f bytes lines one known p q (inl x) (inr (inl y)) = absurd (not-bad c number (λ t. rest t a e) s b f bytes x y)
one-line c None number rest s a b e f bytes lines one known p q (inl x) (inr (inr y)) = absurd (pass-not-halted c number (λ t. rest t a e) s b f bytes lines known q x y)
one-line c None number rest s a b e f bytes lines one known p q (inr (inl x)) (inl y) = absurd (not-bad c number (λ t. rest t b f) s a e bytes y x)
one-line c None number rest s a b e f bytes lines one known p q (inr (inl x)) (inr (inl y)) =
    (x.same ∙ sym y.same, x.here ∙ (ap (λ (w : LineError). BadLine number w) (one-why c number bytes x.fault y.fault x.why y.why) ∙ sym y.here))
one-line c None number rest s a b e f bytes lines one known p q (inr (inl x)) (inr (inr y)) = absurd (bad-not-halted c number s a b e f bytes x y)
one-line c None number rest s a b e f bytes lines one known p q (inr (inr x)) (inl y) = absurd (pass-not-halted c number (λ t. rest t b f) s a e bytes lines known p y x)
one-line c None number rest s a b e f bytes lines one known p q (inr (inr x)) (inr (inl y)) = absurd (bad-not-halted c number s b a f e bytes y x)
one-line c None number rest s a b e f bytes lines one known p q (inr (inr x)) (inr (inr y)) = one-halted c s a b e f bytes lines known p q x y

pub one-end : (c : Command) (over : Bool) (count : ℕ) (s : Session) (lines : List (List ℕ)) (a b : Session) (e f : End) → IsKnown s.files lines → e ≢ ShelfFault → f ≢ ShelfFault
    → Gives c over count s lines a e → Gives c over count s lines b f → (a ≡ b) × (e ≡ f)
one-end c over count s [] a b e f known p q x y = (x.0 ∙ sym y.0, x.1 ∙ sym y.1)
one-end c over count s (bytes ∷ lines) a b e f known p q x y =
    one-line c (limit_for (is_last over lines) count) (count + 1) (λ t u g. Gives c over (count + 1) t lines u g) s a b e f bytes lines
    (λ t u v g h k i j. one-end c over (count + 1) t lines u v g h k i j) known p q x y

-- ---- what the loop over the lines keeps

pub few-open : (last : Bool) (count : ℕ) → limit_for last count ≡ None → last ≡ false
few-open false count e = refl
few-open true count e = by (count == line_limit) e
  where
    by : (b : Bool) → (if b then Some ScriptLines else Some ScriptBytes) ≡ None → true ≡ false
    by true e = cc
    by false e = cc

pub few-below : (last : Bool) (count : ℕ) → limit_for last count ≡ None → count ≤ line_limit → count + 1 ≤ line_limit
few-below last count few most = elim (cases_lt count line_limit) [
  | inl less ↦ (let h : count + 1 ≤ line_limit = omega arith in h)
  | inr least ↦
      let here : count ≡ line_limit = omega arith in
      let full : (count == line_limit) ≡ true = eq-eqb count line_limit here in
      let e : Some ScriptLines ≡ None = sym (ap (λ (b : Bool). if b then Some ScriptLines else if last then Some ScriptBytes else None) full) ∙ few in cc
]

pub kept_files : (k : Kept) (files : Option Files) (s : Session) → IsSession k files s → AreFiles s files
kept_files k files s h = subst (λ (lost : Option (List ℕ)). AreFilesBut lost s.files files) (sym h.none_lost) h.shelf

closing-none : (c : Command) (ended : End) (s : Session) → (ended ≡ Whole → ⊥) → closing c ended s ≡ []
closing-none Run Whole s other = absurd (other refl)
closing-none Run _ s other = refl
closing-none Refine ended s other = refl

pub text-of-stop : (c : Command) (ended : End) (s : Session) → (ended ≡ Whole → ⊥) → s.text ≡ whole_text c ended s
text-of-stop c ended s other = sym (append-nil s.text) ∙ ap (λ (t : List ℕ). s.text ++ t) (sym (closing-none c ended s other))

stops-not-whole : (c : Command) (o : Option End) (number : ℕ) (bytes : List ℕ) (ended : End) → (o ≡ Some Whole → ⊥) → StopsBy o c number bytes ended → ended ≡ Whole → ⊥
stops-not-whole c (Some limit) number bytes ended other h whole = other (ap (λ (e : End). Some e) (sym h ∙ whole))
stops-not-whole c None number bytes ended other h whole = let e : BadLine number h.fault ≡ Whole = sym h.here ∙ whole in cc

-- ---- what a line leads to that is none of the command, whose file is not stored, or in which memory is short

ended-stop : (c : Command) (last : Bool) (count : ℕ) (bytes : List ℕ) (s : Session) (k : Kept) (files : Option Files) (ended : End)
    → (limit_for last count ≡ None → ¬ IsSkipped s.version bytes) → IsStop c last count bytes ended → IsSession k files s → HasEnded c last count bytes s k.text.items files ended
ended-stop c last count bytes s k files ended speaks stop session = record {
  last = s;
  gives = λ over lines e.
      gives-stop c over count s ended bytes lines (λ few. speaks (ap (λ (b : Bool). limit_for b count) (sym e) ∙ few)) (subst (λ (b : Bool). IsStop c b count bytes ended) (sym e) stop);
  not_whole = stops-not-whole c (limit_for last count) (count + 1) bytes ended (limit-not-whole (count == line_limit) last) stop;
  text_is = session.keeps.text;
  shelf = kept_files k files s session;
}

-- the limits before a line, before which there are few enough
below-full : (last : Bool) (count : ℕ) → count < line_limit → limit_for last count ≡ (if last then Some ScriptBytes else None)
below-full last count less =
    let full : (count == line_limit) ≡ false = grind (arith, nat_tests, less) in
    ap (λ (b : Bool). if b then Some ScriptLines else if last then Some ScriptBytes else None) full

pub open-limit : (last : Bool) (count : ℕ) → last ≡ false → count < line_limit → limit_for last count ≡ None
open-limit last count e less = below-full last count less ∙ ap (λ (b : Bool). if b then Some ScriptBytes else None) e

byte-limit : (last : Bool) (count : ℕ) → last ≡ true → count < line_limit → limit_for last count ≡ Some ScriptBytes
byte-limit last count e less = below-full last count less ∙ ap (λ (b : Bool). if b then Some ScriptBytes else None) e

pub ended-bytes : (c : Command) (last : Bool) (count : ℕ) (bytes : List ℕ) (s : Session) (k : Kept) (files : Option Files) → last ≡ true → count < line_limit
    → IsSession k files s → HasEnded c last count bytes s k.text.items files ScriptBytes
ended-bytes c last count bytes s k files e less session =
    let full = byte-limit last count e less in
    ended-stop c last count bytes s k files ScriptBytes (λ few. let no : Some ScriptBytes ≡ None = sym full ∙ few in cc)
    (subst (λ (o : Option End). StopsBy o c (count + 1) bytes ScriptBytes) (sym full) refl) session

pub ended-no-line : (c : Command) (last : Bool) (count : ℕ) (bytes : List ℕ) (s : Session) (k : Kept) (files : Option Files) (ended : End) → limit_for last count ≡ None
    → (¬ IsSkipped s.version bytes) → IsNoLine c (count + 1) bytes ended → IsSession k files s → HasEnded c last count bytes s k.text.items files ended
ended-no-line c last count bytes s k files ended few speaks h session =
    ended-stop c last count bytes s k files ended (λ open_. speaks) (subst (λ (o : Option End). StopsBy o c (count + 1) bytes ended) (sym few) h) session

-- what the test of a skipped line tells of the session's version
pub skips : (b : Bool) (v w : ℕ) (bytes : List ℕ) → v ≡ w → (IsTrue b ↔ IsSkipped v bytes) → b ≡ true → IsSkipped w bytes
skips b v w bytes same h e = subst (λ (n : ℕ). IsSkipped n bytes) same (h.0 e)

pub speaks-on : (b : Bool) (v w : ℕ) (bytes : List ℕ) → v ≡ w → (IsTrue b ↔ IsSkipped v bytes) → b ≡ false → ¬ IsSkipped w bytes
speaks-on b v w bytes same h e = λ skipped. let yes : b ≡ true = h.1 (subst (λ (n : ℕ). IsSkipped n bytes) (sym same) skipped) in let no : true ≡ false = sym yes ∙ e in cc

pub ended-halted : (c : Command) (last : Bool) (count : ℕ) (bytes : List ℕ) (s : Session) (line : Line) (text : List ℕ) (files : Option Files) (ended : End)
    → limit_for last count ≡ None → (¬ IsSkipped s.version bytes) → IsLine bytes line → IsStopped c line s text files ended → HasEnded c last count bytes s text files ended
ended-halted c last count bytes s line text files ended few speaks says stopped = record {
  last = stopped.last;
  gives = λ over lines e. gives-halted c over count s stopped.last ended line bytes lines (ap (λ (b : Bool). limit_for b count) e ∙ few) speaks says stopped.halts;
  not_whole = halts-not-whole c line s stopped.last ended stopped.halts;
  text_is = stopped.written;
  shelf = stopped.shelf;
}

pub passed-skipped : (c : Command) (last : Bool) (count : ℕ) (bytes : List ℕ) (s : Session) (k : Kept) (files : Option Files) → limit_for last count ≡ None → IsSkipped s.version bytes
    → IsSession k files s → HasPassed c last count bytes s k files
passed-skipped c last count bytes s k files few skipped session = record { few = few; next = s; passes = inl (skipped, refl); session = session }

pub passed-answered : (c : Command) (last : Bool) (count : ℕ) (bytes : List ℕ) (s : Session) (line : Line) (k : Kept) (files : Option Files) → limit_for last count ≡ None
    → (¬ IsSkipped s.version bytes) → IsLine bytes line → IsNext c (count + 1) line s k files → HasPassed c last count bytes s k files
passed-answered c last count bytes s line k files few speaks says next = record {
  few = few;
  next = next.next;
  passes = passes-answered c (count + 1) s next.next line bytes speaks says next.answers;
  session = next.session;
}

pub lacked-here : (c : Command) (last : Bool) (count : ℕ) (bytes : List ℕ) (s : Session) (k : Kept) (files : Option Files) → IsSession k files s → HasLacked c last count bytes s files
lacked-here c last count bytes s k files session = record { last = s; reaches = λ over lines e. inl refl; shelf = session.shelf }

pub lacked-in : (c : Command) (last : Bool) (count : ℕ) (bytes : List ℕ) (s : Session) (line : Line) (files : Option Files) → limit_for last count ≡ None → (¬ IsSkipped s.version bytes) → IsLine bytes line → IsCut c (count + 1) line s files
    → HasLacked c last count bytes s files
lacked-in c last count bytes s line files few speaks says cut = record {
  last = cut.last;
  reaches = λ over lines e. reaches-cut c over count s cut.last line bytes lines (ap (λ (b : Bool). limit_for b count) e ∙ few) speaks says cut.reached;
  shelf = cut.shelf;
}

pub on-err : {T E : Type 0} (r : Result T E) (P : Type 0) → P → OnErr r P
on-err (Ok x) P h = tt
on-err (Err e) P h = h
