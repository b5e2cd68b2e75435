-- What some of the lines have written is a front of what all of them write; a script of lines of the command has no other end than its own.
use Rattle.std.proofs.Common.{◌≡◌, ℕ, ◌+◌, ◌≤◌, ◌<◌, ◌==◌, Bool, true, false, List, [], ◌∷◌, ◌++◌, None, Some, refl, sym, ◌∙◌, ap, subst, inl, inr, arith, length, nat_lt, append-nil, append_assoc}
use Rattle.std.specs.Prelude.{◌≢◌, ◌⊎◌, if◌then◌else◌}
use Rattle.std.specs.declared.option.Option.{Option}
use Rattle.std.proofs.lemmas.Bool.{cases_eq}
use Rattle.std.proofs.lemmas.Bool.Decides.{nat_tests}
use Rattle.std.proofs.lemmas.List.{take_all}
use Rattle.pcm_base.specs.declared.ids.SubId.{SubId}
use Rattle.pcm_base.specs.declared.reply.Reply.TheVariants as reply
use Rattle.pcm_base.specs.model.World.{Told, set_long, declare, state_in, step, stays}
use Rattle.card_emul.specs.Limits.{limits_of}
use Rattle.pcm_io.specs.Shelf.{Files}
use Rattle.pcm_line.specs.declared.error.LineError.{LineError}
use Rattle.pcm_line.specs.declared.line.Line.{Line}
use Rattle.pcm_line.specs.declared.line.Line.TheVariants.{LongMax, Card, Event, Feed, Space, Save, Version, Carry}
use Rattle.pcm_line.specs.Grammar.{IsLine}
use Rattle.pcm_line.specs.Skipped.{IsSkipped, IsEmptyOrRemark}
use Rattle.pcm_line.proofs.GrammarLaws.{line-or-fault}
use Rattle.pcm_line.proofs.Spellings.{one-meaning}
use Rattle.pcm_text.specs.Told.{told_line}
use Rattle.pcm_top.specs.declared.command.Command.{Command}
use Rattle.pcm_top.specs.declared.command.Command.TheVariants.{Run, Refine}
use Rattle.pcm_top.specs.declared.end.End.{End}
use Rattle.pcm_top.specs.declared.end.End.TheVariants as end
use Rattle.pcm_top.specs.Lines.{lines_of, is_last}
use Rattle.pcm_top.specs.Output.{IsFront, IsReached, IsPart, IsFrontOfOutput}
use Rattle.pcm_top.specs.Run.{Feeds, LineLeads, bytes_shown, carry_answer, feed_answer, run_line, tells, save_answer, files_saved}
use Rattle.pcm_top.specs.Script.{Answers, Halts, has, misplaced, HasFault, IsBad, Passes, byte_limit, line_limit, limit_for, LineGives, Gives, FrontGives, Reaches, script_front, closing, whole_text, version_after, IsKnown, IsOwn, AllBelong, IsScript, is_file_end}
use Rattle.pcm_top.specs.Session.{Session, begin}
use Rattle.pcm_world.specs.Shown.{shown}
use Rattle.pcm_top.proofs.LoadLemmas.{halts-end, known-first, known-next, known-skipped, line-goes}
use Rattle.pcm_top.proofs.ScriptLemmas.{open-limit, one-next, no-fault, not-bad, pass-not-halted, one-end, text-of-stop}

-- ---- fronts

front-same : (a b : List ℕ) → b ≡ a → IsFront a b
front-same a b e = ([], e ∙ sym (append-nil a))

front-along : (a b c : List ℕ) → IsFront a b → IsFront b c → IsFront a c
front-along a b c x y = (x.0 ++ y.0, y.1 ∙ ap (λ (l : List ℕ). l ++ y.0) x.1 ∙ append_assoc a x.0 y.0)

-- ---- a line only adds to the text

tells-grow : (number : ℕ) (t : Told) (bytes : Option (List ℕ)) (s : Session) → IsFront s.text (tells number t bytes s).text
tells-grow number t bytes s = (told_line number (shown t) bytes, refl)

line-grows : (number : ℕ) (line : Line) (s : Session) → IsFront s.text (run_line number line s).text
line-grows number (LongMax n) s = tells-grow number (set_long n s.world) None s
line-grows number (Card k model dir) s = tells-grow number (declare k (limits_of model) dir s.world) None s
line-grows number (Event e bytes) s = let t = step s.world e bytes in tells-grow number t (bytes_shown e s.world t) s
line-grows number (Save k name) s = tells-grow number (save_answer k s.world) None (record s { files = files_saved k name s.world s.files })
line-grows number (Carry k j) s = tells-grow number (carry_answer k j s.world) None s
line-grows number (Version n) s = tells-grow number (stays reply.Ok None s.world) None (record s { version = n })
line-grows number _ s = front-same s.text s.text refl

feeds-grow : (number : ℕ) (k : SubId) (name : List ℕ) (s t : Session) → Feeds number k name s t → IsFront s.text t.text
feeds-grow number k name s t (inl h) = subst (λ (x : Session). IsFront s.text x.text) (sym h.2) (tells-grow number (stays (reply.Err h.0) (Some (state_in k s.world)) s.world) None s)
feeds-grow number k name s t (inr h) = subst (λ (x : Session). IsFront s.text x.text) (sym h.3) (tells-grow number (feed_answer k h.1 s.world) None s)

same-grow : (a s t : Session) → t ≡ a → IsFront s.text a.text → IsFront s.text t.text
same-grow a s t e h = subst (λ (x : Session). IsFront s.text x.text) (sym e) h

leads-grow : (number : ℕ) (line : Line) (s t : Session) → LineLeads number line s t → IsFront s.text t.text
leads-grow number (Feed k name) s t h = feeds-grow number k name s t h
leads-grow number (LongMax n) s t h = same-grow _ s t h (line-grows number (LongMax n) s)
leads-grow number (Card k model dir) s t h = same-grow _ s t h (line-grows number (Card k model dir) s)
leads-grow number (Event e bytes) s t h = same-grow _ s t h (line-grows number (Event e bytes) s)
leads-grow number (Save k name) s t h = same-grow _ s t h (line-grows number (Save k name) s)
leads-grow number (Version n) s t h = same-grow _ s t h (line-grows number (Version n) s)
leads-grow number (Carry k j) s t h = same-grow _ s t h (line-grows number (Carry k j) s)
leads-grow number _ s t h = front-same s.text t.text (ap (λ (x : Session). x.text) h)

answers-grow : (c : Command) (number : ℕ) (line : Line) (s t : Session) → Answers c number line s t → IsFront s.text t.text
answers-grow Run number line s t h = leads-grow number line s t h.1
answers-grow Refine number (Space model space) s t h = (h.0, ap (λ (x : Session). x.text) h.2)
answers-grow Refine number _ s t h = absurd h

halts-same : (c : Command) (line : Line) (s t : Session) (ended : End) → Halts c line s t ended → t.text ≡ s.text
halts-same Run (Save k name) s t ended h = ap (λ (x : Session). x.text) h.1
halts-same Run (Feed k name) s t ended h = ap (λ (x : Session). x.text) h.1
halts-same Run _ s t ended h = absurd h
halts-same Refine line s t ended h = absurd h

passes-grow : (c : Command) (number : ℕ) (P : Session → Type 0) (s last : Session) (bytes : List ℕ) → ((t : Session) → P t → IsFront t.text last.text) → Passes c number P s bytes → IsFront s.text last.text
passes-grow c number P s last bytes f (inl h) = f s h.1
passes-grow c number P s last bytes f (inr h) = front-along s.text h.next.text last.text (answers-grow c number h.line s h.next h.answers) (f h.next h.follows)

line-grow : (c : Command) (o : Option End) (number : ℕ) (P : Session → Type 0) (s last : Session) (ended : End) (bytes : List ℕ) → ((t : Session) → P t → IsFront t.text last.text)
    → LineGives c o number P s last ended bytes → IsFront s.text last.text
line-grow c (Some limit) number P s last ended bytes f h = front-same s.text last.text (ap (λ (x : Session). x.text) h.0)
line-grow c None number P s last ended bytes f (inl x) = passes-grow c number P s last bytes f x
line-grow c None number P s last ended bytes f (inr (inl x)) = front-same s.text last.text (ap (λ (y : Session). y.text) x.same)
line-grow c None number P s last ended bytes f (inr (inr x)) = front-same s.text last.text (halts-same c x.line s last ended x.halts)

gives-grow : (c : Command) (over : Bool) (count : ℕ) (s : Session) (lines : List (List ℕ)) (last : Session) (ended : End) → Gives c over count s lines last ended → IsFront s.text last.text
gives-grow c over count s [] last ended h = front-same s.text last.text (ap (λ (x : Session). x.text) h.0)
gives-grow c over count s (bytes ∷ lines) last ended h =
    line-grow c (limit_for (is_last over lines) count) (count + 1) (λ t. Gives c over (count + 1) t lines last ended) s last ended bytes (λ t. gives-grow c over (count + 1) t lines last ended) h

-- ---- what some lines have reached is a front of the whole text

-- two ways to pass one line lead to one session
both-pass : (c : Command) (number : ℕ) (P Q : Session → Type 0) (R : Type 0) (s : Session) (bytes : List ℕ) (lines : List (List ℕ)) → IsKnown s.files (bytes ∷ lines)
    → ((t : Session) → IsKnown t.files lines → P t → Q t → R) → Passes c number P s bytes → Passes c number Q s bytes → R
both-pass c number P Q R s bytes lines known f (inl x) (inl y) = f s (known-skipped s bytes lines known) x.1 y.1
both-pass c number P Q R s bytes lines known f (inl x) (inr y) = absurd (y.speaks x.0)
both-pass c number P Q R s bytes lines known f (inr x) (inl y) = absurd (x.speaks y.0)
both-pass c number P Q R s bytes lines known f (inr x) (inr y) =
    let same : x.line ≡ y.line = one-meaning bytes x.line y.line x.says y.says in
    let here : Answers c number y.line s x.next = subst (λ (l : Line). Answers c number l s x.next) same x.answers in
    let next : x.next ≡ y.next = one-next c number y.line s x.next y.next (known-first s.files bytes lines y.line known y.says) here y.answers in
    f y.next (known-next c number y.line s y.next bytes lines y.answers known) (subst P next x.follows) y.follows

line-front : (c : Command) (o : Option End) (number : ℕ) (P Q : Session → Type 0) (s last whole : Session) (ended : End) (bytes : List ℕ) (lines : List (List ℕ)) → IsKnown s.files (bytes ∷ lines) → o ≡ None → ended ≢ end.ShelfFault
    → ((t : Session) → IsKnown t.files lines → P t → Q t → IsFront last.text whole.text) → Passes c number P s bytes → LineGives c o number Q s whole ended bytes → IsFront last.text whole.text
line-front c (Some limit) number P Q s last whole ended bytes lines known few calm f x y = cc
line-front c None number P Q s last whole ended bytes lines known few calm f x (inl y) = both-pass c number P Q (IsFront last.text whole.text) s bytes lines known f x y
line-front c None number P Q s last whole ended bytes lines known few calm f x (inr (inl y)) = absurd (not-bad c number P s whole ended bytes x y)
line-front c None number P Q s last whole ended bytes lines known few calm f x (inr (inr y)) = absurd (pass-not-halted c number P s whole ended bytes lines known calm x y)

pub reached-front : (c : Command) (over : Bool) (count : ℕ) (s : Session) (lines : List (List ℕ)) (last whole : Session) (ended : End) → IsKnown s.files lines → ended ≢ end.ShelfFault
    → Reaches c over count s lines last → Gives c over count s lines whole ended → IsFront last.text whole.text
reached-front c over count s [] last whole ended known calm x y = front-same last.text whole.text (ap (λ (t : Session). t.text) (y.0 ∙ sym x))
reached-front c over count s (bytes ∷ lines) last whole ended known calm (inl same) y =
    subst (λ (t : Session). IsFront t.text whole.text) (sym same) (gives-grow c over count s (bytes ∷ lines) whole ended y)
reached-front c over count s (bytes ∷ lines) last whole ended known calm (inr (few, x)) y =
    line-front c (limit_for (is_last over lines) count) (count + 1) (λ t. Reaches c over (count + 1) t lines last) (λ t. Gives c over (count + 1) t lines whole ended) s last whole ended bytes lines known few calm
    (λ t k. reached-front c over (count + 1) t lines last whole ended k calm) x y

-- ---- so is what a script has come to where the shelf failed

line-fronts : (c : Command) (o : Option End) (number : ℕ) (P Q : Session → Type 0) (s last whole : Session) (e f : End) (bytes : List ℕ) (lines : List (List ℕ)) → IsKnown s.files (bytes ∷ lines) → f ≢ end.ShelfFault
    → ((t : Session) → IsKnown t.files lines → P t → Q t → IsFront last.text whole.text) → ((t : Session) → Q t → IsFront t.text whole.text)
    → LineGives c o number P s last e bytes → LineGives c o number Q s whole f bytes → IsFront last.text whole.text
line-fronts c (Some limit) number P Q s last whole e f bytes lines known calm both grow x y = front-same last.text whole.text (ap (λ (t : Session). t.text) (y.0 ∙ sym x.0))
line-fronts c None number P Q s last whole e f bytes lines known calm both grow (inl x) (inl y) = both-pass c number P Q (IsFront last.text whole.text) s bytes lines known both x y
line-fronts c None number P Q s last whole e f bytes lines known calm both grow (inl x) (inr (inl y)) = absurd (not-bad c number P s whole f bytes x y)
line-fronts c None number P Q s last whole e f bytes lines known calm both grow (inl x) (inr (inr y)) = absurd (pass-not-halted c number P s whole f bytes lines known calm x y)
line-fronts c None number P Q s last whole e f bytes lines known calm both grow (inr (inl x)) y =
    subst (λ (t : Session). IsFront t.text whole.text) (sym x.same) (line-grow c None number Q s whole f bytes grow y)
line-fronts c None number P Q s last whole e f bytes lines known calm both grow (inr (inr x)) y =
    subst (λ (t : List ℕ). IsFront t whole.text) (sym (halts-same c x.line s last e x.halts)) (line-grow c None number Q s whole f bytes grow y)

gives-front : (c : Command) (over : Bool) (count : ℕ) (s : Session) (lines : List (List ℕ)) (last whole : Session) (e f : End) → IsKnown s.files lines → f ≢ end.ShelfFault
    → Gives c over count s lines last e → Gives c over count s lines whole f → IsFront last.text whole.text
gives-front c over count s [] last whole e f known calm x y = front-same last.text whole.text (ap (λ (t : Session). t.text) (y.0 ∙ sym x.0))
gives-front c over count s (bytes ∷ lines) last whole e f known calm x y =
    line-fronts c (limit_for (is_last over lines) count) (count + 1) (λ t. Gives c over (count + 1) t lines last e) (λ t. Gives c over (count + 1) t lines whole f) s last whole e f bytes lines known calm
    (λ t k. gives-front c over (count + 1) t lines last whole e f k calm) (λ t. gives-grow c over (count + 1) t lines whole f) x y

-- ---- fronts of the output

whole-behind : (c : Command) (ended : End) (s : Session) → IsFront s.text (whole_text c ended s)
whole-behind c ended s = (closing c ended s, refl)

pub front-of-reached : (c : Command) (script : List ℕ) (files files_now : Option Files) (text : List ℕ) → IsReached c script files files_now text → IsFrontOfOutput c script files text
front-of-reached c script files files_now text h known last ended calm gives =
    let front = reached-front c (nat_lt byte_limit (length (script_front script))) 0 (begin files) (lines_of (script_front script)) h.last last ended known calm h.reaches gives in
    front-along text h.last.text (whole_text c ended last) h.front (front-along h.last.text last.text (whole_text c ended last) front (whole-behind c ended last))

store-cases : (e : End) → (e ≡ end.ShelfFault) ⊎ (e ≢ end.ShelfFault)
store-cases end.ShelfFault = inl refl
store-cases end.Whole = inr (λ e. cc)
store-cases (end.BadLine n fault) = inr (λ e. cc)
store-cases end.ScriptLines = inr (λ e. cc)
store-cases end.ScriptBytes = inr (λ e. cc)
store-cases (end.Missing name) = inr (λ e. cc)
store-cases end.WavBytes = inr (λ e. cc)
store-cases (end.BadWav name fault) = inr (λ e. cc)

not-whole : (e : End) → e ≡ end.ShelfFault → e ≡ end.Whole → ⊥
not-whole e a b = let h : end.ShelfFault ≡ end.Whole = sym a ∙ b in cc

pub front-of-part : (c : Command) (script : List ℕ) (files files_now : Option Files) (faults faults_now : ℕ) (text : List ℕ) → IsPart c script files files_now faults faults_now text → IsFrontOfOutput c script files text
front-of-part c script files files_now faults faults_now text h known last ended calm gives =
    let over = nat_lt byte_limit (length (script_front script)) in
    let lines = lines_of (script_front script) in
    elim (store-cases h.ended) [
      | inl failed ↦
          let here : IsFront text h.last.text = subst (λ (x : List ℕ). IsFront text x) (sym (text-of-stop c h.ended h.last (not-whole h.ended failed))) h.front in
          let front = gives-front c over 0 (begin files) lines h.last last h.ended ended known calm h.gives gives in
          front-along text h.last.text (whole_text c ended last) here (front-along h.last.text last.text (whole_text c ended last) front (whole-behind c ended last))
      | inr stored ↦
          let one = one-end c over 0 (begin files) lines h.last last h.ended ended known stored calm h.gives gives in
          subst (λ (x : Session). IsFront text (whole_text c ended x)) one.0 (subst (λ (x : End). IsFront text (whole_text c x h.last)) one.1 h.front)
    ]

-- ---- a script of lines of the command

feeds-version : (number : ℕ) (k : SubId) (name : List ℕ) (s t : Session) → Feeds number k name s t → t.version ≡ s.version
feeds-version number k name s t (inl h) = ap (λ (x : Session). x.version) h.2
feeds-version number k name s t (inr h) = ap (λ (x : Session). x.version) h.3

leads-version : (number : ℕ) (line : Line) (s t : Session) → LineLeads number line s t → t.version ≡ version_after s.version line
leads-version number (Feed k name) s t h = feeds-version number k name s t h
leads-version number _ s t h = ap (λ (x : Session). x.version) h

version-next : (c : Command) (number : ℕ) (line : Line) (s t : Session) → Answers c number line s t → t.version ≡ version_after s.version line
version-next Run number line s t h = leads-version number line s t h.1
version-next Refine number (Space model space) s t h = ap (λ (x : Session). x.version) h.2
version-next Refine number _ s t h = absurd h

abbrev Ended : End → Type 0
Ended ended = (ended ≡ end.Whole) ⊎ ((ended ≡ end.ShelfFault) ⊎ (is_file_end ended ≡ true))

-- what comes behind a line that is skipped, or one of the command
belongs-passed : (c : Command) (number : ℕ) (B : ℕ → Type 0) (P : Session → Type 0) (R : Type 0) (s : Session) (bytes : List ℕ) → ((t : Session) → B t.version → P t → R)
    → (IsSkipped s.version bytes × B s.version) ⊎ IsOwn c number s.version B bytes → Passes c number P s bytes → R
belongs-passed c number B P R s bytes f (inl x) (inl y) = f s x.1 y.1
belongs-passed c number B P R s bytes f (inl x) (inr y) = absurd (y.speaks x.0)
belongs-passed c number B P R s bytes f (inr x) (inl y) = absurd (x.speaks y.0)
belongs-passed c number B P R s bytes f (inr x) (inr y) =
    let same : x.line ≡ y.line = one-meaning bytes x.line y.line x.says y.says in
    let version : version_after s.version x.line ≡ y.next.version = ap (version_after s.version) same ∙ sym (version-next c number y.line s y.next y.answers) in
    f y.next (subst B version x.follows) y.follows

belongs-not-bad : (c : Command) (number : ℕ) (B : ℕ → Type 0) (s last : Session) (ended : End) (bytes : List ℕ) → (IsSkipped s.version bytes × B s.version) ⊎ IsOwn c number s.version B bytes → IsBad c number s last ended bytes → ⊥
belongs-not-bad c number B s last ended bytes (inl x) bad = bad.speaks x.0
belongs-not-bad c number B s last ended bytes (inr x) bad = no-fault c number bytes x.line bad.fault x.says x.own bad.why

line-complete : (c : Command) (o : Option End) (number : ℕ) (B : ℕ → Type 0) (P : Session → Type 0) (s last : Session) (ended : End) (bytes : List ℕ) → o ≡ None
    → ((t : Session) → B t.version → P t → Ended ended)
    → (IsSkipped s.version bytes × B s.version) ⊎ IsOwn c number s.version B bytes → LineGives c o number P s last ended bytes → Ended ended
line-complete c (Some limit) number B P s last ended bytes few f x y = cc
line-complete c None number B P s last ended bytes few f x (inl y) = belongs-passed c number B P (Ended ended) s bytes f x y
line-complete c None number B P s last ended bytes few f x (inr (inl y)) = absurd (belongs-not-bad c number B s last ended bytes x y)
line-complete c None number B P s last ended bytes few f x (inr (inr y)) = inr (halts-end c y.line s last ended y.halts)

none-last : (lines : List (List ℕ)) → is_last false lines ≡ false
none-last [] = refl
none-last (line ∷ lines) = refl

lines-complete : (c : Command) (count : ℕ) (s : Session) (lines : List (List ℕ)) (last : Session) (ended : End) → count + length lines ≤ line_limit → AllBelong c count s.version lines
    → Gives c false count s lines last ended → Ended ended
lines-complete c count s [] last ended few belong h = inl h.1
lines-complete c count s (bytes ∷ lines) last ended few belong h =
    let less : count < line_limit = omega (arith, few) in
    let fewer : (count + 1) + length lines ≤ line_limit = omega (arith, few) in
    line-complete c (limit_for (is_last false lines) count) (count + 1) (λ v. AllBelong c (count + 1) v lines) (λ t. Gives c false (count + 1) t lines last ended) s last ended bytes
    (open-limit (is_last false lines) count (none-last lines) less) (λ t b g. lines-complete c (count + 1) t lines last ended fewer b g) belong h

script-ends : (c : Command) (script : List ℕ) (files : Option Files) (last : Session) (ended : End) → IsScript c script files → FrontGives c (script_front script) (begin files) last ended → Ended ended
script-ends c script files last ended is gives =
    let bytes = is.bytes in
    let all : script_front script ≡ script = take_all (byte_limit + 1) script (omega (arith, bytes)) in
    let here : FrontGives c script (begin files) last ended = subst (λ (x : List ℕ). FrontGives c x (begin files) last ended) all gives in
    let over : nat_lt byte_limit (length script) ≡ false = grind (arith, nat_tests, bytes) in
    let lines = is.lines in
    lines-complete c 0 (begin files) (lines_of script) last ended (omega (arith, lines)) is.belong
    (subst (λ (b : Bool). Gives c b 0 (begin files) (lines_of script) last ended) over here)

no-file : (b : Bool) → b ≡ true → b ≡ false → ⊥
no-file b is none = let h : true ≡ false = sym is ∙ none in cc

pub script-complete : (c : Command) (script : List ℕ) (files : Option Files) (last : Session) (ended : End) → IsScript c script files → FrontGives c (script_front script) (begin files) last ended
    → (ended ≡ end.Whole) ⊎ (ended ≡ end.ShelfFault)
script-complete c script files last ended is gives = elim (script-ends c script files last ended is gives) [
  | inl whole ↦ inl whole
  | inr (inl shelf) ↦ inr shelf
  | inr (inr file) ↦ absurd (no-file (is_file_end ended) file (is.loads last ended gives))
]

-- ---- each script of `run` leads to something, where no store fails

blank-or-not : (bytes : List ℕ) → IsEmptyOrRemark bytes ⊎ (¬ IsEmptyOrRemark bytes)
blank-or-not [] = inl tt
blank-or-not (b ∷ others) = cases_eq b 35

skipped-or-not : (version : ℕ) (bytes : List ℕ) → IsSkipped version bytes ⊎ (¬ IsSkipped version bytes)
skipped-or-not version bytes = elim (cases_eq version 2) [
  | inl second ↦ elim (blank-or-not bytes) [ inl blank ↦ inl (record { second = second; blank = blank }) | inr none ↦ inr (λ skipped. none skipped.blank) ]
  | inr other ↦ inr (λ skipped. other skipped.second)
]

abbrev Leads : (Session → End → Type 0) → Type 0
Leads rest = (last : Session) × (ended : End) × (ended ≢ end.ShelfFault) × rest last ended

bad-leads : (number : ℕ) (s : Session) (bytes : List ℕ) (P : Session → Session → End → Type 0) (fault : LineError) → (¬ IsSkipped s.version bytes) → HasFault Run number bytes fault
    → Leads (λ last ended. LineGives Run None number (λ t. P t last ended) s last ended bytes)
bad-leads number s bytes P fault speaks why = (s, end.BadLine number fault, (λ e. cc), inr (inl (record { speaks = speaks; fault = fault; why = why; same = refl; here = refl })))

own-leads : (number : ℕ) (s : Session) (bytes : List ℕ) (P : Session → Session → End → Type 0) (line : Line) → ((t : Session) → Leads (P t)) → (¬ IsSkipped s.version bytes) → IsLine bytes line → (b : Bool) → has Run number line ≡ b
    → Leads (λ last ended. LineGives Run None number (λ t. P t last ended) s last ended bytes)
own-leads number s bytes P line f speaks says true own = elim (line-goes number line s) [
  | inl on ↦ (let r = f on.0 in (r.0, r.1, r.2, inl (inr (record { speaks = speaks; line = line; says = says; next = on.0; answers = (own, on.1); follows = r.3 }))))
  | inr off ↦ (off.0, off.1, off.2, inr (inr (record { speaks = speaks; line = line; says = says; halts = off.3 })))
]
own-leads number s bytes P line f speaks says false none = bad-leads number s bytes P (misplaced Run number line) speaks (inr (line, says, none, refl))

line-leads : (o : Option End) (number : ℕ) (s : Session) (bytes : List ℕ) (P : Session → Session → End → Type 0) → (o ≡ Some end.ShelfFault → ⊥) → ((t : Session) → Leads (P t))
    → Leads (λ last ended. LineGives Run o number (λ t. P t last ended) s last ended bytes)
line-leads (Some limit) number s bytes P other f = (s, limit, (λ e. other (ap (λ (x : End). Some x) e)), (refl, refl))
line-leads None number s bytes P other f = elim (skipped-or-not s.version bytes) [
  | inl skipped ↦ (let r = f s in (r.0, r.1, r.2, inl (inl (skipped, r.3))))
  | inr speaks ↦ elim (line-or-fault bytes) [
    | inl read ↦ own-leads number s bytes P read.0 f speaks read.1 (has Run number read.0) refl
    | inr fault ↦ bad-leads number s bytes P fault.0 speaks (inl fault.1)
  ]
]

no-store : (last : Bool) (count : ℕ) → limit_for last count ≡ Some end.ShelfFault → ⊥
no-store last count e = by (count == line_limit) last e
  where
    by : (full last : Bool) → (if full then Some end.ScriptLines else if last then Some end.ScriptBytes else None) ≡ Some end.ShelfFault → ⊥
    by true last e = cc
    by false true e = cc
    by false false e = cc

pub lines-lead : (over : Bool) (count : ℕ) (s : Session) (lines : List (List ℕ)) → Leads (λ last ended. Gives Run over count s lines last ended)
lines-lead over count s [] = (s, end.Whole, (λ e. cc), (refl, refl))
lines-lead over count s (bytes ∷ lines) =
    line-leads (limit_for (is_last over lines) count) (count + 1) s bytes (λ t last ended. Gives Run over (count + 1) t lines last ended) (no-store (is_last over lines) count)
    (λ t. lines-lead over (count + 1) t lines)
