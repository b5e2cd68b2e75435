-- What of a script is still to come while its lines are read, and what the run has come to.
use Rattle.std.proofs.Common.{◌≡◌, ◌==◌, ℕ, zero, suc, ◌+◌, ◌<◌, Bool, true, false, ◌&&◌, List, [], ◌∷◌, ◌++◌, length, take, drop, None, Some, refl, sym, ◌∙◌, ap, subst, inl, inr, arith, nat_lt, append_assoc, append-nil, length-append, tests, rules, eq-eqb, Vec, Global}
use Rattle.std.specs.Prelude.{◌⊎◌, if◌then◌else◌, IfSome}
use Rattle.std.specs.declared.option.Option.{Option}
use Rattle.std.specs.Io.KnownBytes.{Appends, Consumes, IsAtEnd}
use Rattle.std.proofs.Math.Seq.{take-add, take-nil}
use Rattle.std.proofs.lemmas.Bool.{ltb-true, ltb-false}
use Rattle.std.proofs.lemmas.Bool.Decides.{nat_tests}
use Rattle.std.proofs.lemmas.List.{take_at, drop_at, take-append-drop, length-take, nil_from_length}
use Rattle.pcm_io.specs.Lines.{Ahead, LineState, HasRead, IsDone, IsMore, IsNextLine, IsBroken, has_feed}
use Rattle.pcm_io.specs.Shelf.{Files, Stay}
use Rattle.pcm_top.specs.declared.command.Command.{Command}
use Rattle.pcm_top.specs.declared.command.Command.TheVariants.{Run, Refine}
use Rattle.pcm_top.specs.declared.end.End.{End}
use Rattle.pcm_top.specs.declared.end.End.TheVariants.{Whole, ScriptLines, ScriptBytes}
use Rattle.pcm_top.specs.declared.session.Session.{Session as Kept}
use Rattle.pcm_top.specs.CodeSession.{IsSession, HasPassed, HasEnded, HasLacked, behind, IsRan, IsRanToFault, IsRanShort}
use Rattle.pcm_top.specs.Lines.{lines_of, is_last, whole_lines}
use Rattle.pcm_top.specs.Output.{IsFront}
use Rattle.pcm_top.specs.Script.{Passes, byte_limit, line_limit, limit_for, LineGives, Gives, FrontGives, Reaches, FrontReaches, AllAnswered, closing, script_front}
use Rattle.pcm_top.specs.Session.{Session, begin, AreFiles}
use Rattle.pcm_top.proofs.LineLemmas.{lines-cut, lines-last, whole-cut, whole-none, not_last, some_line}
use Rattle.pcm_top.proofs.ScriptLemmas.{few-open, passes-on, gives-passed, reaches-here, reaches-passed, text-of-stop}
use Rattle.pcm_top.proofs.BehindLemmas.{passes-behind, gives-behind, reaches-behind}

-- ---- the bytes that are still to be given

abbrev pub to_come : Ahead → List ℕ → List ℕ
to_come a left = a.bytes ++ take a.room left

abbrev pub is_over : List ℕ → Bool
is_over script = nat_lt byte_limit (length (script_front script))

abbrev pub used_up : Ahead → Bool
used_up a = length a.bytes == 0 && a.room == 0

-- before a line: what the lines that are left lead to, from the session so far, is what the script leads to
pub record IsAmid (c : Command) (script : List ℕ) (files : Option Files) (count : ℕ) (a : Ahead) (now : Session) (left_now : Option (List ℕ)) : Type 0 where
  pub left : List ℕ
  pub told : left_now ≡ Some left
  pub given : List ℕ
  pub whole : script ≡ given ++ (a.bytes ++ left)
  pub most : length given + length a.bytes + a.room ≡ byte_limit + 1
  pub gives : (last : Session) (ended : End) → Gives c (is_over script) count now (lines_of (to_come a left)) last ended → FrontGives c (script_front script) (begin files) last ended
  pub reaches : (last : Session) → Reaches c (is_over script) count now (lines_of (to_come a left)) last → FrontReaches c (script_front script) (begin files) last
  pub answered : a.ended ≡ false → (more : List ℕ) (last : Session) → AllAnswered c count now (whole_lines more) last → AllAnswered c 0 (begin files) (whole_lines (given ++ more)) last

-- at a line that was read
pub record IsAtLine (c : Command) (script : List ℕ) (files : Option Files) (count : ℕ) (r : LineState) (now : Session) (left_now : Option (List ℕ)) : Type 0 where
  pub left : List ℕ
  pub told : left_now ≡ Some left
  pub given : List ℕ
  pub whole : script ≡ given ++ (r.ahead.bytes ++ left)
  pub most : length given + length r.ahead.bytes + r.ahead.room ≡ byte_limit + 1
  pub is_last_one : is_last (is_over script) (lines_of (to_come r.ahead left)) ≡ used_up r.ahead
  pub gives : (last : Session) (ended : End) → Gives c (is_over script) count now (r.line ∷ lines_of (to_come r.ahead left)) last ended → FrontGives c (script_front script) (begin files) last ended
  pub reaches : (last : Session) → Reaches c (is_over script) count now (r.line ∷ lines_of (to_come r.ahead left)) last → FrontReaches c (script_front script) (begin files) last
  pub answered : used_up r.ahead ≡ false → r.ahead.ended ≡ false → (more : List ℕ) (last : Session) → AllAnswered c count now (r.line ∷ whole_lines more) last
      → AllAnswered c 0 (begin files) (whole_lines (given ++ more)) last

false_true : {A : Type 0} → false ≡ true → A
false_true e = cc

bool_cases : (b : Bool) → (b ≡ true) ⊎ (b ≡ false)
bool_cases true = inl refl
bool_cases false = inr refl

-- what a source that tells its bytes has left
told_after : (l m : Option (List ℕ)) (left bytes : List ℕ) → l ≡ Some left → Consumes l m bytes → (after : List ℕ) × (m ≡ Some after) × (left ≡ bytes ++ after)
told_after None m left bytes e h = let f : None ≡ Some left = e in cc
told_after (Some xs) None left bytes e h = absurd h
told_after (Some xs) (Some ys) left bytes e h = let same : xs ≡ left = cc in (ys, refl, sym same ∙ h)

taken : (bytes left : List ℕ) (room : ℕ) → take (length bytes + room) (bytes ++ left) ≡ bytes ++ take room left
taken bytes left room =
    take-add (length bytes) room (bytes ++ left)
    ∙ ap (λ (l : List ℕ). l ++ take room (drop (length bytes) (bytes ++ left))) (take_at bytes left (length bytes) refl)
    ∙ ap (λ (l : List ℕ). bytes ++ take room l) (drop_at bytes left (length bytes) refl)

-- what was read is what was to come
come-read : (a : Ahead) (bytes left after : List ℕ) (room : ℕ) → left ≡ bytes ++ after → length bytes + room ≡ a.room → to_come a left ≡ (a.bytes ++ bytes) ++ take room after
come-read a bytes left after room e r =
    ap (λ (n : ℕ). a.bytes ++ take n left) (sym r) ∙ ap (λ (l : List ℕ). a.bytes ++ take (length bytes + room) l) e
    ∙ ap (λ (l : List ℕ). a.bytes ++ l) (taken bytes after room) ∙ sym (append_assoc a.bytes bytes (take room after))

not-ended : (a b : Ahead) → (a.ended ≡ true → b.ended ≡ true) → b.ended ≡ false → a.ended ≡ false
not-ended a b known e = elim (bool_cases a.ended) [ inl t ↦ false_true (sym e ∙ known t) | inr f ↦ f ]

pub at-end-read : (a b : Ahead) (l m : Option (List ℕ)) (bytes : List ℕ) → HasRead a b l m bytes → (a.ended ≡ true → IsAtEnd l) → b.ended ≡ true → IsAtEnd m
at-end-read a b l m bytes h before e = elim (h.ended e) [ inl s ↦ subst IsAtEnd (sym s.1) (before s.0) | inr x ↦ x ]

-- ---- the start

pub amid-start : (c : Command) (script : List ℕ) (files : Option Files) → IsAmid c script files 0 (record { bytes = []; room = byte_limit + 1; ended = false }) (begin files) (Some script)
amid-start c script files = record {
  left = script;
  told = refl;
  given = [];
  whole = refl;
  most = refl;
  gives = λ last ended h. h;
  reaches = λ last h. h;
  answered = λ e more last h. h;
}

-- ---- another line comes, or none

pub amid-more : (c : Command) (script : List ℕ) (files : Option Files) (count : ℕ) (a b : Ahead) (bytes : List ℕ) (now : Session) (l m : Option (List ℕ)) → IsAmid c script files count a now l
    → HasRead a b l m bytes → b.bytes ≡ a.bytes ++ bytes → IsAmid c script files count b now m
amid-more c script files count a b bytes now l m amid read ahead =
    let t = told_after l m amid.left bytes amid.told read.consumed in
    let same : to_come a amid.left ≡ to_come b t.0 = come-read a bytes amid.left t.0 b.room t.2 read.room ∙ ap (λ (x : List ℕ). x ++ take b.room t.0) (sym ahead) in
    record {
      left = t.0;
      told = t.1;
      given = amid.given;
      whole = amid.whole ∙ ap (λ (x : List ℕ). amid.given ++ (a.bytes ++ x)) t.2 ∙ ap (λ (x : List ℕ). amid.given ++ x) (sym (append_assoc a.bytes bytes t.0) ∙ ap (λ (x : List ℕ). x ++ t.0) (sym ahead));
      most = (let size : length b.bytes ≡ length a.bytes + length bytes = ap length ahead ∙ length-append a.bytes bytes in omega (arith, size, read.room, amid.most));
      gives = λ last ended h. amid.gives last ended (subst (λ (x : List ℕ). Gives c (is_over script) count now (lines_of x) last ended) (sym same) h);
      reaches = λ last h. amid.reaches last (subst (λ (x : List ℕ). Reaches c (is_over script) count now (lines_of x) last) (sym same) h);
      answered = λ e. amid.answered (not-ended a b read.known e);
    }

-- ---- a line was read

length-nothing : (script given left : List ℕ) → script ≡ given ++ left → length given ≡ byte_limit + 1 → is_over script ≡ true
length-nothing script given left e size =
    let long : length script ≡ length given + length left = ap length e ∙ length-append given left in
    let cut = length-take (byte_limit + 1) script in
    search (rules, tests, nat_tests)

not-over : (script given : List ℕ) (n : ℕ) → script ≡ given → length given + suc n ≡ byte_limit + 1 → is_over script ≡ false
not-over script given n e size =
    let same : length script ≡ length given = ap length e in
    let cut = length-take (byte_limit + 1) script in
    search (rules, tests, nat_tests)

some-zero : (n : ℕ) → (suc n == 0) ≡ false
some-zero n = grind (arith, nat_tests)

-- no line follows and the script is over the limit, exactly where all that may be read was given
last-used-up : (script given left bytes : List ℕ) (room : ℕ) → script ≡ given ++ (bytes ++ left) → length given + length bytes + room ≡ byte_limit + 1
    → is_last (is_over script) (lines_of (bytes ++ take room left)) ≡ (length bytes == 0 && room == 0)
last-used-up script given left (b ∷ bytes) room e most =
    not_last (is_over script) (b ∷ bytes ++ take room left) (omega arith) ∙ sym (ap (λ (x : Bool). x && room == 0) (some-zero (length bytes)))
last-used-up script given left [] zero e most = length-nothing script given left e (omega (arith, most))
last-used-up script given [] [] (suc room) e most = not-over script given room (e ∙ append-nil given) (omega (arith, most)) ∙ sym (some-zero room)
last-used-up script given (x ∷ left) [] (suc room) e most = not_last (is_over script) (x ∷ take room left) (omega arith) ∙ sym (some-zero room)

-- behind the line stands its line feed
amid-fed : (c : Command) (script : List ℕ) (files : Option Files) (count : ℕ) (a : Ahead) (r : LineState) (bytes : List ℕ) (now : Session) (l m : Option (List ℕ)) → IsAmid c script files count a now l
    → HasRead a r.ahead l m bytes → has_feed r.line ≡ false → a.bytes ++ bytes ≡ r.line ++ 10 ∷ r.ahead.bytes → IsAtLine c script files count r now m
amid-fed c script files count a r bytes now l m amid read plain cut =
    let t = told_after l m amid.left bytes amid.told read.consumed in
    let b = r.ahead in
    let given : List ℕ = amid.given ++ (r.line ++ 10 ∷ []) in
    let come : to_come a amid.left ≡ r.line ++ 10 ∷ to_come b t.0 =
    come-read a bytes amid.left t.0 b.room t.2 read.room ∙ ap (λ (x : List ℕ). x ++ take b.room t.0) cut ∙ append_assoc r.line (10 ∷ b.bytes) (take b.room t.0) in
    let lines : lines_of (to_come a amid.left) ≡ r.line ∷ lines_of (to_come b t.0) = ap lines_of come ∙ lines-cut r.line (to_come b t.0) plain in
    let whole : script ≡ given ++ (b.bytes ++ t.0) =
    amid.whole ∙ ap (λ (x : List ℕ). amid.given ++ (a.bytes ++ x)) t.2
    ∙ ap (λ (x : List ℕ). amid.given ++ x) (sym (append_assoc a.bytes bytes t.0) ∙ ap (λ (x : List ℕ). x ++ t.0) cut ∙ append_assoc r.line (10 ∷ b.bytes) t.0 ∙ sym (append_assoc r.line (10 ∷ []) (b.bytes ++ t.0)))
    ∙ sym (append_assoc amid.given (r.line ++ 10 ∷ []) (b.bytes ++ t.0)) in
    let size : length a.bytes + length bytes ≡ length r.line + (1 + length b.bytes) = sym (length-append a.bytes bytes) ∙ ap length cut ∙ length-append r.line (10 ∷ b.bytes) ∙ omega arith in
    let sized : length given ≡ length amid.given + (length r.line + 1) = length-append amid.given (r.line ++ 10 ∷ []) ∙ ap (λ (n : ℕ). length amid.given + n) (length-append r.line (10 ∷ [])) in
    let most : length given + length b.bytes + b.room ≡ byte_limit + 1 = omega (arith, size, sized, read.room, amid.most) in
    record {
      left = t.0;
      told = t.1;
      given = given;
      whole = whole;
      most = most;
      is_last_one = last-used-up script given t.0 b.bytes b.room whole most;
      gives = λ last ended h. amid.gives last ended (subst (λ (x : List (List ℕ)). Gives c (is_over script) count now x last ended) (sym lines) h);
      reaches = λ last h. amid.reaches last (subst (λ (x : List (List ℕ)). Reaches c (is_over script) count now x last) (sym lines) h);
      answered = λ open_ e more last h.
          subst (λ (x : List ℕ). AllAnswered c 0 (begin files) (whole_lines x) last)
          (ap (λ (x : List ℕ). amid.given ++ x) (sym (append_assoc r.line (10 ∷ []) more)) ∙ sym (append_assoc amid.given (r.line ++ 10 ∷ []) more))
          (amid.answered (not-ended a b read.known e) (r.line ++ 10 ∷ more) last
          (subst (λ (x : List (List ℕ)). AllAnswered c count now x last) (sym (whole-cut r.line more plain)) h));
    }

nothing-left : (b : Ahead) (left : List ℕ) → IsDone b → (b.ended ≡ true → left ≡ []) → take b.room left ≡ []
nothing-left b left (inl ended) none = ap (λ (x : List ℕ). take b.room x) (none ended) ∙ take-nil b.room
nothing-left b left (inr room) none = ap (λ (n : ℕ). take n left) room

not-open : (b : Ahead) → b.bytes ≡ [] → IsDone b → b.ended ≡ false → used_up b ≡ true
not-open b none (inl ended) e = false_true (sym e ∙ ended)
not-open b none (inr room) e = ap (λ (x : List ℕ). length x == 0 && b.room == 0) none ∙ ap (λ (n : ℕ). n == 0) room

-- the line is the last one, with no line feed
amid-unfed : (c : Command) (script : List ℕ) (files : Option Files) (count : ℕ) (a : Ahead) (r : LineState) (bytes : List ℕ) (now : Session) (l m : Option (List ℕ)) → IsAmid c script files count a now l
    → 0 < length a.bytes → HasRead a r.ahead l m bytes → (r.ahead.ended ≡ true → IsAtEnd m) → has_feed r.line ≡ false → a.bytes ++ bytes ≡ r.line → r.ahead.bytes ≡ [] → IsDone r.ahead → IsAtLine c script files count r now m
amid-unfed c script files count a r bytes now l m amid some read at_end plain cut none done =
    let t = told_after l m amid.left bytes amid.told read.consumed in
    let b = r.ahead in
    let given : List ℕ = amid.given ++ r.line in
    let rest : take b.room t.0 ≡ [] = nothing-left b t.0 done (λ e. subst IsAtEnd t.1 (at_end e)) in
    let come : to_come a amid.left ≡ r.line =
    come-read a bytes amid.left t.0 b.room t.2 read.room ∙ ap (λ (x : List ℕ). x ++ take b.room t.0) cut ∙ ap (λ (x : List ℕ). r.line ++ x) rest ∙ append-nil r.line in
    let after : to_come b t.0 ≡ [] = ap (λ (x : List ℕ). x ++ take b.room t.0) none ∙ rest in
    let long : length r.line ≡ length a.bytes + length bytes = ap length (sym cut) ∙ length-append a.bytes bytes in
    let lines : lines_of (to_come a amid.left) ≡ r.line ∷ lines_of (to_come b t.0) =
    ap lines_of come ∙ lines-last r.line plain (omega (arith, long, some)) ∙ ap (λ (x : List ℕ). r.line ∷ lines_of x) (sym after) in
    let whole : script ≡ given ++ (b.bytes ++ t.0) =
    amid.whole ∙ ap (λ (x : List ℕ). amid.given ++ (a.bytes ++ x)) t.2
    ∙ ap (λ (x : List ℕ). amid.given ++ x) (sym (append_assoc a.bytes bytes t.0) ∙ ap (λ (x : List ℕ). x ++ t.0) cut)
    ∙ sym (append_assoc amid.given r.line t.0) ∙ ap (λ (x : List ℕ). given ++ (x ++ t.0)) (sym none) in
    let short : length b.bytes ≡ 0 = ap length none in
    let sized : length given ≡ length amid.given + length r.line = length-append amid.given r.line in
    let most : length given + length b.bytes + b.room ≡ byte_limit + 1 = omega (arith, long, short, sized, read.room, amid.most) in
    record {
      left = t.0;
      told = t.1;
      given = given;
      whole = whole;
      most = most;
      is_last_one = last-used-up script given t.0 b.bytes b.room whole most;
      gives = λ last ended h. amid.gives last ended (subst (λ (x : List (List ℕ)). Gives c (is_over script) count now x last ended) (sym lines) h);
      reaches = λ last h. amid.reaches last (subst (λ (x : List (List ℕ)). Reaches c (is_over script) count now x last) (sym lines) h);
      answered = λ open_ e more last h. false_true (sym open_ ∙ not-open b none done e);
    }

pub amid-line : (c : Command) (script : List ℕ) (files : Option Files) (count : ℕ) (o r : LineState) (now : Session) (l m : Option (List ℕ)) → IsAmid c script files count o.ahead now l
    → 0 < length o.ahead.bytes → IsNextLine o r l m → (r.ahead.ended ≡ true → IsAtEnd m) → IsAtLine c script files count r now m
amid-line c script files count o r now l m amid some next at_end = elim next.cut [
  | inl fed ↦ amid-fed c script files count o.ahead r next.bytes now l m amid next.read next.plain fed
  | inr last ↦ amid-unfed c script files count o.ahead r next.bytes now l m amid some next.read at_end next.plain last.0 last.1 last.2
]

-- ---- the line was skipped or answered

pub line-passed : (c : Command) (script : List ℕ) (files : Option Files) (count : ℕ) (r : LineState) (now next : Session) (m : Option (List ℕ)) → IsAtLine c script files count r now m
    → limit_for (used_up r.ahead) count ≡ None → Passes c (count + 1) (λ t. t ≡ next) now r.line → IsAmid c script files (count + 1) r.ahead next m
line-passed c script files count r now next m at few passes =
    let rest = lines_of (to_come r.ahead at.left) in
    let few_here : limit_for (is_last (is_over script) rest) count ≡ None = ap (λ (b : Bool). limit_for b count) at.is_last_one ∙ few in
    record {
      left = at.left;
      told = at.told;
      given = at.given;
      whole = at.whole;
      most = at.most;
      gives = λ last ended h. at.gives last ended (gives-passed c (is_over script) count now next last ended r.line rest few_here passes h);
      reaches = λ last h. at.reaches last (reaches-passed c (is_over script) count now next last r.line rest few_here passes h);
      answered = λ e more last h. at.answered (few-open (used_up r.ahead) count few) e more last
          (passes-on c (count + 1) (λ t. AllAnswered c (count + 1) t (whole_lines more) last) now next r.line passes h);
    }

-- ---- the text that is written in pieces

-- a front of the text so far is written, and the rest is kept
pub kept-text : (sent text : List ℕ) (n : ℕ) (s : Session) → s.text ≡ text → behind (sent ++ take n text) (record s { text = drop n text }) ≡ behind sent s
kept-text sent text n s e =
    ap (λ (x : List ℕ). let r : Session = record s { text = x } in r)
    (append_assoc sent (take n text) (drop n text) ∙ ap (λ (x : List ℕ). sent ++ x) (take-append-drop n text ∙ sym e))

-- what was sent, and the first bytes behind it
pub front-sent : (sent text all : List ℕ) (n : ℕ) → all ≡ sent ++ text → IsFront (sent ++ take n text) all
front-sent sent text all n e = (drop n text, e ∙ ap (λ (x : List ℕ). sent ++ x) (sym (take-append-drop n text)) ∙ sym (append_assoc sent (take n text) (drop n text)))

-- ---- how the run ends

full-gives : (c : Command) (full last : Bool) (number : ℕ) (rest : Session → Type 0) (s : Session) (bytes : List ℕ) → full ≡ true
    → LineGives c (if full then Some ScriptLines else if last then Some ScriptBytes else None) number rest s s ScriptLines bytes
full-gives c true last number rest s bytes e = (refl, refl)
full-gives c false last number rest s bytes e = false_true e

full-stop : (c : Command) (over : Bool) (count : ℕ) (s : Session) (bytes : List ℕ) (lines : List (List ℕ)) → count ≡ line_limit → Gives c over count s (bytes ∷ lines) s ScriptLines
full-stop c over count s bytes lines e =
    full-gives c (count == line_limit) (is_last over lines) (count + 1) (λ t. Gives c over (count + 1) t lines s ScriptLines) s bytes (eq-eqb count line_limit e)

-- at the line past the limit of lines
pub ran-full : (c : Command) (script : List ℕ) (files files_now : Option Files) (count : ℕ) (a : Ahead) (m before now : Option (List ℕ)) (sent text : List ℕ) (s : Session) → IsAmid c script files count a (behind sent s) m
    → 0 < length a.bytes → count ≡ line_limit → s.text ≡ text → AreFiles s files_now → Appends before now sent → IsRan c script files files_now before now text ScriptLines
ran-full c script files files_now count a m before now sent text s amid some full is shelf written =
    let come = to_come a amid.left in
    let first = some_line come (omega (arith, length-append a.bytes (take a.room amid.left))) in
    record {
      last = behind sent s;
      gives = amid.gives (behind sent s) ScriptLines (subst (λ (x : List (List ℕ)). Gives c (is_over script) count (behind sent s) x (behind sent s) ScriptLines) (sym first.2) (full-stop c (is_over script) count (behind sent s) first.0 first.1 full));
      shelf = shelf;
      sent = sent;
      written = written;
      whole = sym (text-of-stop c ScriptLines (behind sent s) (λ w. cc)) ∙ ap (λ (x : List ℕ). sent ++ x) is;
    }

-- at a line
pub ran-ended : (c : Command) (script : List ℕ) (files files_now : Option Files) (count : ℕ) (r : LineState) (m before now : Option (List ℕ)) (sent text : List ℕ) (s : Session) (ended : End) → IsAtLine c script files count r (behind sent s) m
    → HasEnded c (used_up r.ahead) count r.line s text files_now ended → Appends before now sent → IsRan c script files files_now before now text ended
ran-ended c script files files_now count r m before now sent text s ended at e written =
    let rest = lines_of (to_come r.ahead at.left) in
    record {
      last = behind sent e.last;
      gives = at.gives (behind sent e.last) ended (gives-behind sent c (is_over script) count s (r.line ∷ rest) e.last ended (e.gives (is_over script) rest at.is_last_one));
      shelf = e.shelf;
      sent = sent;
      written = written;
      whole = sym (text-of-stop c ended (behind sent e.last) e.not_whole) ∙ ap (λ (x : List ℕ). sent ++ x) (sym e.text_is);
    }

closing-behind : (c : Command) (sent : List ℕ) (s : Session) → closing c Whole (behind sent s) ≡ closing c Whole s
closing-behind Run sent s = refl
closing-behind Refine sent s = refl

-- at the end of the script
pub ran-whole : (c : Command) (script : List ℕ) (files files_now : Option Files) (count : ℕ) (a : Ahead) (m before now : Option (List ℕ)) (sent text : List ℕ) (s : Session) → IsAmid c script files count a (behind sent s) m
    → a.bytes ≡ [] → a.ended ≡ true → IsAtEnd m → text ≡ s.text ++ closing c Whole s → AreFiles s files_now → Appends before now sent → IsRan c script files files_now before now text Whole
ran-whole c script files files_now count a m before now sent text s amid none ended at_end is shelf written =
    let rest : take a.room amid.left ≡ [] = nothing-left a amid.left (inl ended) (λ e. subst IsAtEnd amid.told at_end) in
    let come : to_come a amid.left ≡ [] = ap (λ (x : List ℕ). x ++ take a.room amid.left) none ∙ rest in
    record {
      last = behind sent s;
      gives = amid.gives (behind sent s) Whole (subst (λ (x : List ℕ). Gives c (is_over script) count (behind sent s) (lines_of x) (behind sent s) Whole) (sym come) (refl, refl));
      shelf = shelf;
      sent = sent;
      written = written;
      whole = ap (λ (x : List ℕ). sent ++ s.text ++ x) (closing-behind c sent s) ∙ append_assoc sent s.text (closing c Whole s) ∙ ap (λ (x : List ℕ). sent ++ x) (sym is);
    }

-- at a fault of the source
pub ran-faulted : (c : Command) (script : List ℕ) (files files_now : Option Files) (count : ℕ) (o r : LineState) (l m before now : Option (List ℕ)) (sent text : List ℕ) (s : Session) → IsAmid c script files count o.ahead (behind sent s) l
    → IsBroken o r l m → s.text ≡ text → Stay s.files files_now → Appends before now sent → IsRanToFault c script m files files_now before now text
ran-faulted c script files files_now count o r l m before now sent text s amid broken is shelf written =
    let t = told_after l m amid.left broken.bytes amid.told broken.read.consumed in
    let whole : script ≡ (amid.given ++ r.line) ++ t.0 =
    amid.whole ∙ ap (λ (x : List ℕ). amid.given ++ (o.ahead.bytes ++ x)) t.2
    ∙ ap (λ (x : List ℕ). amid.given ++ x) (sym (append_assoc o.ahead.bytes broken.bytes t.0) ∙ ap (λ (x : List ℕ). x ++ t.0) broken.part)
    ∙ sym (append_assoc amid.given r.line t.0) in
    record {
      read = amid.given ++ r.line;
      consumed = subst (λ (x : Option (List ℕ)). Consumes (Some script) x (amid.given ++ r.line)) (sym t.1) whole;
      last = behind sent s;
      answered = amid.answered broken.before_end r.line (behind sent s) (subst (λ (x : List (List ℕ)). AllAnswered c count (behind sent s) x (behind sent s)) (sym (whole-none r.line broken.plain)) refl);
      reaches = amid.reaches (behind sent s) (reaches-here c (is_over script) count (behind sent s) (lines_of (to_come o.ahead amid.left)));
      shelf = shelf;
      sent = sent;
      written = written;
      whole = ap (λ (x : List ℕ). sent ++ x) is;
    }

-- in the middle
pub reached-amid : (c : Command) (script : List ℕ) (files files_now : Option Files) (count : ℕ) (a : Ahead) (m before now : Option (List ℕ)) (s : Session) (text : List ℕ) → IsAmid c script files count a s m
    → Stay s.files files_now → IsFront text s.text → Appends before now text → IsRanShort c script files files_now before now
reached-amid c script files files_now count a m before now s text amid shelf front written = record {
  text = text;
  written = written;
  reached = record {
    last = s;
    reaches = amid.reaches s (reaches-here c (is_over script) count s (lines_of (to_come a amid.left)));
    stored = shelf;
    front = front;
  };
}

pub reached-lacked : (c : Command) (script : List ℕ) (files files_now : Option Files) (count : ℕ) (r : LineState) (m before now : Option (List ℕ)) (sent : List ℕ) (s : Session) → IsAtLine c script files count r (behind sent s) m
    → HasLacked c (used_up r.ahead) count r.line s files_now → Appends before now sent → IsRanShort c script files files_now before now
reached-lacked c script files files_now count r m before now sent s at lacked written =
    let rest = lines_of (to_come r.ahead at.left) in
    record {
      text = sent;
      written = written;
      reached = record {
        last = behind sent lacked.last;
        reaches = at.reaches (behind sent lacked.last) (reaches-behind sent c (is_over script) count s (r.line ∷ rest) lacked.last (lacked.reaches (is_over script) rest at.is_last_one));
        stored = lacked.shelf;
        front = (lacked.last.text, refl);
      };
    }

-- ---- one turn of the loop over the lines

pub appends-nothing : (o : Option (List ℕ)) → Appends o o []
appends-nothing None = tt
appends-nothing (Some xs) = sym (append-nil xs)

pub amid-begin : (c : Command) (o : Option (List ℕ)) (files : Option Files) (r : LineState) → r ≡ record { line = []; ahead = record { bytes = []; room = byte_limit + 1; ended = false } }
    → IfSome o (λ script. IsAmid c script files 0 r.ahead (behind [] (begin files)) o)
amid-begin c None files r e = tt
amid-begin c (Some script) files r e =
    subst (λ (x : LineState). IsAmid c script files 0 x.ahead (behind [] (begin files)) (Some script)) (sym e) (amid-start c script files)

pub begin-open : (r : LineState) → r ≡ record { line = []; ahead = record { bytes = []; room = byte_limit + 1; ended = false } } → r.ahead.room ≡ 0 → ⊥
begin-open r e none = let room : r.ahead.room ≡ byte_limit + 1 = ap (λ (x : LineState). x.ahead.room) e in omega arith

pub begin-end : (r : LineState) (o : Option (List ℕ)) → r ≡ record { line = []; ahead = record { bytes = []; room = byte_limit + 1; ended = false } } → r.ahead.ended ≡ true → IsAtEnd o
begin-end r o e ended = false_true (sym (ap (λ (x : LineState). x.ahead.ended) e) ∙ ended)

pub has-some : (more : Bool) (bytes : List ℕ) → more ≡ nat_lt 0 (length bytes) → more ≡ true → 0 < length bytes
has-some more bytes e t = ltb-true 0 (length bytes) (sym e ∙ t)

pub has-none : (more : Bool) (bytes : List ℕ) → more ≡ nat_lt 0 (length bytes) → more ≡ false → bytes ≡ []
has-none more bytes e f = nil_from_length bytes (let h = ltb-false 0 (length bytes) (sym e ∙ f) in omega arith)

pub amid-has-more : (c : Command) (script : List ℕ) (files : Option Files) (count : ℕ) (a o : LineState) (now : Session) (k l : Option (List ℕ)) → IsAmid c script files count a.ahead now k → IsMore a o k l → IsAmid c script files count o.ahead now l
amid-has-more c script files count a o now k l amid more = amid-more c script files count a.ahead o.ahead more.bytes now k l amid more.read more.ahead

pub end-has-more : (a o : LineState) (k l : Option (List ℕ)) → IsMore a o k l → (a.ahead.ended ≡ true → IsAtEnd k) → o.ahead.ended ≡ true → IsAtEnd l
end-has-more a o k l more before = at-end-read a.ahead o.ahead k l more.bytes more.read before

pub end-next : (a o r : LineState) (k l m : Option (List ℕ)) → IsMore a o k l → IsNextLine o r l m → (a.ahead.ended ≡ true → IsAtEnd k) → r.ahead.ended ≡ true → IsAtEnd m
end-next a o r k l m more next before = at-end-read o.ahead r.ahead l m next.bytes next.read (end-has-more a o k l more before)

pub at-next : (c : Command) (script : List ℕ) (files : Option Files) (count : ℕ) (a o r : LineState) (now : Session) (k l m : Option (List ℕ)) → IsAmid c script files count a.ahead now k → IsMore a o k l → 0 < length o.ahead.bytes
    → IsNextLine o r l m → (a.ahead.ended ≡ true → IsAtEnd k) → IsAtLine c script files count r now m
at-next c script files count a o r now k l m amid more some next before =
    amid-line c script files count o r now l m (amid-has-more c script files count a o now k l amid more) some next (end-next a o r k l m more next before)

-- the source and what was read ahead of it have less left
pub fewer-left : (a o r : LineState) (k l m : Option (List ℕ)) → IsMore a o k l → 0 < length o.ahead.bytes → IsNextLine o r l m → length r.ahead.bytes + r.ahead.room < length a.ahead.bytes + a.ahead.room
fewer-left a o r k l m more some next =
    let first : length o.ahead.bytes ≡ length a.ahead.bytes + length more.bytes = ap length more.ahead ∙ length-append a.ahead.bytes more.bytes in
    elim next.cut [
      | inl fed ↦
          let size : length o.ahead.bytes + length next.bytes ≡ length r.line + (1 + length r.ahead.bytes) = sym (length-append o.ahead.bytes next.bytes) ∙ ap length fed ∙ length-append r.line (10 ∷ r.ahead.bytes) ∙ omega arith in
          omega (arith, first, size, more.read.room, next.read.room)
      | inr last ↦
          let none : length r.ahead.bytes ≡ 0 = ap length last.1 in
          omega (arith, first, none, some, more.read.room, next.read.room)
    ]

pub ended-at : (c : Command) (last used : Bool) (count : ℕ) (bytes line : List ℕ) (s : Session) (text : List ℕ) (files : Option Files) (ended : End) → last ≡ used → bytes ≡ line → HasEnded c last count bytes s text files ended
    → HasEnded c used count line s text files ended
ended-at c last used count bytes line s text files ended e f h =
    subst (λ (x : List ℕ). HasEnded c used count x s text files ended) f (subst (λ (x : Bool). HasEnded c x count bytes s text files ended) e h)

pub lacked-at : (c : Command) (last used : Bool) (count : ℕ) (bytes line : List ℕ) (s : Session) (files : Option Files) → last ≡ used → bytes ≡ line → HasLacked c last count bytes s files → HasLacked c used count line s files
lacked-at c last used count bytes line s files e f h =
    subst (λ (x : List ℕ). HasLacked c used count x s files) f (subst (λ (x : Bool). HasLacked c x count bytes s files) e h)

-- the line was skipped or answered, and its text may stand behind what was written
pub passed-at : (c : Command) (script : List ℕ) (files files_now : Option Files) (count : ℕ) (last : Bool) (bytes sent : List ℕ) (r : LineState) (s : Session) (k : Kept) (m : Option (List ℕ)) → IsAtLine c script files count r (behind sent s) m
    → last ≡ used_up r.ahead → bytes ≡ r.line → (h : HasPassed c last count bytes s k files_now) → IsAmid c script files (count + 1) r.ahead (behind sent h.next) m
passed-at c script files files_now count last bytes sent r s k m at e f h =
    line-passed c script files count r (behind sent s) (behind sent h.next) m at (ap (λ (b : Bool). limit_for b count) (sym e) ∙ h.few)
    (passes-behind sent c (count + 1) (λ t. t ≡ h.next) (λ t. t ≡ behind sent h.next) s r.line (λ t same. ap (behind sent) same)
    (subst (λ (x : List ℕ). Passes c (count + 1) (λ t. t ≡ h.next) s x) f h.passes))

pub still-open : (last : Bool) (count : ℕ) (a : Ahead) → last ≡ used_up a → limit_for last count ≡ None → a.bytes ≡ [] → a.room ≡ 0 → ⊥
still-open last count a e few none room =
    let used : used_up a ≡ true = ap (λ (x : List ℕ). length x == 0 && a.room == 0) none ∙ ap (λ (n : ℕ). n == 0) room in
    let open_ : last ≡ false = few-open last count few in
    let no : false ≡ true = sym open_ ∙ e ∙ used in cc

-- a piece was written, and the session keeps the rest
pub session-kept : (k : Kept) (files : Option Files) (s : Session) (text : Vec ℕ Global) (rest : List ℕ) → IsSession k files s → text.items ≡ rest
    → IsSession (record { world = k.world; version = k.version; text = text }) files (record s { text = rest })
session-kept k files s text rest is e = record {
  keeps = record { world = is.keeps.world; version = is.keeps.version; text = e };
  none_lost = is.none_lost;
  shelf = is.shelf;
}

pub amid-kept : (c : Command) (script : List ℕ) (files : Option Files) (count n : ℕ) (a : Ahead) (sent text : List ℕ) (s : Session) (m : Option (List ℕ)) → s.text ≡ text → IsAmid c script files count a (behind sent s) m
    → IsAmid c script files count a (behind (sent ++ take n text) (record s { text = drop n text })) m
amid-kept c script files count n a sent text s m e amid = subst (λ (x : Session). IsAmid c script files count a x m) (sym (kept-text sent text n s e)) amid

-- no line comes where bytes could be read: the source was at its end
pub ended-none : (a o : LineState) (k l : Option (List ℕ)) → IsMore a o k l → o.ahead.bytes ≡ [] → (a.ahead.bytes ≡ [] → a.ahead.room ≡ 0 → ⊥) → o.ahead.ended ≡ true
ended-none a o k l more none open_ = elim (more.done none) [
  | inl e ↦ e
  | inr room ↦
      let size : length a.ahead.bytes + length more.bytes ≡ 0 = sym (length-append a.ahead.bytes more.bytes) ∙ ap length (sym more.ahead ∙ none) in
      absurd (open_ (nil_from_length a.ahead.bytes (omega arith)) (omega (arith, size, more.read.room, room)))
]
