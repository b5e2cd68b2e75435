-- What of a plan is still to come while its lines are read.
use Rattle.std.proofs.Common.{◌≡◌, ◌==◌, ℕ, zero, suc, ◌+◌, ◌<◌, ◌≤◌, Bool, true, false, ◌&&◌, List, [], ◌∷◌, ◌++◌, length, take, drop, None, Some, refl, sym, ◌∙◌, ap, subst, inl, inr, arith, nat_lt, append_assoc, append-nil, length-append, tests, rules}
use Rattle.std.specs.Prelude.{◌≢◌, IfSome}
use Rattle.std.specs.declared.option.Option.{Option}
use Rattle.std.specs.Io.KnownBytes.{Consumes, IsAtEnd}
use Rattle.std.proofs.Math.Seq.{take-add, take-nil}
use Rattle.std.proofs.lemmas.Bool.{ltb-true, ltb-false}
use Rattle.std.proofs.lemmas.Bool.Decides.{nat_tests}
use Rattle.std.proofs.lemmas.List.{take_at, drop_at, take_all, length-take, nil_from_length}
use Rattle.pcm_io.specs.Lines.{Ahead, LineState, HasRead, IsDone, IsMore, IsNextLine, has_feed}
use Rattle.live_plan.specs.Lines.{lines_of, plan_lines, front_of, is_over, is_last, byte_limit}
use Rattle.live_plan.proofs.LineLemmas.{lines-cut, lines-last, not_last}

-- ---- the bytes that are still to be given

abbrev pub to_come : Ahead → List ℕ → List ℕ
to_come a left = a.bytes ++ take a.room left

abbrev pub used_up : Ahead → Bool
used_up a = length a.bytes == 0 && a.room == 0

-- before a line: the lines that were given and those that are left are all that are read
pub record IsAmid (plan : List ℕ) (lines : List (List ℕ)) (a : Ahead) (left_now : Option (List ℕ)) : Type 0 where
  pub left : List ℕ
  pub told : left_now ≡ Some left
  pub given : List ℕ
  pub whole : plan ≡ given ++ (a.bytes ++ left)
  pub most : length given + length a.bytes + a.room ≡ byte_limit + 1
  pub cut : plan_lines plan ≡ lines ++ lines_of (to_come a left)

-- at a line that was read
pub record IsAtLine (plan : List ℕ) (lines : List (List ℕ)) (r : LineState) (left_now : Option (List ℕ)) : Type 0 where
  pub left : List ℕ
  pub told : left_now ≡ Some left
  pub given : List ℕ
  pub whole : plan ≡ given ++ (r.ahead.bytes ++ left)
  pub most : length given + length r.ahead.bytes + r.ahead.room ≡ byte_limit + 1
  pub is_last_one : is_last (is_over plan) (lines_of (to_come r.ahead left)) ≡ used_up r.ahead
  pub cut : plan_lines plan ≡ lines ++ r.line ∷ lines_of (to_come r.ahead left)

false_true : {A : Type 0} → false ≡ true → A
false_true e = cc

-- what a source that tells its bytes has left
told_after : (l m : Option (List ℕ)) (left bytes : List ℕ) → l ≡ Some left → Consumes l m bytes → (after : List ℕ) × (m ≡ Some after) × (left ≡ bytes ++ after)
told_after None m left bytes e h = let f : None ≡ Some left = e in cc
told_after (Some xs) None left bytes e h = absurd h
told_after (Some xs) (Some ys) left bytes e h = let same : xs ≡ left = cc in (ys, refl, sym same ∙ h)

taken : (bytes left : List ℕ) (room : ℕ) → take (length bytes + room) (bytes ++ left) ≡ bytes ++ take room left
taken bytes left room =
    take-add (length bytes) room (bytes ++ left)
    ∙ ap (λ (l : List ℕ). l ++ take room (drop (length bytes) (bytes ++ left))) (take_at bytes left (length bytes) refl)
    ∙ ap (λ (l : List ℕ). bytes ++ take room l) (drop_at bytes left (length bytes) refl)

-- what was read is what was to come
come-read : (a : Ahead) (bytes left after : List ℕ) (room : ℕ) → left ≡ bytes ++ after → length bytes + room ≡ a.room → to_come a left ≡ (a.bytes ++ bytes) ++ take room after
come-read a bytes left after room e r =
    ap (λ (n : ℕ). a.bytes ++ take n left) (sym r) ∙ ap (λ (l : List ℕ). a.bytes ++ take (length bytes + room) l) e
    ∙ ap (λ (l : List ℕ). a.bytes ++ l) (taken bytes after room) ∙ sym (append_assoc a.bytes bytes (take room after))

pub at-end-read : (a b : Ahead) (l m : Option (List ℕ)) (bytes : List ℕ) → HasRead a b l m bytes → (a.ended ≡ true → IsAtEnd l) → b.ended ≡ true → IsAtEnd m
at-end-read a b l m bytes h before e = elim (h.ended e) [ inl s ↦ subst IsAtEnd (sym s.1) (before s.0) | inr x ↦ x ]

-- ---- another line comes, or none

amid-more : (plan : List ℕ) (lines : List (List ℕ)) (a b : Ahead) (bytes : List ℕ) (l m : Option (List ℕ)) → IsAmid plan lines a l
    → HasRead a b l m bytes → b.bytes ≡ a.bytes ++ bytes → IsAmid plan lines b m
amid-more plan lines a b bytes l m amid read ahead =
    let t = told_after l m amid.left bytes amid.told read.consumed in
    let same : to_come a amid.left ≡ to_come b t.0 = come-read a bytes amid.left t.0 b.room t.2 read.room ∙ ap (λ (x : List ℕ). x ++ take b.room t.0) (sym ahead) in
    record {
      left = t.0;
      told = t.1;
      given = amid.given;
      whole = amid.whole ∙ ap (λ (x : List ℕ). amid.given ++ (a.bytes ++ x)) t.2 ∙ ap (λ (x : List ℕ). amid.given ++ x) (sym (append_assoc a.bytes bytes t.0) ∙ ap (λ (x : List ℕ). x ++ t.0) (sym ahead));
      most = (let size : length b.bytes ≡ length a.bytes + length bytes = ap length ahead ∙ length-append a.bytes bytes in omega (arith, size, read.room, amid.most));
      cut = amid.cut ∙ ap (λ (x : List ℕ). lines ++ lines_of x) same;
    }

-- ---- a line was read

length-nothing : (plan given left : List ℕ) → plan ≡ given ++ left → length given ≡ byte_limit + 1 → is_over plan ≡ true
length-nothing plan given left e size =
    let long : length plan ≡ length given + length left = ap length e ∙ length-append given left in
    let cut = length-take (byte_limit + 1) plan in
    search (rules, tests, nat_tests)

not-over : (plan given : List ℕ) (n : ℕ) → plan ≡ given → length given + suc n ≡ byte_limit + 1 → is_over plan ≡ false
not-over plan given n e size =
    let same : length plan ≡ length given = ap length e in
    let cut = length-take (byte_limit + 1) plan in
    search (rules, tests, nat_tests)

some-zero : (n : ℕ) → (suc n == 0) ≡ false
some-zero n = grind (arith, nat_tests)

-- no line follows and the plan is over the limit, exactly where all that may be read was given
last-used-up : (plan given left bytes : List ℕ) (room : ℕ) → plan ≡ given ++ (bytes ++ left) → length given + length bytes + room ≡ byte_limit + 1
    → is_last (is_over plan) (lines_of (bytes ++ take room left)) ≡ (length bytes == 0 && room == 0)
last-used-up plan given left (b ∷ bytes) room e most =
    not_last (is_over plan) (b ∷ bytes ++ take room left) (omega arith) ∙ sym (ap (λ (x : Bool). x && room == 0) (some-zero (length bytes)))
last-used-up plan given left [] zero e most = length-nothing plan given left e (omega (arith, most))
last-used-up plan given [] [] (suc room) e most = not-over plan given room (e ∙ append-nil given) (omega (arith, most)) ∙ sym (some-zero room)
last-used-up plan given (x ∷ left) [] (suc room) e most = not_last (is_over plan) (x ∷ take room left) (omega arith) ∙ sym (some-zero room)

-- behind the line stands its line feed
amid-fed : (plan : List ℕ) (lines : List (List ℕ)) (a : Ahead) (r : LineState) (bytes : List ℕ) (l m : Option (List ℕ)) → IsAmid plan lines a l
    → HasRead a r.ahead l m bytes → has_feed r.line ≡ false → a.bytes ++ bytes ≡ r.line ++ 10 ∷ r.ahead.bytes → IsAtLine plan lines r m
amid-fed plan lines a r bytes l m amid read plain cut =
    let t = told_after l m amid.left bytes amid.told read.consumed in
    let b = r.ahead in
    let given : List ℕ = amid.given ++ (r.line ++ 10 ∷ []) in
    let come : to_come a amid.left ≡ r.line ++ 10 ∷ to_come b t.0 =
    come-read a bytes amid.left t.0 b.room t.2 read.room ∙ ap (λ (x : List ℕ). x ++ take b.room t.0) cut ∙ append_assoc r.line (10 ∷ b.bytes) (take b.room t.0) in
    let behind : lines_of (to_come a amid.left) ≡ r.line ∷ lines_of (to_come b t.0) = ap lines_of come ∙ lines-cut r.line (to_come b t.0) plain in
    let whole : plan ≡ given ++ (b.bytes ++ t.0) =
    amid.whole ∙ ap (λ (x : List ℕ). amid.given ++ (a.bytes ++ x)) t.2
    ∙ ap (λ (x : List ℕ). amid.given ++ x) (sym (append_assoc a.bytes bytes t.0) ∙ ap (λ (x : List ℕ). x ++ t.0) cut ∙ append_assoc r.line (10 ∷ b.bytes) t.0 ∙ sym (append_assoc r.line (10 ∷ []) (b.bytes ++ t.0)))
    ∙ sym (append_assoc amid.given (r.line ++ 10 ∷ []) (b.bytes ++ t.0)) in
    let size : length a.bytes + length bytes ≡ length r.line + (1 + length b.bytes) = sym (length-append a.bytes bytes) ∙ ap length cut ∙ length-append r.line (10 ∷ b.bytes) ∙ omega arith in
    let sized : length given ≡ length amid.given + (length r.line + 1) = length-append amid.given (r.line ++ 10 ∷ []) ∙ ap (λ (n : ℕ). length amid.given + n) (length-append r.line (10 ∷ [])) in
    let most : length given + length b.bytes + b.room ≡ byte_limit + 1 = omega (arith, size, sized, read.room, amid.most) in
    record {
      left = t.0;
      told = t.1;
      given = given;
      whole = whole;
      most = most;
      is_last_one = last-used-up plan given t.0 b.bytes b.room whole most;
      cut = amid.cut ∙ ap (λ (x : List (List ℕ)). lines ++ x) behind;
    }

nothing-left : (b : Ahead) (left : List ℕ) → IsDone b → (b.ended ≡ true → left ≡ []) → take b.room left ≡ []
nothing-left b left (inl ended) none = ap (λ (x : List ℕ). take b.room x) (none ended) ∙ take-nil b.room
nothing-left b left (inr room) none = ap (λ (n : ℕ). take n left) room

-- the line is the last one, with no line feed
amid-unfed : (plan : List ℕ) (lines : List (List ℕ)) (a : Ahead) (r : LineState) (bytes : List ℕ) (l m : Option (List ℕ)) → IsAmid plan lines a l
    → 0 < length a.bytes → HasRead a r.ahead l m bytes → (r.ahead.ended ≡ true → IsAtEnd m) → has_feed r.line ≡ false → a.bytes ++ bytes ≡ r.line → r.ahead.bytes ≡ [] → IsDone r.ahead → IsAtLine plan lines r m
amid-unfed plan lines a r bytes l m amid some read at_end plain cut none done =
    let t = told_after l m amid.left bytes amid.told read.consumed in
    let b = r.ahead in
    let given : List ℕ = amid.given ++ r.line in
    let rest : take b.room t.0 ≡ [] = nothing-left b t.0 done (λ e. subst IsAtEnd t.1 (at_end e)) in
    let come : to_come a amid.left ≡ r.line =
    come-read a bytes amid.left t.0 b.room t.2 read.room ∙ ap (λ (x : List ℕ). x ++ take b.room t.0) cut ∙ ap (λ (x : List ℕ). r.line ++ x) rest ∙ append-nil r.line in
    let after : to_come b t.0 ≡ [] = ap (λ (x : List ℕ). x ++ take b.room t.0) none ∙ rest in
    let long : length r.line ≡ length a.bytes + length bytes = ap length (sym cut) ∙ length-append a.bytes bytes in
    let behind : lines_of (to_come a amid.left) ≡ r.line ∷ lines_of (to_come b t.0) =
    ap lines_of come ∙ lines-last r.line plain (omega (arith, long, some)) ∙ ap (λ (x : List ℕ). r.line ∷ lines_of x) (sym after) in
    let whole : plan ≡ given ++ (b.bytes ++ t.0) =
    amid.whole ∙ ap (λ (x : List ℕ). amid.given ++ (a.bytes ++ x)) t.2
    ∙ ap (λ (x : List ℕ). amid.given ++ x) (sym (append_assoc a.bytes bytes t.0) ∙ ap (λ (x : List ℕ). x ++ t.0) cut)
    ∙ sym (append_assoc amid.given r.line t.0) ∙ ap (λ (x : List ℕ). given ++ (x ++ t.0)) (sym none) in
    let short : length b.bytes ≡ 0 = ap length none in
    let sized : length given ≡ length amid.given + length r.line = length-append amid.given r.line in
    let most : length given + length b.bytes + b.room ≡ byte_limit + 1 = omega (arith, long, short, sized, read.room, amid.most) in
    record {
      left = t.0;
      told = t.1;
      given = given;
      whole = whole;
      most = most;
      is_last_one = last-used-up plan given t.0 b.bytes b.room whole most;
      cut = amid.cut ∙ ap (λ (x : List (List ℕ)). lines ++ x) behind;
    }

amid-line : (plan : List ℕ) (lines : List (List ℕ)) (o r : LineState) (l m : Option (List ℕ)) → IsAmid plan lines o.ahead l
    → 0 < length o.ahead.bytes → IsNextLine o r l m → (r.ahead.ended ≡ true → IsAtEnd m) → IsAtLine plan lines r m
amid-line plan lines o r l m amid some next at_end = elim next.cut [
  | inl fed ↦ amid-fed plan lines o.ahead r next.bytes l m amid next.read next.plain fed
  | inr last ↦ amid-unfed plan lines o.ahead r next.bytes l m amid some next.read at_end next.plain last.0 last.1 last.2
]

-- ---- one turn of the loop over the lines

amid-start : (plan : List ℕ) → IsAmid plan [] (record { bytes = []; room = byte_limit + 1; ended = false }) (Some plan)
amid-start plan = record { left = plan; told = refl; given = []; whole = refl; most = refl; cut = refl }

pub amid-begin : (o : Option (List ℕ)) (r : LineState) → r ≡ record { line = []; ahead = record { bytes = []; room = byte_limit + 1; ended = false } } → IfSome o (λ plan. IsAmid plan [] r.ahead o)
amid-begin None r e = tt
amid-begin (Some plan) r e = subst (λ (x : LineState). IsAmid plan [] x.ahead (Some plan)) (sym e) (amid-start plan)

pub begin-open : (r : LineState) → r ≡ record { line = []; ahead = record { bytes = []; room = byte_limit + 1; ended = false } } → r.ahead.room ≡ 0 → ⊥
begin-open r e none = let room : r.ahead.room ≡ byte_limit + 1 = ap (λ (x : LineState). x.ahead.room) e in omega arith

pub begin-end : (r : LineState) (o : Option (List ℕ)) → r ≡ record { line = []; ahead = record { bytes = []; room = byte_limit + 1; ended = false } } → r.ahead.ended ≡ true → IsAtEnd o
begin-end r o e ended = false_true (sym (ap (λ (x : LineState). x.ahead.ended) e) ∙ ended)

pub has-some : (more : Bool) (bytes : List ℕ) → more ≡ nat_lt 0 (length bytes) → more ≡ true → 0 < length bytes
has-some more bytes e t = ltb-true 0 (length bytes) (sym e ∙ t)

pub has-none : (more : Bool) (bytes : List ℕ) → more ≡ nat_lt 0 (length bytes) → more ≡ false → bytes ≡ []
has-none more bytes e f = nil_from_length bytes (let h = ltb-false 0 (length bytes) (sym e ∙ f) in omega arith)

pub amid-has-more : (plan : List ℕ) (lines : List (List ℕ)) (a o : LineState) (k l : Option (List ℕ)) → IsAmid plan lines a.ahead k → IsMore a o k l → IsAmid plan lines o.ahead l
amid-has-more plan lines a o k l amid more = amid-more plan lines a.ahead o.ahead more.bytes k l amid more.read more.ahead

pub end-has-more : (a o : LineState) (k l : Option (List ℕ)) → IsMore a o k l → (a.ahead.ended ≡ true → IsAtEnd k) → o.ahead.ended ≡ true → IsAtEnd l
end-has-more a o k l more before = at-end-read a.ahead o.ahead k l more.bytes more.read before

pub end-next : (a o r : LineState) (k l m : Option (List ℕ)) → IsMore a o k l → IsNextLine o r l m → (a.ahead.ended ≡ true → IsAtEnd k) → r.ahead.ended ≡ true → IsAtEnd m
end-next a o r k l m more next before = at-end-read o.ahead r.ahead l m next.bytes next.read (end-has-more a o k l more before)

pub at-next : (plan : List ℕ) (lines : List (List ℕ)) (a o r : LineState) (k l m : Option (List ℕ)) → IsAmid plan lines a.ahead k → IsMore a o k l → 0 < length o.ahead.bytes
    → IsNextLine o r l m → (a.ahead.ended ≡ true → IsAtEnd k) → IsAtLine plan lines r m
at-next plan lines a o r k l m amid more some next before =
    amid-line plan lines o r l m (amid-has-more plan lines a o k l amid more) some next (end-next a o r k l m more next before)

-- the source and what was read ahead of it have less left
pub fewer-left : (a o r : LineState) (k l m : Option (List ℕ)) → IsMore a o k l → 0 < length o.ahead.bytes → IsNextLine o r l m → length r.ahead.bytes + r.ahead.room < length a.ahead.bytes + a.ahead.room
fewer-left a o r k l m more some next =
    let first : length o.ahead.bytes ≡ length a.ahead.bytes + length more.bytes = ap length more.ahead ∙ length-append a.ahead.bytes more.bytes in
    elim next.cut [
      | inl fed ↦
          let size : length o.ahead.bytes + length next.bytes ≡ length r.line + (1 + length r.ahead.bytes) = sym (length-append o.ahead.bytes next.bytes) ∙ ap length fed ∙ length-append r.line (10 ∷ r.ahead.bytes) ∙ omega arith in
          omega (arith, first, size, more.read.room, next.read.room)
      | inr last ↦
          let none : length r.ahead.bytes ≡ 0 = ap length last.1 in
          omega (arith, first, none, some, more.read.room, next.read.room)
    ]

-- the line was taken
pub line-taken : (plan : List ℕ) (lines : List (List ℕ)) (r : LineState) (m : Option (List ℕ)) → IsAtLine plan lines r m → IsAmid plan (lines ++ r.line ∷ []) r.ahead m
line-taken plan lines r m at = record {
  left = at.left;
  told = at.told;
  given = at.given;
  whole = at.whole;
  most = at.most;
  cut = at.cut ∙ sym (append_assoc lines (r.line ∷ []) (lines_of (to_come r.ahead at.left)));
}

pub still-open : (a : Ahead) (used : Bool) → used ≡ used_up a → used ≡ false → a.bytes ≡ [] → a.room ≡ 0 → ⊥
still-open a used e open_ none room =
    let up : used_up a ≡ true = ap (λ (x : List ℕ). length x == 0 && a.room == 0) none ∙ ap (λ (n : ℕ). n == 0) room in
    let no : false ≡ true = sym open_ ∙ e ∙ up in cc

-- no line comes where bytes could be read: the source was at its end
pub ended-none : (a o : LineState) (k l : Option (List ℕ)) → IsMore a o k l → o.ahead.bytes ≡ [] → (a.ahead.bytes ≡ [] → a.ahead.room ≡ 0 → ⊥) → o.ahead.ended ≡ true
ended-none a o k l more none open_ = elim (more.done none) [
  | inl e ↦ e
  | inr room ↦
      let size : length a.ahead.bytes + length more.bytes ≡ 0 = sym (length-append a.ahead.bytes more.bytes) ∙ ap length (sym more.ahead ∙ none) in
      absurd (open_ (nil_from_length a.ahead.bytes (omega arith)) (omega (arith, size, more.read.room, room)))
]

-- nor could no more be read
pub room-none : (a o : LineState) (k l : Option (List ℕ)) → IsMore a o k l → o.ahead.bytes ≡ [] → (a.ahead.bytes ≡ [] → a.ahead.room ≡ 0 → ⊥) → o.ahead.room ≡ 0 → ⊥
room-none a o k l more none open_ room =
    let size : length a.ahead.bytes + length more.bytes ≡ 0 = sym (length-append a.ahead.bytes more.bytes) ∙ ap length (sym more.ahead ∙ none) in
    open_ (nil_from_length a.ahead.bytes (omega arith)) (omega (arith, size, more.read.room, room))

-- all lines were given: they are those of the plan, within the limit of bytes
pub all-given : (plan : List ℕ) (lines : List (List ℕ)) (a : Ahead) (m : Option (List ℕ)) → IsAmid plan lines a m → a.bytes ≡ [] → IsAtEnd m → (a.room ≡ 0 → ⊥)
    → (lines_of plan ≡ lines) × (length plan ≤ byte_limit)
all-given plan lines a m amid none at_end some =
    let nothing : amid.left ≡ [] = subst IsAtEnd amid.told at_end in
    let come : to_come a amid.left ≡ [] = ap (λ (x : List ℕ). x ++ take a.room amid.left) none ∙ (ap (λ (x : List ℕ). take a.room x) nothing ∙ take-nil a.room) in
    let size : length plan ≡ length amid.given + length (a.bytes ++ amid.left) = ap length amid.whole ∙ length-append amid.given (a.bytes ++ amid.left) in
    let empty : length a.bytes ≡ 0 = ap length none in
    let empty_left : length amid.left ≡ 0 = ap length nothing in
    let rest = length-append a.bytes amid.left in
    let open_ : a.room ≢ 0 = some in
    let few : length plan ≤ byte_limit = omega (arith, size, rest, empty, empty_left, amid.most, open_) in
    let front : front_of plan ≡ plan = take_all (byte_limit + 1) plan (omega (arith, few)) in
    (ap lines_of (sym front) ∙ amid.cut ∙ ap (λ (x : List ℕ). lines ++ lines_of x) come ∙ append-nil lines, few)
