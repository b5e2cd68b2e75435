-- The lines of bytes that begin with a line.
use Rattle.std.proofs.Common.{◌≡◌, ◌==◌, ℕ, ◌<◌, List, [], ◌∷◌, ◌++◌, length, true, false, ◌||◌, refl, sym, ◌∙◌, ap, arith, ◌⊎◌, inl, inr, Bool}
use Rattle.std.specs.List.{onto_first}
use Rattle.pcm_io.specs.Lines.{has_feed}
use Rattle.live_plan.specs.Lines.{lines_of, is_last}

abbrev pub is_feed : ℕ → Bool
is_feed b = b == 10

pub bool_cases : (b : Bool) → (b ≡ true) ⊎ (b ≡ false)
bool_cases true = inl refl
bool_cases false = inr refl

false_true : {A : Type 0} → false ≡ true → A
false_true e = cc

-- the first byte is no line feed, nor is any behind it
plain_first : (b : ℕ) (line : List ℕ) → has_feed (b ∷ line) ≡ false → is_feed b ≡ false
plain_first b line f = elim (bool_cases (is_feed b)) [
  | inl e ↦ false_true (sym f ∙ ap (λ (x : Bool). x || has_feed line) e)
  | inr e ↦ e
]

plain_rest : (b : ℕ) (line : List ℕ) → has_feed (b ∷ line) ≡ false → has_feed line ≡ false
plain_rest b line f = sym (ap (λ (x : Bool). x || has_feed line) (plain_first b line f)) ∙ f

pub lines-cut : (line rest : List ℕ) → has_feed line ≡ false → lines_of (line ++ 10 ∷ rest) ≡ line ∷ lines_of rest
lines-cut [] rest f = refl
lines-cut (b ∷ line) rest f = simp (plain_first b line f) (ap (onto_first b) (lines-cut line rest (plain_rest b line f)))

pub lines-last : (line : List ℕ) → has_feed line ≡ false → 0 < length line → lines_of line ≡ line ∷ []
lines-last [] f some = absurd (omega arith)
lines-last (b ∷ []) f some = simp (plain_first b [] f)
lines-last (b ∷ d ∷ line) f some = simp (plain_first b (d ∷ line) f) (ap (onto_first b) (lines-last (d ∷ line) (plain_rest b (d ∷ line) f) (omega arith)))

-- some line is left where some byte is
onto_some : (over : Bool) (x : ℕ) (lines : List (List ℕ)) → is_last over (onto_first x lines) ≡ false
onto_some over x [] = refl
onto_some over x (line ∷ lines) = refl

pub not_last : (over : Bool) (after : List ℕ) → 0 < length after → is_last over (lines_of after) ≡ false
not_last over [] some = absurd (omega arith)
not_last over (x ∷ xs) some = elim (bool_cases (is_feed x)) [ inl h ↦ simp h | inr h ↦ simp h (onto_some over x (lines_of xs)) ]

-- the first line, where some byte is
onto_first-is : (x : ℕ) (lines : List (List ℕ)) → (first : List ℕ) × (rest : List (List ℕ)) × (onto_first x lines ≡ first ∷ rest)
onto_first-is x [] = (x ∷ [], [], refl)
onto_first-is x (line ∷ lines) = (x ∷ line, lines, refl)

pub some_line : (bytes : List ℕ) → 0 < length bytes → (first : List ℕ) × (rest : List (List ℕ)) × (lines_of bytes ≡ first ∷ rest)
some_line [] some = absurd (omega arith)
some_line (x ∷ xs) some = elim (bool_cases (is_feed x)) [
  | inl h ↦ ([], lines_of xs, simp h)
  | inr h ↦ let o = onto_first-is x (lines_of xs) in (o.0, o.1, simp h (o.2))
]
