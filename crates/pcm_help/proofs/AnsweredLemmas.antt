-- The number of the last whole line, byte by byte.
use Rattle.std.proofs.Common.{◌≡◌, ◌==◌, ◌&&◌, ℕ, ◌+◌, List, [], ◌∷◌, ◌++◌, Bool, true, false, refl, sym, ◌∙◌, ap, subst, inl, inr, append_assoc, append-nil, cond, zero-add}
use Rattle.std.specs.Char.{is_ascii_digit}
use Rattle.std.proofs.lemmas.Bool.{eqb-true, cases_Bool}
use Rattle.pcm_help.specs.Lines.{feeds_in}
use Rattle.pcm_help.specs.Answered.{after, after_by, all_digits, leading_on, with_digit, EndsIn, line, Tells}
use Rattle.pcm_help.specs.declared.answered.Answered.{Answered}
use Rattle.pcm_help.proofs.LineLemmas.{begins-feed, feeds-append}

digit-next : (t : Bool) → t && true ≡ true && t
digit-next true = refl
digit-next false = refl

and_assoc : (a b c : Bool) → a && (b && c) ≡ (a && b) && c
and_assoc true b c = refl
and_assoc false b c = refl

first_true : (a b : Bool) → a && b ≡ true → a ≡ true
first_true true b e = refl
first_true false b e = e

digits-next : (bytes : List ℕ) (b : ℕ) → all_digits (bytes ++ b ∷ []) ≡ all_digits bytes && is_ascii_digit b
digits-next [] b = digit-next (is_ascii_digit b)
digits-next (x ∷ bytes) b = ap (λ (t : Bool). is_ascii_digit x && t) (digits-next bytes b) ∙ and_assoc (is_ascii_digit x) (all_digits bytes) (is_ascii_digit b)

leading-next : (n : ℕ) (bytes : List ℕ) (b : ℕ) → leading_on n (bytes ++ b ∷ []) ≡ cond (all_digits bytes && is_ascii_digit b) (with_digit (leading_on n bytes) b) (leading_on n bytes)
leading-next n [] b = refl
leading-next n (x ∷ bytes) b = elim (cases_Bool (is_ascii_digit x)) [
  | inl e ↦ rw e (leading-next (with_digit n x) bytes b)
  | inr e ↦ rw e refl
]

no_feed : (b : ℕ) → (b == 10) ≡ false → feeds_in (b ∷ []) ≡ 0
no_feed b e = ap (λ (t : Bool). 0 + cond t 1 0) e

-- what the line comes to with one byte more, which is no line feed
goes-on : (digit : Bool) (a : Answered) (all : List ℕ) (b : ℕ) → a.counting && is_ascii_digit b ≡ digit → (b == 10) ≡ false → Tells a all → Tells (after_by false digit a b) (all ++ b ∷ [])
goes-on true a all b d e h =
    let digits : all_digits h.line && is_ascii_digit b ≡ true = ap (λ (t : Bool). t && is_ascii_digit b) (sym h.counting) ∙ d in
    record {
      whole = h.whole;
      line = h.line ++ b ∷ [];
      cut = ap (λ (l : List ℕ). l ++ b ∷ []) h.cut ∙ append_assoc h.whole h.line (b ∷ []);
      begins = h.begins;
      plain = feeds-append h.line (b ∷ []) ∙ ap (λ (n : ℕ). n + feeds_in (b ∷ [])) h.plain ∙ zero-add (feeds_in (b ∷ [])) ∙ no_feed b e;
      last = h.last;
      begun = ap (λ (n : ℕ). with_digit n b) h.begun ∙ sym (leading-next 0 h.line b ∙ (rw digits refl));
      counting = h.counting ∙ first_true (all_digits h.line) (is_ascii_digit b) digits ∙ sym (digits-next h.line b ∙ digits);
    }
goes-on false a all b d e h =
    let digits : all_digits h.line && is_ascii_digit b ≡ false = ap (λ (t : Bool). t && is_ascii_digit b) (sym h.counting) ∙ d in
    record {
      whole = h.whole;
      line = h.line ++ b ∷ [];
      cut = ap (λ (l : List ℕ). l ++ b ∷ []) h.cut ∙ append_assoc h.whole h.line (b ∷ []);
      begins = h.begins;
      plain = feeds-append h.line (b ∷ []) ∙ ap (λ (n : ℕ). n + feeds_in (b ∷ [])) h.plain ∙ zero-add (feeds_in (b ∷ [])) ∙ no_feed b e;
      last = h.last;
      begun = h.begun ∙ sym (leading-next 0 h.line b ∙ (rw digits refl));
      counting = sym (digits-next h.line b ∙ digits);
    }

-- the line ends
ends : (digit : Bool) (a : Answered) (all : List ℕ) (b : ℕ) → b ≡ 10 → Tells a all → Tells (after_by true digit a b) (all ++ b ∷ [])
ends digit a all b e h = record {
  whole = (h.whole ++ h.line) ++ 10 ∷ [];
  line = [];
  cut = ap (λ (l : List ℕ). l ++ b ∷ []) h.cut ∙ ap (λ (x : ℕ). (h.whole ++ h.line) ++ x ∷ []) e ∙ sym (append-nil ((h.whole ++ h.line) ++ 10 ∷ []));
  begins = begins-feed true (h.whole ++ h.line);
  plain = refl;
  last = subst (EndsIn ((h.whole ++ h.line) ++ 10 ∷ [])) (sym h.begun) (line h.whole h.line h.begins h.plain);
  begun = refl;
  counting = refl;
}

tells-by : (feed : Bool) (a : Answered) (all : List ℕ) (b : ℕ) → (b == 10) ≡ feed → Tells a all → Tells (after_by feed (a.counting && is_ascii_digit b) a b) (all ++ b ∷ [])
tells-by true a all b e h = ends (a.counting && is_ascii_digit b) a all b (eqb-true b 10 e) h
tells-by false a all b e h = goes-on (a.counting && is_ascii_digit b) a all b refl e h

pub tells-next : (a : Answered) (all : List ℕ) (b : ℕ) → Tells a all → Tells (after a b) (all ++ b ∷ [])
tells-next a all b h = tells-by (b == 10) a all b refl h
