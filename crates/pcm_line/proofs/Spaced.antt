-- Pieces behind a text, each after a space.
use Rattle.std.proofs.Common.{◌≡◌, ℕ, List, [], ◌∷◌, ◌++◌, sym, ◌∙◌, ap, append_assoc}
use Rattle.std.specs.Prelude.{Result, Ok, Err, OnOk, is_ok, if◌then◌else◌}
use Rattle.std.specs.declared.alloc.AllocError.{AllocError}
use Rattle.std.proofs.lemmas.List.{append-nil}
use Rattle.pcm_line.specs.Pieces.{joined}

abbrev pub spaced : List (List ℕ) → List ℕ
spaced [] = []
spaced (piece ∷ others) = 32 ∷ (piece ++ spaced others)

pub joined-spaced : (old : List ℕ) (pieces : List (List ℕ)) → joined old pieces ≡ old ++ spaced pieces
joined-spaced old [] = sym (append-nil old)
joined-spaced old (piece ∷ others) = joined-spaced (old ++ 32 ∷ piece) others ∙ append_assoc old (32 ∷ piece) (spaced others)

-- what stands in front of all pieces stands in front of the first
pub joined-onto : (old first : List ℕ) (pieces : List (List ℕ)) → joined (old ++ first) pieces ≡ old ++ joined first pieces
joined-onto old first pieces =
    joined-spaced (old ++ first) pieces ∙ append_assoc old first (spaced pieces) ∙ ap (λ t. old ++ t) (sym (joined-spaced first pieces))

-- what was put behind a text are these pieces
pub pushed : (r : Result (Unit {0}) AllocError) (old part new : List ℕ) (pieces : List (List ℕ)) → new ≡ (if is_ok r then old ++ part else old) → part ≡ spaced pieces → OnOk r (new ≡ joined old pieces)
pushed (Ok u) old part new pieces put is = put ∙ ap (λ t. old ++ t) is ∙ sym (joined-spaced old pieces)
pushed (Err e) old part new pieces put is = tt

pub on-ok : {P Q : Type 0} (r : Result (Unit {0}) AllocError) → (P → Q) → OnOk r P → OnOk r Q
on-ok (Ok u) f p = f p
on-ok (Err e) f p = tt
