-- Where pieces begin and end.
use Rattle.std.specs.Prelude.{◌==◌, not}
use Rattle.std.specs.List.{list_all}
use Rattle.std.proofs.Common.{◌≡◌, Bool, true, false, cond, ℕ, ◌≤◌, List, [], ◌∷◌, ◌++◌, length, refl, arith}
use Rattle.std.specs.Prelude.{Err}
use Rattle.pcm_line.specs.declared.error.LineError.TheVariants.{Long}
use Rattle.pcm_line.specs.Pieces.{onto_first, pieces_of, place_at}
use Rattle.pcm_line.specs.Reading.{read_end}

abbrev pub onto : List ℕ → List (List ℕ) → List (List ℕ)
onto front [] = front ∷ []
onto front (piece ∷ others) = (front ++ piece) ∷ others

onto-onto_first : (b : ℕ) (pieces : List (List ℕ)) → onto [] (onto_first b pieces) ≡ onto_first b pieces
onto-onto_first b [] = refl
onto-onto_first b (piece ∷ others) = refl

onto-cond : (t : Bool) (x y : List (List ℕ)) → onto [] x ≡ x → onto [] y ≡ y → onto [] (cond t x y) ≡ cond t x y
onto-cond true x y p q = p
onto-cond false x y p q = q

-- a line has at least one piece
pub onto-nil : (bytes : List ℕ) → onto [] (pieces_of bytes) ≡ pieces_of bytes
onto-nil [] = refl
onto-nil (b ∷ bytes) = onto-cond (b == 32) ([] ∷ pieces_of bytes) (onto_first b (pieces_of bytes)) refl (onto-onto_first b (pieces_of bytes))

some_first : (pieces : List (List ℕ)) → onto [] pieces ≡ pieces → (p : List ℕ) × (ps : List (List ℕ)) × (pieces ≡ p ∷ ps)
some_first [] e = absurd cc
some_first (p ∷ ps) e = (p, ps, refl)

pub first_piece : (bytes : List ℕ) → (p : List ℕ) × (ps : List (List ℕ)) × (pieces_of bytes ≡ p ∷ ps)
first_piece bytes = some_first (pieces_of bytes) (onto-nil bytes)

pub end-more : (at : ℕ) (rest : List ℕ) → 1 ≤ length rest → read_end (place_at at rest) ≡ Err (Long at)
end-more at [] le = absurd (omega arith)
end-more at (b ∷ rest) le =
    let f = first_piece rest in
    rw f.2 refl

abbrev pub no_space : List ℕ → Bool
no_space p = list_all (λ b. not (b == 32)) p
