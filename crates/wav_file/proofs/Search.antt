-- A search along the chunks: what is left has the same first chunk that the search stops at.
use Rattle.std.proofs.Common.{◌≡◌, ℕ, ◌+◌, ◌%◌, ◌<◌, ◌≤◌, Bool, true, false, List, [], ◌∷◌, length, drop, refl, sym, ap, subst, ◌∙◌, arith}
use Rattle.std.proofs.lemmas.List.{length-drop}
use Rattle.wav_file.specs.Chunks.{Place, AreChunks, from_first, next_place, past_chunk, size_at}

pub from_first-yes : (test : List ℕ → Bool) (c : Place) (cs : List Place) → test c.bytes ≡ true → from_first test (c ∷ cs) ≡ c ∷ cs
from_first-yes test c cs passes = rw passes refl

pub from_first-no : (test : List ℕ → Bool) (c : Place) (cs : List Place) → test c.bytes ≡ false → from_first test (c ∷ cs) ≡ from_first test cs
from_first-no test c cs fails = rw fails refl

pub stops_here : (test : List ℕ → Bool) (p : Place) (left : List Place) → AreChunks p left → 8 ≤ length p.bytes → test p.bytes ≡ true → AreChunks p (from_first test left)
stops_here test p [] are long passes = absurd (omega arith)
stops_here test p (c ∷ cs) are long passes =
    subst (AreChunks p) (sym (from_first-yes test c cs (ap (λ (q : Place). test q.bytes) are.1 ∙ passes))) are

pub goes_on : (test : List ℕ → Bool) (p : Place) (left : List Place) → AreChunks p left → 8 ≤ length p.bytes → test p.bytes ≡ false → (rest : List Place) × AreChunks (next_place p) rest × (from_first test rest ≡ from_first test left)
goes_on test p [] are long fails = absurd (omega arith)
goes_on test p (c ∷ cs) are long fails =
    (cs, are.2, sym (from_first-no test c cs (ap (λ (q : Place). test q.bytes) are.1 ∙ fails)))

pub ends_here : (test : List ℕ → Bool) (p : Place) (left : List Place) → AreChunks p left → length p.bytes < 8 → from_first test left ≡ []
ends_here test p [] are short = refl
ends_here test p (c ∷ cs) are short = absurd (omega (arith, are.0))

pub ends_past : (test : List ℕ → Bool) (p : Place) (left : List Place) → AreChunks p left → 8 ≤ length p.bytes → test p.bytes ≡ false → length p.bytes < past_chunk p.bytes → from_first test left ≡ []
ends_past test p left are long fails past =
    let on = goes_on test p left are long fails in
    sym on.2 ∙ ends_here test (next_place p) on.0 on.1 (omega (arith, length-drop (past_chunk p.bytes) p.bytes))

-- the place that the loop goes on to
pub next_place_is : (p : Place) (size : ℕ) (bytes : List ℕ) → size ≡ size_at p.bytes → bytes ≡ drop (8 + size + size % 2) p.bytes → next_place p ≡ record { at = p.at + (8 + size + size % 2); bytes = bytes }
next_place_is p size bytes is rest = rw (rest, is) refl
