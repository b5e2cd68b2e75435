-- One round of a loop over pieces: what is left to pass, taken up from where the last piece ended.
use Rattle.std.proofs.Common.{ℕ, ◌≡◌, ◌+◌, ◌-◌, ◌%◌, ◌≤◌, List, ◌++◌, length, take, drop, sym, ap, ◌∙◌, arith, append_assoc, length-append, length-take, length-drop, take-append-drop}
use Rattle.std.proofs.Math.Nat.{mul-mod_left}
use Rattle.std.proofs.lemmas.List.{take_at}
use borrow.Rule.Slice.PartMut.{put_mid}
use Rattle.pcm_base.specs.declared.config.Shape.{Shape}
use Rattle.pcm_base.specs.CardFacts.{CardFacts, took, gave, given_bytes}
use Rattle.indirect_card.specs.Hardware.{Hardware, frames_in, after_passing, bytes_before_end}
use Rattle.indirect_card.proofs.Frames.{put_mid-over, frames-append, rest_whole}
use Rattle.indirect_card.proofs.Passes.{passes_twice}
use Rattle.indirect_card.proofs.Cards.{took_twice, gave_twice, given_twice}

-- a piece up to the buffer's end is whole frames
pub piece_whole : (h : Hardware) (k n : ℕ) → k ≡ n → n ≡ bytes_before_end h → k % h.frame_bytes ≡ 0
piece_whole h k n e f = ap (λ i. i % h.frame_bytes) (e ∙ f) ∙ mul-mod_left (16 - h.passed % 16) h.frame_bytes

-- and what is left then is, too
pub left_whole : (m n k w : ℕ) → m + n ≡ k → m % w ≡ 0 → k % w ≡ 0 → n % w ≡ 0
left_whole m n k w e whole all = sym (rest_whole m n w whole) ∙ (ap (λ i. i % w) e ∙ all)

pub pass_on : (h h' : Hardware) (xs ys all : List ℕ) → h' ≡ after_passing h (frames_in h xs) → xs ++ ys ≡ all → 1 ≤ h.frame_bytes → length xs % h.frame_bytes ≡ 0
    → after_passing h' (frames_in h' ys) ≡ after_passing h (frames_in h all)
pass_on h h' xs ys all after e some whole =
    ap (λ (x : Hardware). after_passing x (frames_in x ys)) after
    ∙ (passes_twice h (frames_in h xs) (frames_in h ys)
    ∙ (ap (after_passing h) (sym (frames-append h.frame_bytes xs ys some whole))
    ∙ ap (λ bytes. after_passing h (frames_in h bytes)) e))

pub take_on : (f f' : CardFacts) (s : Shape) (xs ys all : List ℕ) → f' ≡ took f s xs → xs ++ ys ≡ all → 1 ≤ s.frame_bytes → length xs % s.frame_bytes ≡ 0 → took f' s ys ≡ took f s all
take_on f f' s xs ys all after e some whole =
    ap (λ (x : CardFacts). took x s ys) after ∙ (took_twice f s xs ys some whole ∙ ap (took f s) e)

pub give_on : (f f' : CardFacts) (s : Shape) (m n k : ℕ) → f' ≡ gave f s m → m + n ≡ k → 1 ≤ s.frame_bytes → m % s.frame_bytes ≡ 0 → gave f' s n ≡ gave f s k
give_on f f' s m n k after e some whole =
    ap (λ (x : CardFacts). gave x s n) after ∙ (gave_twice f s m n some whole ∙ ap (gave f s) e)

pub cut_length : (at n : ℕ) (out : List ℕ) → at + n ≤ length out → length (take (at + n - at) (drop at out)) ≡ n
cut_length at n out h = length-take (at + n - at) (drop at out) ∙ omega (arith, length-drop at out)

pub length-put : (at n : ℕ) (out piece : List ℕ) → at + n ≤ length out → length piece ≡ n → length (put_mid at (at + n - at) out piece) ≡ length out
length-put at n out piece h e =
    ap length (put_mid-over at n out piece e)
    ∙ (length-append (take at out) (piece ++ drop (at + length piece) out)
    ∙ omega (arith, length-append piece (drop (at + length piece) out), length-take at out, length-drop (at + length piece) out, h, e))

pub take-put : (at n : ℕ) (out piece : List ℕ) → at + n ≤ length out → length piece ≡ n → take (at + n) (put_mid at (at + n - at) out piece) ≡ take at out ++ piece
take-put at n out piece h e =
    let front : length (take at out ++ piece) ≡ at + n = length-append (take at out) piece ∙ omega (arith, length-take at out, h, e) in
    ap (take (at + n)) (put_mid-over at n out piece e ∙ sym (append_assoc (take at out) piece (drop (at + length piece) out)))
    ∙ take_at (take at out ++ piece) (drop (at + length piece) out) (at + n) front

pub given_on : (piece to_give to_give' : List ℕ) (m n k : ℕ) → piece ≡ given_bytes m to_give → to_give' ≡ drop m to_give → m + n ≡ k → piece ++ given_bytes n to_give' ≡ given_bytes k to_give
given_on piece to_give to_give' m n k e f sum =
    ap (λ xs. xs ++ given_bytes n to_give') e
    ∙ (ap (λ xs. given_bytes m to_give ++ given_bytes n xs) f
    ∙ (sym (given_twice m n to_give) ∙ ap (λ i. given_bytes i to_give) sum))

pub given_next : (at n : ℕ) (out piece to_give to_give' : List ℕ) → at + n ≤ length out → length piece ≡ n → piece ++ given_bytes (length out - (at + n)) to_give' ≡ given_bytes (length out - at) to_give
    → take (at + n) (put_mid at (at + n - at) out piece) ++ given_bytes (length (put_mid at (at + n - at) out piece) - (at + n)) to_give' ≡ take at out ++ given_bytes (length out - at) to_give
given_next at n out piece to_give to_give' h e next =
    let rest : List ℕ = given_bytes (length out - (at + n)) to_give' in
    ap (λ k. take (at + n) (put_mid at (at + n - at) out piece) ++ given_bytes (k - (at + n)) to_give') (length-put at n out piece h e)
    ∙ (ap (λ xs. xs ++ given_bytes (length out - (at + n)) to_give') (take-put at n out piece h e)
    ∙ (append_assoc (take at out) piece rest ∙ ap (λ xs. take at out ++ xs) next))

pub halves : (k : ℕ) (xs front back : List ℕ) → front ≡ take k xs → back ≡ drop k xs → front ++ back ≡ xs
halves k xs front back e f = ap (λ ys. ys ++ back) e ∙ (ap (λ ys. take k xs ++ ys) f ∙ take-append-drop k xs)
