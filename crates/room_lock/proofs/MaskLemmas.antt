-- The mask of clients of two lists.
use Rattle.std.proofs.Common.{◌≡◌, ℕ, List, [], ◌∷◌, ◌++◌, max, ◌^◌, sym, ap, ◌∙◌, arith}
use Rattle.std.proofs.lemmas.Nat.Bits.{bit_at_or, same_from_bits}
use Rattle.std.specs.Int.{bit_at}
use Rattle.std.specs.Int.Bits.{or_zero_l}
use Rattle.std.specs.Int.RustNames.{bit_or}
use Rattle.pcm_base.specs.declared.ids.ClientId.{ClientId}
use Rattle.pcm_base.specs.model.Sleep.{mask_of}

or_assoc : (a b c : ℕ) → bit_or a (bit_or b c) ≡ bit_or (bit_or a b) c
or_assoc a b c =
    same_from_bits _ _ (λ i.
    let left : bit_at (bit_or a (bit_or b c)) i ≡ max (bit_at a i) (max (bit_at b i) (bit_at c i)) =
    bit_at_or a (bit_or b c) i ∙ ap (max (bit_at a i)) (bit_at_or b c i) in
    let right : bit_at (bit_or (bit_or a b) c) i ≡ max (max (bit_at a i) (bit_at b i)) (bit_at c i) =
    bit_at_or (bit_or a b) c i ∙ ap (λ n. max n (bit_at c i)) (bit_at_or a b i) in
    omega arith)

pub mask_of-append : (cs ds : List ClientId) → mask_of (cs ++ ds) ≡ bit_or (mask_of cs) (mask_of ds)
mask_of-append [] ds = sym (or_zero_l (mask_of ds))
mask_of-append (c ∷ cs) ds = ap (bit_or (2 ^ c.0)) (mask_of-append cs ds) ∙ or_assoc (2 ^ c.0) (mask_of cs) (mask_of ds)
