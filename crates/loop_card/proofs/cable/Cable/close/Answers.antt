use Rattle.std.proofs.Common.{ℕ, ◌≡◌, ◌+◌, ◌≤◌, ◌<◌, ◌⊎◌, inl, inr, List, ◌++◌, length, take, refl, sym, ap, ◌∙◌, arith, length-append, length-take}
use Rattle.std.proofs.lemmas.Bool.{cases_lt}
use Rattle.std.proofs.lemmas.Grind.{common_steps}
use Rattle.std.proofs.lemmas.List.{take_all, take_at}
use Rattle.rtrb.specs.Ring.{known_items}
use Rattle.loop_card.specs.Ends.{pulled}
use Rattle.loop_card.proofs.cable.Cable.close.Goals as goal

-- a pull into as much room as there are bytes known gives exactly these
all_known : (known out rest t : List ℕ) (n : ℕ) → n ≤ length out → length out ≡ length known → (n < length out → length rest ≡ 0) → known ++ t ≡ take n out ++ rest → out ≡ known
all_known known out rest t n within room fewer e = by_count (cases_lt n (length out))
  where
    sizes : length known + length t ≡ length (take n out) + length rest
    sizes = sym (length-append known t) ∙ (ap length e ∙ length-append (take n out) rest)

    by_count : (n < length out) ⊎ (length out ≤ n) → out ≡ known
    by_count (inl less) = absurd (omega (arith, sizes, length-take n out, fewer less))
    by_count (inr all) =
        let whole : take n out ≡ out = take_all n out all in
        let same : known ++ t ≡ out ++ rest = e ∙ ap (λ xs. xs ++ rest) whole in
        sym (take_at out rest (length known) room) ∙ (ap (take (length known)) (sym same) ∙ take_at known t (length known) refl)

pub returns : goal.returns
returns c =
    let count = c.slots_beside-count in
    let pull = c.pop_partial_slice in
    let room : length pull.new.slice ≡ length (known_items count.new.self) = grind (arith, common_steps, pull.auto.slice, count.ensures.value) in
    let most : pull.result ≤ length pull.new.slice = grind (arith, common_steps, pull.auto.slice, pull.ensures.received) in
    let fewer : pull.result < length pull.new.slice → length (known_items pull.new.self) ≡ 0 = λ h. pull.ensures.most (grind (arith, common_steps, pull.auto.slice, h)) in
    let same : pull.new.slice ≡ known_items count.new.self = all_known _ _ _ _ pull.result most room fewer pull.ensures.known.1 in
    let items : c.try_extend_from_slice.new.self.items ≡ pull.new.slice = grind (arith, common_steps, c.in-Ok.ensures.ok, c.new-rest.ensures, pull.auto.slice, count.ensures.value) in
    ap (λ xs. pulled c.args.output ++ xs) (items ∙ same)
    ∙ (ap (λ xs. xs ++ known_items count.new.self) (sym count.ensures.looked.1)
    ∙ (count.ensures.fifo ∙ count.ensures.producer.1))
