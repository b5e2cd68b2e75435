-- A group that another substream may join has a seat left.
use Rattle.std.proofs.Common.{◌≡◌, ◌≢◌, ◌<◌, ◌≤◌, ℕ, suc, Bool, true, false, ◌||◌, nat_eq, eqb, eqb-true, ne_eqb, List, [], ◌∷◌, length, map, refl, sym, subst, arith}
use Rattle.std.specs.List.{list_any, AllByRecursion, IsDistinct}
use Rattle.std.proofs.lemmas.Bool.Decides.{nat_tests}
use Rattle.std.proofs.lemmas.Map.Steps.{length-le_from_distinct_below}
use Rattle.pcm_base.specs.declared.ids.SubId.{SubId}
use Rattle.pcm_base.specs.model.Replay.{Distinct, is_member}
use Rattle.room_parts.specs.Recs.{RecView, subs_of}
use Rattle.room_lock.specs.InRoom.{AllPlaced}
use Rattle.room_lock.proofs.Records.{length_map}

others_differ : (j : ℕ) (rs : List RecView) → is_member (record { 0 = j }) (subs_of rs) ≡ false → AllByRecursion (λ (y : ℕ). eqb j y ≡ false) (map (λ (r : RecView). r.knows.sub) rs)
others_differ j [] h = tt
others_differ j (r ∷ rs) h = by (nat_eq r.knows.sub j) refl h (others_differ j rs)
  where
    by : (b : Bool) → nat_eq r.knows.sub j ≡ b → (b || is_member (record { 0 = j }) (subs_of rs)) ≡ false → (is_member (record { 0 = j }) (subs_of rs) ≡ false → AllByRecursion (λ (y : ℕ). eqb j y ≡ false) (map (λ (x : RecView). x.knows.sub) rs))
        → AllByRecursion (λ (y : ℕ). eqb j y ≡ false) (map (λ (x : RecView). x.knows.sub) (r ∷ rs))
    by true e none rest = absurd (let no : ⊥ = cc in no)
    by false e none rest = let ne : j ≢ r.knows.sub = grind (arith, nat_tests, e) in (ne_eqb j r.knows.sub ne, rest none)

distinct : (rs : List RecView) → Distinct (subs_of rs) → IsDistinct eqb (map (λ (r : RecView). r.knows.sub) rs)
unfolding IsDistinct
distinct [] h = tt
distinct (r ∷ rs) h = (others_differ r.knows.sub rs h.0, distinct rs h.1)

below : (number cards : ℕ) (rs : List RecView) → AllPlaced number cards rs → (q : ℕ) → list_any (eqb q) (map (λ (r : RecView). r.knows.sub) rs) ≡ true → q < cards
below number cards [] h q any = absurd (cc)
below number cards (r ∷ rs) h q any = by (eqb q r.knows.sub) refl any (below number cards rs (λ i x at. h (suc i) x at) q)
  where
    by : (b : Bool) → eqb q r.knows.sub ≡ b → (b || list_any (eqb q) (map (λ (x : RecView). x.knows.sub) rs)) ≡ true → (list_any (eqb q) (map (λ (x : RecView). x.knows.sub) rs) ≡ true → q < cards) → q < cards
    by true e t rest = subst (λ (k : ℕ). k < cards) (sym (eqb-true q r.knows.sub e)) (h 0 r refl).1
    by false e t rest = rest t

with_one : (j : ℕ) (rs : List RecView) → Distinct (subs_of rs) → AllByRecursion (λ (y : ℕ). eqb j y ≡ false) (map (λ (r : RecView). r.knows.sub) rs) → IsDistinct eqb (j ∷ map (λ (r : RecView). r.knows.sub) rs)
unfolding IsDistinct
with_one j rs apart h = (h, distinct rs apart)

pub seat_left : (number cards : ℕ) (rs : List RecView) (k : SubId) → Distinct (subs_of rs) → AllPlaced number cards rs → is_member k (subs_of rs) ≡ false → k.0 < cards → cards ≤ 16 → length rs < 16
seat_left number cards rs k apart placed none low few =
    let ns : List ℕ = k.0 ∷ map (λ (r : RecView). r.knows.sub) rs in
    let differ = others_differ k.0 rs none in
    let all : length ns ≤ cards = length-le_from_distinct_below ns cards (with_one k.0 rs apart differ) with_low in
    let size = length_map (λ (r : RecView). r.knows.sub) rs in
    omega (arith, all, size, few)
  where
    with_low : (q : ℕ) → list_any (eqb q) (k.0 ∷ map (λ (r : RecView). r.knows.sub) rs) ≡ true → q < cards
    with_low q any = by (eqb q k.0) refl any
      where
        by : (b : Bool) → eqb q k.0 ≡ b → (b || list_any (eqb q) (map (λ (r : RecView). r.knows.sub) rs)) ≡ true → q < cards
        by true e t = subst (λ (n : ℕ). n < cards) (sym (eqb-true q k.0 e)) low
        by false e t = below number cards rs placed q t
