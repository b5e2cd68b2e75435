-- What a pass has seen grows with each page that it reads and each receipt.
use Rattle.std.proofs.Common.{◌≡◌, ◌≢◌, inl, inr, ℕ, zero, Bool, true, false, max, nat_eq, if◌then◌else◌, suc, ◌+◌, ◌<◌, List, [], ◌∷◌, ◌++◌, length, get_or, replicate, refl, sym, ap, ◌∙◌, subst, arith}
use Rattle.std.proofs.Math.ListN.{set}
use Rattle.std.proofs.lemmas.Bool.Decides.{nat_tests}
use Rattle.std.proofs.lemmas.List.{get_or-set_same, get_or-set_other, length-set}
use Rattle.floor_rule.specs.declared.rule.PassKnows.{PassKnows}
use Rattle.floor_rule.specs.declared.rule.Reading.{Reading}
use Rattle.room_parts.specs.Seen.{Remembers, most_answered, most_read, seen_of}

one_more : (b : Bool) (x n m k : ℕ) → n ≡ max m k → (if b then max x n else n) ≡ max (if b then max x m else m) k
one_more true x n m k e = omega (arith, e)
one_more false x n m k e = e

none_more : (b : Bool) (x n m : ℕ) → n ≡ m → (if b then max x n else n) ≡ (if b then max x m else m)
none_more b x n m e = ap (λ k. if b then max x k else k) e

chosen : (b : Bool) (k : ℕ) → b ≡ true → (if b then max k 0 else 0) ≡ max 0 k
chosen true k e = omega arith
chosen false k e = absurd (cc)

skipped : (b : Bool) (k : ℕ) → b ≡ false → (if b then max k 0 else 0) ≡ 0
skipped true k e = absurd (cc)
skipped false k e = refl

read_more : (s : ℕ) (rs : List Reading) (r : Reading) → nat_eq r.sub s ≡ true → most_read s (rs ++ r ∷ []) ≡ max (most_read s rs) r.count
read_more s [] r e = chosen (nat_eq r.sub s) r.count e
read_more s (x ∷ rs) r e = one_more (nat_eq x.sub s) x.count (most_read s (rs ++ r ∷ [])) (most_read s rs) r.count (read_more s rs r e)

read_other : (s : ℕ) (rs : List Reading) (r : Reading) → nat_eq r.sub s ≡ false → most_read s (rs ++ r ∷ []) ≡ most_read s rs
read_other s [] r e = skipped (nat_eq r.sub s) r.count e
read_other s (x ∷ rs) r e = none_more (nat_eq x.sub s) x.count (most_read s (rs ++ r ∷ [])) (most_read s rs) (read_other s rs r e)

answered_more : (s : ℕ) (rs : List (ℕ × ℕ)) (r : ℕ × ℕ) → nat_eq r.0 s ≡ true → most_answered s (rs ++ r ∷ []) ≡ max (most_answered s rs) (r.1 + 1)
answered_more s [] r e = chosen (nat_eq r.0 s) (r.1 + 1) e
answered_more s (x ∷ rs) r e = one_more (nat_eq x.0 s) (x.1 + 1) (most_answered s (rs ++ r ∷ [])) (most_answered s rs) (r.1 + 1) (answered_more s rs r e)

answered_other : (s : ℕ) (rs : List (ℕ × ℕ)) (r : ℕ × ℕ) → nat_eq r.0 s ≡ false → most_answered s (rs ++ r ∷ []) ≡ most_answered s rs
answered_other s [] r e = skipped (nat_eq r.0 s) (r.1 + 1) e
answered_other s (x ∷ rs) r e = none_more (nat_eq x.0 s) (x.1 + 1) (most_answered s (rs ++ r ∷ [])) (most_answered s rs) (answered_other s rs r e)

-- a table that is raised at one substream
raised : (table now : List ℕ) (k count : ℕ) (p q : PassKnows) → k < length table → now ≡ set table k (max (get_or table k 0) count) → Remembers table p → seen_of k q ≡ max (seen_of k p) count → ((s : ℕ) → nat_eq k s ≡ false → seen_of s q ≡ seen_of s p) → (s : ℕ) (b : Bool) → nat_eq k s ≡ b → get_or now s 0 ≡ seen_of s q
raised table now k count p q lt is h same other s true e =
    let at : k ≡ s = grind (arith, nat_tests, e) in
    let here : get_or now k 0 ≡ seen_of k q = ap (λ (l : List ℕ). get_or l k 0) is ∙ get_or-set_same table k (max (get_or table k 0) count) 0 lt ∙ ap (λ x. max x count) (h k) ∙ sym same in
    subst (λ (j : ℕ). get_or now j 0 ≡ seen_of j q) at here
raised table now k count p q lt is h same other s false e =
    let off : s ≢ k = λ at. grind (arith, nat_tests, e, at) in
    ap (λ (l : List ℕ). get_or l s 0) is ∙ get_or-set_other table k s (max (get_or table k 0) count) 0 off ∙ h s ∙ sym (other s e)

itself : (k : ℕ) → nat_eq k k ≡ true
itself k = grind (arith, nat_tests)

-- the pass has read a page
pub remembers_page : (table now : List ℕ) (p q : PassKnows) (r : Reading) (k count : ℕ) → k ≡ r.sub → count ≡ r.count → length table ≡ 256 → k < 256 → now ≡ set table k (max (get_or table k 0) count) → q.reads ≡ p.reads ++ r ∷ [] → q.receipts ≡ p.receipts → Remembers table p → (length now ≡ 256) × Remembers now q
remembers_page table now p q r k count at is_count size lt is reads receipts h = (
  ap length is ∙ length-set table k (max (get_or table k 0) count) ∙ size,
  λ s.
      let same : seen_of k q ≡ max (seen_of k p) count =
      let m : most_read k q.reads ≡ max (most_read k p.reads) r.count = ap (most_read k) reads ∙ read_more k p.reads r (subst (λ (j : ℕ). nat_eq r.sub j ≡ true) (sym at) (itself r.sub)) in
      let a : most_answered k q.receipts ≡ most_answered k p.receipts = ap (most_answered k) receipts in
      omega (arith, m, a, is_count) in
      let other : (j : ℕ) → nat_eq k j ≡ false → seen_of j q ≡ seen_of j p = λ j e.
      let m : most_read j q.reads ≡ most_read j p.reads = ap (most_read j) reads ∙ read_other j p.reads r (subst (λ (x : ℕ). nat_eq x j ≡ false) at e) in
      let a : most_answered j q.receipts ≡ most_answered j p.receipts = ap (most_answered j) receipts in
      omega (arith, m, a) in
      raised table now k count p q (subst (λ n. k < n) (sym size) lt) is h same other s (nat_eq k s) refl,
)

-- a call of the pass has its receipt
pub remembers_receipt : (table now : List ℕ) (p q : PassKnows) (r : ℕ × ℕ) (k count : ℕ) → k ≡ r.0 → count ≡ r.1 + 1 → length table ≡ 256 → k < 256 → now ≡ set table k (max (get_or table k 0) count) → q.reads ≡ p.reads → q.receipts ≡ p.receipts ++ r ∷ [] → Remembers table p → (length now ≡ 256) × Remembers now q
remembers_receipt table now p q r k count at is_count size lt is reads receipts h = (
  ap length is ∙ length-set table k (max (get_or table k 0) count) ∙ size,
  λ s.
      let same : seen_of k q ≡ max (seen_of k p) count =
      let m : most_answered k q.receipts ≡ max (most_answered k p.receipts) (r.1 + 1) = ap (most_answered k) receipts ∙ answered_more k p.receipts r (subst (λ (j : ℕ). nat_eq r.0 j ≡ true) (sym at) (itself r.0)) in
      let a : most_read k q.reads ≡ most_read k p.reads = ap (most_read k) reads in
      omega (arith, m, a, is_count) in
      let other : (j : ℕ) → nat_eq k j ≡ false → seen_of j q ≡ seen_of j p = λ j e.
      let m : most_answered j q.receipts ≡ most_answered j p.receipts = ap (most_answered j) receipts ∙ answered_other j p.receipts r (subst (λ (x : ℕ). nat_eq x j ≡ false) at e) in
      let a : most_read j q.reads ≡ most_read j p.reads = ap (most_read j) reads in
      omega (arith, m, a) in
      raised table now k count p q (subst (λ n. k < n) (sym size) lt) is h same other s (nat_eq k s) refl,
)

-- what it is told is nothing that it has seen
pub remembers_told : (table : List ℕ) (p q : PassKnows) → q.reads ≡ p.reads → q.receipts ≡ p.receipts → Remembers table p → Remembers table q
remembers_told table p q reads receipts h = λ s. h s ∙ sym (λ i. max (most_read s (reads i)) (most_answered s (receipts i)))

zeros : (n s : ℕ) → ◌≡◌ {A = ℕ} (get_or (replicate n 0) s 0) 0
zeros zero s = refl
zeros (suc n) zero = refl
zeros (suc n) (suc s) = zeros n s

-- a new pass has seen nothing
pub remembers_none : (n : ℕ) (p : PassKnows) → p.reads ≡ [] → p.receipts ≡ [] → Remembers (replicate n 0) p
remembers_none n p reads receipts = λ s. zeros n s ∙ sym (λ i. max (most_read s (reads i)) (most_answered s (receipts i)))
