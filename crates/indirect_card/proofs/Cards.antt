-- What a card takes and gives in two pieces is what it takes and gives in one.
use Rattle.std.proofs.Common.{ℕ, zero, suc, ◌≡◌, ◌+◌, ◌-◌, ◌/◌, ◌%◌, ◌≤◌, List, [], ◌∷◌, ◌++◌, length, take, drop, replicate, refl, sym, ap, ◌∙◌, subst, arith, append_assoc, length-append, length-take, IfSome, IsSome}
use Rattle.std.proofs.Math.Nat.{mod-add-mod}
use Rattle.std.proofs.lemmas.List.{drop-drop, length-replicate, replicate-append-replicate}
use Rattle.std.proofs.Math.Seq.{take-nil, drop-nil}
use Rattle.std.specs.Option.{ForSome}
use Rattle.std.specs.declared.option.Option.{Option}
use Rattle.std.specs.declared.option.Option.TheVariants.{Some, None}
use Rattle.pcm_base.specs.declared.config.Shape.{Shape}
use Rattle.pcm_base.specs.CardFacts.{CardFacts, took, gave, given_bytes}
use Rattle.indirect_card.proofs.Frames.{count-add}

-- what a clause says of the value in a `Some`, in its two forms
pub for_some : {A : Type 0} (P : A → Type 0) (o : Option A) → IfSome o P → ForSome o P
for_some {A} P o h = λ a e. subst (λ (x : Option A). IfSome x P) e h

pub if_some : {A : Type 0} (P : A → Type 0) (o : Option A) → ForSome o P → IfSome o P
if_some P None h = tt {0}
if_some P (Some a) h = h a refl

-- sums round the buffer
advanced_twice : (b p m n : ℕ) → ((p + m) % b + n) % b ≡ (p + (m + n)) % b
advanced_twice b p m n =
    let sum : p + m + n ≡ p + (m + n) = omega arith in
    mod-add-mod (p + m) b n ∙ ap (λ k. k % b) sum

pub took_twice : (f : CardFacts) (s : Shape) (xs ys : List ℕ) → 1 ≤ s.frame_bytes → length xs % s.frame_bytes ≡ 0 → took (took f s xs) s ys ≡ took f s (xs ++ ys)
took_twice f s xs ys some whole =
    let count : length xs / s.frame_bytes + length ys / s.frame_bytes ≡ length (xs ++ ys) / s.frame_bytes =
    sym (ap (λ n. n / s.frame_bytes) (length-append xs ys) ∙ count-add (length xs) (length ys) s.frame_bytes some whole) in
    let there : ((f.position + length xs / s.frame_bytes) % s.buffer + length ys / s.frame_bytes) % s.buffer ≡ (f.position + length (xs ++ ys) / s.frame_bytes) % s.buffer =
    advanced_twice s.buffer f.position (length xs / s.frame_bytes) (length ys / s.frame_bytes) ∙ ap (λ n. (f.position + n) % s.buffer) count in
    ap (λ p. record f { position = p; taken = f.taken ++ xs ++ ys }) there
    ∙ ap (λ t. record f { position = (f.position + length (xs ++ ys) / s.frame_bytes) % s.buffer; taken = t }) (append_assoc f.taken xs ys)

pub gave_twice : (f : CardFacts) (s : Shape) (m n : ℕ) → 1 ≤ s.frame_bytes → m % s.frame_bytes ≡ 0 → gave (gave f s m) s n ≡ gave f s (m + n)
gave_twice f s m n some whole =
    let count : m / s.frame_bytes + n / s.frame_bytes ≡ (m + n) / s.frame_bytes = sym (count-add m n s.frame_bytes some whole) in
    let there : ((f.position + m / s.frame_bytes) % s.buffer + n / s.frame_bytes) % s.buffer ≡ (f.position + (m + n) / s.frame_bytes) % s.buffer =
    advanced_twice s.buffer f.position (m / s.frame_bytes) (n / s.frame_bytes) ∙ ap (λ k. (f.position + k) % s.buffer) count in
    ap (λ p. record f { position = p; to_give = drop n (drop m f.to_give) }) there
    ∙ ap (λ t. record f { position = (f.position + (m + n) / s.frame_bytes) % s.buffer; to_give = t }) (drop-drop n m f.to_give)

given_none : (k : ℕ) → given_bytes k [] ≡ replicate k 0
given_none k =
    let all : k - length {A = ℕ} [] ≡ k = omega arith in
    ap (λ xs. xs ++ replicate (k - length {A = ℕ} []) 0) (take-nil k) ∙ ap (λ n. replicate n 0) all

given_more : (k x : ℕ) (xs : List ℕ) → given_bytes (suc k) (x ∷ xs) ≡ x ∷ given_bytes k xs
given_more k x xs =
    let less : suc k - suc (length xs) ≡ k - length xs = omega arith in
    ap (λ n. x ∷ (take k xs ++ replicate n 0)) less

pub given_twice : (m n : ℕ) (xs : List ℕ) → given_bytes (m + n) xs ≡ given_bytes m xs ++ given_bytes n (drop m xs)
given_twice m n [] =
    given_none (m + n)
    ∙ (sym (replicate-append-replicate m n 0)
    ∙ (ap (λ xs. xs ++ replicate n 0) (sym (given_none m))
    ∙ ap (λ xs. given_bytes m [] ++ xs) (sym (ap (given_bytes n) (drop-nil m) ∙ given_none n))))
given_twice zero n (x ∷ xs) =
    let none : 0 + n ≡ n = omega arith in
    let nothing : 0 - suc (length xs) ≡ 0 = omega arith in
    ap (λ k. given_bytes k (x ∷ xs)) none ∙ ap (λ k. replicate k 0 ++ given_bytes n (x ∷ xs)) (sym nothing)
given_twice (suc m) n (x ∷ xs) =
    let next : suc m + n ≡ suc (m + n) = omega arith in
    ap (λ k. given_bytes k (x ∷ xs)) next
    ∙ (given_more (m + n) x xs
    ∙ (ap (λ ys. x ∷ ys) (given_twice m n xs)
    ∙ ap (λ ys. ys ++ given_bytes n (drop m xs)) (sym (given_more m x xs))))

pub length-given : (n : ℕ) (xs : List ℕ) → length (given_bytes n xs) ≡ n
length-given n xs = length-append (take n xs) (replicate (n - length xs) 0) ∙ omega (arith, length-take n xs, length-replicate {A = ℕ} (n - length xs) 0)

-- a value that is there
pub is_there : {A : Type 0} (o : Option A) → IsSome o → (a : A) × (o ≡ Some a)
is_there None h = cc
is_there (Some a) h = (a, refl)
