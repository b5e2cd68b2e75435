-- What words ask for: one thing at most; how many words each form has, and which five there are.
use Rattle.std.proofs.Common.{◌≡◌, ℕ, ◌<◌, ◌≤◌, Bool, true, false, List, [], ◌∷◌, length, get_or, Some, None, refl, sym, ◌∙◌, ap, subst, arith}
use Rattle.std.specs.declared.option.Option.{Option}
use Rattle.std.proofs.lemmas.Fmt.{decimal_injective}
use Rattle.pcm_top.specs.declared.command.Command.{Command}
use Rattle.pcm_top.specs.declared.request.Request.{Request}
use Rattle.pcm_top.specs.declared.request.Request.TheVariants as request
use Rattle.pcm_top.specs.Request.{Asks, IsNumber, asked}

-- There are one, two, four or five.
pub record HasFormLength (n : ℕ) : Type 0 where
  pub some : 1 ≤ n
  pub not_three : n ≡ 3 → ⊥
  pub few : n ≤ 5

pub asks-length : (words : List (List ℕ)) (r : Request) → Asks words r → HasFormLength (length words)
asks-length [] (request.Script command) asks = absurd cc
asks-length (word ∷ []) (request.Script command) asks = record { some = omega arith; not_three = λ e. omega arith; few = omega arith }
asks-length (word ∷ more ∷ rest) (request.Script command) asks = absurd cc
asks-length words (request.Play from to period periods) asks = let n = ap length asks.2 in record { some = omega arith; not_three = λ e. omega arith; few = omega arith }
asks-length words (request.Capture from to frames) asks = let n = ap length asks.1 in record { some = omega arith; not_three = λ e. omega arith; few = omega arith }
asks-length words (request.Gen number) asks = let n = ap length asks.1 in record { some = omega arith; not_three = λ e. omega arith; few = omega arith }

-- a list of five has these elements
pub five_are : {A : Type 0} (xs : List A) (a b c d e : A) → 5 ≤ length xs → length xs < 6
    → a ≡ get_or xs 0 a → b ≡ get_or xs 1 b → c ≡ get_or xs 2 c → d ≡ get_or xs 3 d → e ≡ get_or xs 4 e → xs ≡ a ∷ b ∷ c ∷ d ∷ e ∷ []
five_are [] a b c d e least most first second third fourth fifth = absurd (omega arith)
five_are (p ∷ []) a b c d e least most first second third fourth fifth = absurd (omega arith)
five_are (p ∷ q ∷ []) a b c d e least most first second third fourth fifth = absurd (omega arith)
five_are (p ∷ q ∷ r ∷ []) a b c d e least most first second third fourth fifth = absurd (omega arith)
five_are (p ∷ q ∷ r ∷ s ∷ []) a b c d e least most first second third fourth fifth = absurd (omega arith)
five_are (p ∷ q ∷ r ∷ s ∷ t ∷ []) a b c d e least most first second third fourth fifth = cc
five_are (p ∷ q ∷ r ∷ s ∷ t ∷ u ∷ rest) a b c d e least most first second third fourth fifth = absurd (omega arith)

-- ---- words ask for one thing

one-number : (word : List ℕ) (m n : ℕ) → IsNumber word m → IsNumber word n → m ≡ n
one-number word m n a b = decimal_injective m n (omega (arith, a.small)) (omega (arith, b.small)) (sym a.spelled ∙ b.spelled)

one-number-of : (v w : List ℕ) (m n : ℕ) → v ≡ w → IsNumber v m → IsNumber w n → m ≡ n
one-number-of v w m n e a b = one-number w m n (subst (λ (x : List ℕ). IsNumber x m) e a) b

-- the words of a script are none of another form
script-alone : (words : List (List ℕ)) (command : Command) → asked words ≡ Some command → length words ≡ 1
script-alone [] command e = absurd cc
script-alone (word ∷ []) command e = refl
script-alone (word ∷ more ∷ rest) command e = absurd cc

pub one-request : (words : List (List ℕ)) (q r : Request) → Asks words q → Asks words r → q ≡ r
one-request words (request.Script c) (request.Script d) a b = let e : Some c ≡ Some d = sym a ∙ b in cc
one-request words (request.Script c) (request.Play from to period periods) a b = absurd (omega (arith, script-alone words c a, ap length b.2))
one-request words (request.Script c) (request.Capture from to frames) a b = absurd (omega (arith, script-alone words c a, ap length b.1))
one-request words (request.Script c) (request.Gen n) a b = absurd (omega (arith, script-alone words c a, ap length b.1))
one-request words (request.Play from to period periods) (request.Script d) a b = absurd (omega (arith, script-alone words d b, ap length a.2))
one-request words (request.Play from to period periods) (request.Play from' to' period' periods') a b =
    let e = sym a.2 ∙ b.2 in
    let first : from ≡ from' = cc in
    let second : to ≡ to' = cc in
    let third : a.0 ≡ b.0 = cc in
    let fourth : a.1 ≡ b.1 = cc in
    let m = one-number-of a.0 b.0 period period' third a.4 b.4 in
    let n = one-number-of a.1 b.1 periods periods' fourth a.5 b.5 in
    cc
one-request words (request.Play from to period periods) (request.Capture from' to' frames) a b = absurd (omega (arith, ap length a.2, ap length b.1))
one-request words (request.Play from to period periods) (request.Gen n) a b = absurd (omega (arith, ap length a.2, ap length b.1))
one-request words (request.Capture from to frames) (request.Script d) a b = absurd (omega (arith, script-alone words d b, ap length a.1))
one-request words (request.Capture from to frames) (request.Play from' to' period periods) a b = absurd (omega (arith, ap length a.1, ap length b.2))
one-request words (request.Capture from to frames) (request.Capture from' to' frames') a b =
    let e = sym a.1 ∙ b.1 in
    let first : from ≡ from' = cc in
    let second : to ≡ to' = cc in
    let third : a.0 ≡ b.0 = cc in
    let n = one-number-of a.0 b.0 frames frames' third a.3 b.3 in
    cc
one-request words (request.Capture from to frames) (request.Gen n) a b = absurd (omega (arith, ap length a.1, ap length b.1))
one-request words (request.Gen n) (request.Script d) a b = absurd (omega (arith, script-alone words d b, ap length a.1))
one-request words (request.Gen n) (request.Play from to period periods) a b = absurd (omega (arith, ap length a.1, ap length b.2))
one-request words (request.Gen n) (request.Capture from to frames) a b = absurd (omega (arith, ap length a.1, ap length b.1))
one-request words (request.Gen m) (request.Gen n) a b =
    let e = sym a.1 ∙ b.1 in
    let first : a.0 ≡ b.0 = cc in
    let same = one-number-of a.0 b.0 m n first a.2 b.2 in
    cc

-- they ask for no script where they ask for something else, or for nothing
abbrev pub is_script : Request → Bool
is_script (request.Script c) = true
is_script _ = false

pub none-asked : (words : List (List ℕ)) → ((c : Command) → Asks words (request.Script c) → ⊥) → asked words ≡ None
none-asked words never = by (asked words) (λ c e. never c e)
  where
    by : (o : Option Command) → ((c : Command) → o ≡ Some c → ⊥) → o ≡ None
    by None never = refl
    by (Some c) never = absurd (never c refl)

pub other-asked : (words : List (List ℕ)) (r : Request) → is_script r ≡ false → Asks words r → asked words ≡ None
other-asked words r other asks = none-asked words (λ c a. let same = one-request words (request.Script c) r a asks in let no : true ≡ false = ap is_script same ∙ other in absurd cc)
