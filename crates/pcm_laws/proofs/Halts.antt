-- The first halt of a write, turn by turn.
use Rattle.std.proofs.Common.{ℕ, ◌≡◌, ◌+◌, ◌-◌, ◌%◌, ◌≤◌, ◌<◌, ◌⊎◌, inl, inr, Bool, true, false, cond, ◌&&◌, List, length, min, refl, sym, ap, ◌∙◌, arith, zero, suc, zero-add}
use Rattle.std.specs.declared.option.Option.{Option}
use Rattle.std.specs.declared.option.Option.TheVariants.{Some, None}
use Rattle.std.specs.Option.{option_map}
use Rattle.std.proofs.lemmas.Grind.{common_steps}
use Rattle.std.proofs.lemmas.Bool.Decides.{nat_tests}
use Rattle.pcm_laws.proofs.Remainders.{add-mod_run, add-mod_end}
use Rattle.pcm_base.specs.model.Frame.{Frame}
use Rattle.pcm_base.specs.model.Stream.{Stream, avail}
use Rattle.pcm_base.specs.model.Transfer.{is_filled, is_halt, least, put_next, starting_halt}
use Rattle.pcm_base.specs.model.Words.{is_prepared}

pub least-step : (i k : ℕ) (t : ℕ → Bool) → t i ≡ false → least t i (suc k) ≡ least t (i + 1) k
least-step i k t h = ap (λ b. cond b (Some i) (least t (i + 1) k)) h

pub least-skip : (c i k : ℕ) (t : ℕ → Bool) → ((j : ℕ) → j < c → t (i + j) ≡ false) → least t i (c + k) ≡ least t (i + c) k
least-skip zero i k t h = ap (least t i) (zero-add k) ∙ ap (λ n. least t n k) (omega arith)
least-skip (suc c) i k t h =
    let more : suc c + k ≡ suc (c + k) = omega arith in
    let here : i ≡ i + 0 = omega arith in
    let there : i + 1 + c ≡ i + suc c = omega arith in
    ap (least t i) more
    ∙ (least-step i (c + k) t (ap t here ∙ h 0 (omega arith))
    ∙ (least-skip c (i + 1) k t (λ j l. let next : i + 1 + j ≡ i + suc j = omega arith in ap t next ∙ h (suc j) (omega arith))
    ∙ ap (λ n. least t n k) there))

pub least-here : (i k : ℕ) (t : ℕ → Bool) → t i ≡ true → 0 < k → least t i k ≡ Some i
least-here i zero t h p = absurd (omega arith)
least-here i (suc k) t h p = ap (λ b. cond b (Some i) (least t (i + 1) k)) h

chosen : (b b' : Bool) (i c : ℕ) (x : Option ℕ) (x' : Option ℕ) → b ≡ b' → x ≡ option_map (λ n. n + c) x' → cond b (Some (i + c)) x ≡ option_map (λ n. n + c) (cond b' (Some i) x')
chosen true true i c x x' e f = refl
chosen true false i c x x' e f = cc
chosen false true i c x x' e f = cc
chosen false false i c x x' e f = f

pub least-shift : (k i c : ℕ) (t t' : ℕ → Bool) → ((j : ℕ) → i ≤ j → j < i + k → t (j + c) ≡ t' j) → least t (i + c) k ≡ option_map (λ x. x + c) (least t' i k)
least-shift zero i c t t' h = refl
least-shift (suc k) i c t t' h =
    chosen (t (i + c)) (t' i) i c (least t (i + c + 1) k) (least t' (i + 1) k) (h i (omega arith) (omega arith))
    (ap (λ n. least t n k) (omega arith) ∙ least-shift k (i + 1) c t t' (λ j l m. h j (omega arith) (omega arith)))

-- no turn's end lies before the first
pub no_halt : (b u n c j : ℕ) → j < c → 0 < j → c ≤ n → c ≤ b - u % b → is_halt b u n j ≡ false
no_halt b u n c j p q k m = grind (arith, nat_tests, add-mod_run b u j (omega arith))

pub first_halt : (b u n c : ℕ) → 0 < b → c ≡ min n (b - u % b) → is_halt b u n c ≡ true
first_halt b u n c z e = grind (arith, nat_tests, add-mod_end b u c)

pub later_halt : (b u n c j : ℕ) → c ≤ n → is_halt b u n (j + c) ≡ is_halt b (u + c) (n - c) j
later_halt b u n c j k = grind (arith, common_steps, nat_tests)

-- what is filled after c frames more
pub later_filled : (s : Stream) (fs : List Frame) (j : ℕ) → length fs ≤ avail s → is_filled s (j + length fs) ≡ is_filled (put_next fs s) j
later_filled s fs j k = grind (arith, nat_tests)

both : (a b c : Bool) → a ≡ true → b ≡ c → (a && b) ≡ c
both a b c e f = grind (arith, e, f)

-- a stream that may start
abbrev pub starts : Stream → ℕ → ℕ → Bool
starts s n i = is_halt s.setup.buffer s.at.appl n i && is_filled s i

-- the first turn starts the group
pub turn_starts : (s : Stream) (n c : ℕ) → 0 < s.setup.buffer → 0 < n → c ≡ min n (s.setup.buffer - s.at.appl % s.setup.buffer) → is_filled s c ≡ true → least (starts s n) 1 n ≡ Some c
turn_starts s n c z p e f =
    let t : ℕ → Bool = starts s n in
    ap (least t 1) (omega arith)
    ∙ (least-skip (c - 1) 1 (n - (c - 1)) t (λ j l. ap (λ b. b && is_filled s (1 + j)) (no_halt s.setup.buffer s.at.appl n c (1 + j) (omega arith) (omega arith) (omega arith) (omega arith)))
    ∙ (ap (λ i. least t i (n - (c - 1))) (omega arith)
    ∙ least-here c (n - (c - 1)) t (both (is_halt s.setup.buffer s.at.appl n c) (is_filled s c) true (first_halt s.setup.buffer s.at.appl n c z e) f) (omega arith)))

-- the first turn does not: the rest decides
pub turn_goes_on : (s : Stream) (n c : ℕ) (fs : List Frame) → length fs ≡ c → c ≤ avail s → 0 < s.setup.buffer → 0 < n → c ≡ min n (s.setup.buffer - s.at.appl % s.setup.buffer) → is_filled s c ≡ false
    → least (starts s n) 1 n ≡ option_map (λ x. x + c) (least (starts (put_next fs s) (n - c)) 1 (n - c))
turn_goes_on s n c fs el k z p e f =
    let t : ℕ → Bool = starts s n in
    let count : n ≡ c + (n - c) = omega arith in
    let order : 1 + c ≡ 1 + c = refl in
    ap (least t 1) count
    ∙ (least-skip c 1 (n - c) t (λ j l. quiet j l (last_or_before j l))
    ∙ least-shift (n - c) 1 c t (starts (put_next fs s) (n - c)) (λ j l m. later j))
  where
    last_or_before : (j : ℕ) → j < c → (1 + j ≡ c) ⊎ (1 + j < c)
    last_or_before j l = grind arith

    quiet : (j : ℕ) → j < c → (1 + j ≡ c) ⊎ (1 + j < c) → starts s n (1 + j) ≡ false
    quiet j l (inl m) = grind (arith, m, f)
    quiet j l (inr m) = ap (λ b. b && is_filled s (1 + j)) (no_halt s.setup.buffer s.at.appl n c (1 + j) m (omega arith) (omega arith) (omega arith))

    later : (j : ℕ) → starts s n (j + c) ≡ starts (put_next fs s) (n - c) j
    later j =
        let below : length fs ≤ avail s = omega arith in
        let e1 : is_halt s.setup.buffer s.at.appl n (j + c) ≡ is_halt s.setup.buffer (s.at.appl + length fs) (n - c) j =
        later_halt s.setup.buffer s.at.appl n c j (omega arith) ∙ ap (λ m. is_halt s.setup.buffer (s.at.appl + m) (n - c) j) (sym el) in
        let e2 : is_filled s (j + c) ≡ is_filled (put_next fs s) j = ap (λ m. is_filled s (j + m)) (sym el) ∙ later_filled s fs j below in
        ap (λ a. a && is_filled s (j + c)) e1 ∙ ap (λ b. is_halt s.setup.buffer (s.at.appl + length fs) (n - c) j && b) e2

-- the closed form and one turn of the loop, for a stream that has not started: the first halt is c more than that of the stream after the turn
pub starting_halt-turn : (s : Stream) (n c : ℕ) (fs : List Frame) → length fs ≡ c → c ≤ avail s → 0 < s.setup.buffer → 0 < n → c ≡ min n (s.setup.buffer - s.at.appl % s.setup.buffer) → is_filled s c ≡ false
    → starting_halt s n ≡ option_map (λ x. x + c) (starting_halt (put_next fs s) (n - c))
starting_halt-turn s n c fs el k z p e f = prepared (is_prepared s.state) (turn_goes_on s n c fs el k z p e f)
  where
    prepared : (b : Bool) → least (starts s n) 1 n ≡ option_map (λ x. x + c) (least (starts (put_next fs s) (n - c)) 1 (n - c))
        → cond b (least (starts s n) 1 n) None ≡ option_map (λ x. x + c) (cond b (least (starts (put_next fs s) (n - c)) 1 (n - c)) None)
    prepared true h = h
    prepared false h = refl
