-- The logs that were taken out of rooms, and how often each number is among theirs.
use Rattle.std.proofs.Common.{◌≡◌, ◌≢◌, inl, inr, ◌+◌, ℕ, zero, suc, Bool, true, false, nat_eq, eq-eqb, ne_eqb, List, [], ◌∷◌, ◌++◌, length, map, slice_get, Some, refl, sym, ap, ◌∙◌, subst, arith}
use Rattle.std.specs.Prelude.{if◌then◌else◌}
use Rattle.std.proofs.lemmas.Option.{same_Some}
use Rattle.pcm_base.specs.declared.config.CardModel.{CardModel}
use Rattle.pcm_base.specs.declared.state.Dir.{Dir}
use Rattle.floor_rule.specs.Rule.{Among, Distinct, IsNone}
use Rattle.floor_rule.specs.declared.rule.Marked.{Marked}
use Rattle.room_parts.specs.Passes.{PassView}
use Rattle.room_parts.specs.Recs.{RecView}
use Rattle.room_lock.specs.InRoom.{RoomView}
use Rattle.live_gather.specs.Gathered.{IsGatheredFrom}
use Rattle.live_gather.specs.Pieces.{log_of, numbers_of, with_logs}
use Rattle.live_gather.specs.declared.gathered.Gathered.{Gathered}
use Rattle.live_floor.specs.Rooms.{AllFit, AreTaken, IsAtRest, IsFit, all_in, logs_in, times}

get_front : {A : Type 0} (xs ys : List A) (k : ℕ) (a : A) → slice_get xs k ≡ Some a → slice_get (xs ++ ys) k ≡ Some a
get_front [] ys k a h = absurd (cc)
get_front (x ∷ xs) ys zero a h = h
get_front (x ∷ xs) ys (suc k) a h = get_front xs ys k a h

get_last : {A : Type 0} (xs : List A) (a : A) → slice_get (xs ++ a ∷ []) (length xs) ≡ Some a
get_last [] a = refl
get_last (x ∷ xs) a = get_last xs a

no_items : {A : Type 0} (xs : List A) → length xs ≡ 0 → xs ≡ []
no_items [] none = refl
no_items (x ∷ xs) none = absurd (omega (arith, none))

-- ---- one room more

one_fits : (cards : List (CardModel × Dir)) (long_max : ℕ) (v : RoomView) (vs : List RoomView) → IsFit cards long_max v → AllFit cards long_max vs → AllFit cards long_max (v ∷ vs)
one_fits cards long_max v vs h hs zero w at = subst (IsFit cards long_max) (same_Some v w at) h
one_fits cards long_max v vs h hs (suc i) w at = hs i w at

pub none_taken : (cards : List (CardModel × Dir)) (long_max : ℕ) (ls : List (ℕ × List Marked)) → length ls ≡ 0 → AreTaken cards long_max ls
none_taken cards long_max ls none = ([], (λ i v at. absurd (cc)), no_items ls none)

pub one_taken : (cards : List (CardModel × Dir)) (long_max : ℕ) (v : RoomView) (old new : List (ℕ × List Marked)) → AreTaken cards long_max old → IsFit cards long_max v → new ≡ with_logs old v.recs → AreTaken cards long_max new
one_taken cards long_max v old new t fit same = (v ∷ t.0, one_fits cards long_max v t.0 fit t.1, same ∙ ap (λ ls. with_logs ls v.recs) t.2)

-- ---- each log of a room is among those that were taken

abbrev pub IsThere : ℕ × List Marked → List (ℕ × List Marked) → Type 0
IsThere l ls = (m : ℕ) × (slice_get ls m ≡ Some l)

before_recs : (l : ℕ × List Marked) (ls : List (ℕ × List Marked)) (rs : List RecView) → IsThere l ls → IsThere l (with_logs ls rs)
before_recs l ls [] h = h
before_recs l ls (r ∷ rs) h = let t = before_recs l ls rs h in (t.0, get_front (with_logs ls rs) (log_of r.knows ∷ []) t.0 l t.1)

of_recs : (ls : List (ℕ × List Marked)) (rs : List RecView) (k : ℕ) (r : RecView) → slice_get rs k ≡ Some r → IsThere (log_of r.knows) (with_logs ls rs)
of_recs ls [] k r at = absurd (cc)
of_recs ls (q ∷ rs) zero r at =
    subst (λ (z : RecView). IsThere (log_of z.knows) (with_logs ls (q ∷ rs))) (same_Some q r at) (length (with_logs ls rs), get_last (with_logs ls rs) (log_of q.knows))
of_recs ls (q ∷ rs) (suc k) r at = let t = of_recs ls rs k r at in (t.0, get_front (with_logs ls rs) (log_of q.knows ∷ []) t.0 (log_of r.knows) t.1)

of_rooms : (vs : List RoomView) (i k : ℕ) (v : RoomView) (r : RecView) → slice_get vs i ≡ Some v → slice_get v.recs k ≡ Some r → IsThere (log_of r.knows) (logs_in vs)
of_rooms [] i k v r at_v at_r = absurd (cc)
of_rooms (w ∷ vs) zero k v r at_v at_r = of_recs (logs_in vs) w.recs k r (ap (λ (z : RoomView). slice_get z.recs k) (same_Some w v at_v) ∙ at_r)
of_rooms (w ∷ vs) (suc i) k v r at_v at_r = before_recs (log_of r.knows) (logs_in vs) w.recs (of_rooms vs i k v r at_v at_r)

-- ---- how often a number is among those of two lists, and of the rooms

adds : (b : Bool) (n m k : ℕ) → n ≡ m + k → (if b then suc n else n) ≡ (if b then suc m else m) + k
adds true n m k h = omega (arith, h)
adds false n m k h = h

times_both : (j : ℕ) (xs ys : List ℕ) → times j (xs ++ ys) ≡ times j xs + times j ys
times_both j [] ys = omega arith
times_both j (x ∷ xs) ys = adds (nat_eq x j) (times j (xs ++ ys)) (times j xs) (times j ys) (times_both j xs ys)

numbers_both : (ls ks : List (ℕ × List Marked)) → numbers_of (ls ++ ks) ≡ numbers_of ls ++ numbers_of ks
numbers_both [] ks = refl
numbers_both (l ∷ ls) ks = ap (λ ns. l.0 ∷ ns) (numbers_both ls ks)

adds_last : (b : Bool) (n m k : ℕ) → n ≡ m + k → n + (if b then suc 0 else 0) ≡ (if b then suc m else m) + k
adds_last true n m k h = omega (arith, h)
adds_last false n m k h = omega (arith, h)

times_recs : (j : ℕ) (ls : List (ℕ × List Marked)) (rs : List RecView) → times j (numbers_of (with_logs ls rs)) ≡ times j (map (λ (r : RecView). r.knows.sub) rs) + times j (numbers_of ls)
times_recs j ls [] = omega arith
times_recs j ls (r ∷ rs) =
    ap (times j) (numbers_both (with_logs ls rs) (log_of r.knows ∷ [])) ∙ times_both j (numbers_of (with_logs ls rs)) (r.knows.sub ∷ [])
    ∙ adds_last (nat_eq r.knows.sub j) (times j (numbers_of (with_logs ls rs))) (times j (map (λ (r : RecView). r.knows.sub) rs)) (times j (numbers_of ls)) (times_recs j ls rs)

times_rooms : (j : ℕ) (vs : List RoomView) → times j (all_in vs) ≡ times j (numbers_of (logs_in vs))
times_rooms j [] = refl
times_rooms j (v ∷ vs) =
    let here = times_both j (map (λ (r : RecView). r.knows.sub) v.recs) (all_in vs) in
    let there = times_recs j (logs_in vs) v.recs in
    let rest = times_rooms j vs in
    omega (arith, here, there, rest)

-- ---- a number that is among some that differ is there once

never : (j : ℕ) (js : List ℕ) → IsNone j js → times j js ≡ 0
never j [] h = refl
never j (i ∷ is) h = ap (λ b. if b then suc (times j is) else times j is) (ne_eqb i j h.0) ∙ never j is h.1

differ : (j i : ℕ) (js : List ℕ) → IsNone j js → Among i js → j ≢ i
differ j i [] none among e = absurd among
differ j i (k ∷ ks) none (inl same) e = none.0 (same ∙ sym e)
differ j i (k ∷ ks) none (inr among) e = differ j i ks none.1 among e

times_once : (j : ℕ) (js : List ℕ) → Distinct js → Among j js → times j js ≡ 1
times_once j [] d among = absurd among
times_once j (i ∷ is) d (inl same) = ap (λ b. if b then suc (times j is) else times j is) (eq-eqb i j same) ∙ ap suc (never j is (subst (λ k. IsNone k is) same d.0))
times_once j (i ∷ is) d (inr among) = ap (λ b. if b then suc (times j is) else times j is) (ne_eqb i j (differ i j is d.0 among)) ∙ times_once j is d.1 among

-- ---- what is gathered of logs that are those of rooms

pub at_rest : (cards : List (CardModel × Dir)) (long_max : ℕ) (ls : List (ℕ × List Marked)) (ps : List PassView) (gs : List Gathered) → IsGatheredFrom cards long_max ls ps gs → AreTaken cards long_max ls → IsAtRest cards long_max ps gs
at_rest cards long_max ls ps gs g taken = record {
  gathered = g.gathered;
  rooms = taken.0;
  stood = record {
    fit = taken.1;
    logs_are = λ i k v r at_v at_r.
        let t = of_rooms taken.0 i k v r at_v at_r in
        let f = g.from t.0 (log_of r.knows) (ap (λ l. slice_get l t.0) taken.2 ∙ t.1) in
        (f.0, sym f.1);
    once = λ j lt. times_rooms j taken.0 ∙ ap (λ l. times j (numbers_of l)) (sym taken.2) ∙ times_once j (numbers_of ls) g.once (g.every j lt);
  };
}
