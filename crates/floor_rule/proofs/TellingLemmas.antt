-- What the lists that a seat holds say together.
use Rattle.std.proofs.Common.{◌≡◌, ◌≢◌, inl, inr, ℕ, zero, suc, ◌≤◌, Bool, true, false, not, ◌||◌, ◌&&◌, leb, eq-eqb, ne_eqb, List, [], ◌∷◌, ◌++◌, length, Some, refl, sym, ap, subst, arith}
use Rattle.std.specs.Prelude.{slice_get, nat_eq, if◌then◌else◌}
use Rattle.std.proofs.lemmas.Bool.Decides.{nat_tests}
use mathlib.Core.Logic.{dite}
use mathlib.Core.List.{IsPrefix}
use native.Mathlib.Decide.{ℕ_discrete}
use Rattle.floor_rule.specs.declared.entry.EntryMark.{EntryMark}
use Rattle.floor_rule.specs.declared.entry.EntryMark.TheVariants as mark
use Rattle.floor_rule.specs.declared.rule.Marked.{Marked}
use Rattle.floor_rule.specs.declared.rule.Made.{Made}
use Rattle.floor_rule.specs.declared.rule.Lists.{Lists}
use Rattle.floor_rule.specs.Steps.{HoldsMore}
use Rattle.floor_rule.specs.declared.entry.Entry.{Entry}
use Rattle.floor_rule.specs.Causes.{AllOwnIn, IsOwn, Tells}
use Rattle.floor_rule.specs.Laws.{BothOfThem, CallsStandOnce, LogGoesOn, LongestHasAll, OwnEntriesAreCalls, SomeOfThem, StandingStays, StandsInLog, TellingGoesOn, WholeLogIsLongest}
use Rattle.floor_rule.specs.Lists.{AllBegin, AllOf, Stands, longer, longest}
use Rattle.floor_rule.specs.Marks.{IsOnce, count_of, has_call, is_call, is_new}
use Rattle.floor_rule.proofs.ListLemmas.{longest_begins, prefix_get, prefix_length, prefix_refl, prefix_trans, stands_in}

-- all lists of j are at most as long as the log
all_shorter : (j : ℕ) (log : List Marked) (ps : List (ℕ × List Marked)) → AllOf j (λ l. IsPrefix l log) ps → IsPrefix (longest j ps) log
all_shorter j log [] h = (log, refl)
all_shorter j log (p ∷ ps) h =
    dite (ℕ_discrete p.0 j)
    (λ e. subst (λ b. IsPrefix (if b then longer p.1 (longest j ps) else longest j ps) log) (sym (eq-eqb p.0 j e)) (one_of (h.0 e) (all_shorter j log ps h.1)))
    (λ ne. subst (λ b. IsPrefix (if b then longer p.1 (longest j ps) else longest j ps) log) (sym (ne_eqb p.0 j ne)) (all_shorter j log ps h.1))
  where
    one_of : IsPrefix p.1 log → IsPrefix (longest j ps) log → IsPrefix (longer p.1 (longest j ps)) log
    one_of a b = by (leb (length p.1) (length (longest j ps)))
      where
        by : (t : Bool) → IsPrefix (if t then longest j ps else p.1) log
        by true = b
        by false = a

no_rest : {A : Type 0} (xs r ys : List A) → xs ++ r ≡ ys → length ys ≤ length xs → xs ≡ ys
no_rest [] [] ys e le = e
no_rest [] (x ∷ r) ys e le = absurd (omega (arith, ap length e, le))
no_rest (x ∷ xs) r [] e le = absurd (cc)
no_rest (x ∷ xs) r (y ∷ ys) e le =
    let h : x ≡ y = cc in
    let t : xs ++ r ≡ ys = cc in
    let s = no_rest xs r ys t (omega arith) in
    λ i. h i ∷ s i

longer_whole : (log other : List Marked) → IsPrefix other log → longer log other ≡ log
longer_whole log other p = by (leb (length log) (length other)) refl
  where
    by : (t : Bool) → leb (length log) (length other) ≡ t → (if t then other else log) ≡ log
    by true e = no_rest other p.0 log p.1 (grind (arith, nat_tests))
    by false e = refl

pub whole_log_is_longest : WholeLogIsLongest
whole_log_is_longest j log ps h =
    subst (λ b. (if b then longer log (longest j ps) else longest j ps) ≡ log) (sym (eq-eqb j j refl)) (longer_whole log (longest j ps) (all_shorter j log ps h))

pub some_of_them : SomeOfThem
some_of_them j log [] qs h = tt
some_of_them j log (p ∷ ps) qs h = (h.0, some_of_them j log ps qs h.1)

pub both_of_them : BothOfThem
both_of_them j log [] qs h k = k
both_of_them j log (p ∷ ps) qs h k = (h.0, both_of_them j log ps qs h.1 k)

pub log_goes_on : LogGoesOn
log_goes_on j log more [] h = tt
log_goes_on j log more (p ∷ ps) h = ((λ e. prefix_trans p.1 log (log ++ more) (h.0 e) (more, refl)), log_goes_on j log more ps h.1)

pub begins_last : (f : ℕ → List Marked) (ps qs : List (ℕ × List Marked)) → AllBegin f (ps ++ qs) → AllBegin f qs
begins_last f [] qs h = h
begins_last f (p ∷ ps) qs h = begins_last f ps qs h.1

pub telling_goes_on : TellingGoesOn
telling_goes_on j ps qs agree = longest_begins (λ i. longest i (ps ++ qs)) j qs (begins_last (λ i. longest i (ps ++ qs)) ps qs agree)

pub longest_has_all : LongestHasAll
longest_has_all j i e ps agree stands = stands_in (λ k. longest k ps) ps j i e agree stands

pub standing_stays : StandingStays
standing_stays j i e [] qs h = h
standing_stays j i e (p ∷ ps) qs h = inr (standing_stays j i e ps qs h)

-- one call, one place

or_left : (a b : Bool) → (a || b) ≡ false → a ≡ false
or_left true b h = h
or_left false b h = refl

or_right : (a b : Bool) → (a || b) ≡ false → b ≡ false
or_right true b h = absurd (cc)
or_right false b h = h

has_front : (caller number : ℕ) (xs ys : List Marked) → has_call caller number (xs ++ ys) ≡ false → has_call caller number xs ≡ false
has_front caller number [] ys h = refl
has_front caller number (x ∷ xs) ys h = by (is_call caller number x.mark) h (has_front caller number xs ys)
  where
    by : (b : Bool) → (b || has_call caller number (xs ++ ys)) ≡ false → (has_call caller number (xs ++ ys) ≡ false → has_call caller number xs ≡ false) → (b || has_call caller number xs) ≡ false
    by true e rest = e
    by false e rest = rest e

has_last : (caller number : ℕ) (xs : List Marked) (e : Marked) → has_call caller number (xs ++ e ∷ []) ≡ false → is_call caller number e.mark ≡ false
has_last caller number [] e h = or_left (is_call caller number e.mark) false h
has_last caller number (x ∷ xs) e h = has_last caller number xs e (or_right (is_call caller number x.mark) (has_call caller number (xs ++ e ∷ [])) h)

first_of : (a b : Bool) → (a && b) ≡ true → a ≡ true
first_of true b h = refl
first_of false b h = absurd (cc)

second_of : (a b : Bool) → (a && b) ≡ true → b ≡ true
second_of true b h = h
second_of false b h = absurd (cc)

-- where the mark is that of the call and is new, the call has no entry
new_has_none : (caller number : ℕ) (m : EntryMark) (log : List Marked) → is_call caller number m ≡ true → is_new m log ≡ true → has_call caller number log ≡ false
new_has_none caller number (mark.Called state hw c n count) log is new =
    let c_is : c ≡ caller = grind (arith, nat_tests, first_of (nat_eq c caller) (nat_eq n number) is) in
    let n_is : n ≡ number = grind (arith, nat_tests, second_of (nat_eq c caller) (nat_eq n number) is) in
    let none : has_call c n log ≡ false = not_true (has_call c n log) new in
    subst (λ x. has_call x number log ≡ false) c_is (subst (λ x. has_call c x log ≡ false) n_is none)
  where
    not_true : (a : Bool) → not a ≡ true → a ≡ false
    not_true true h = absurd (cc)
    not_true false h = refl
new_has_none caller number (mark.Caused state hw sub place) log is new = absurd (cc)

-- an entry of a call: none before it has that call
later_is_new : (before es : List Marked) (caller number k : ℕ) (e : Marked) → IsOnce before es → slice_get es k ≡ Some e → is_call caller number e.mark ≡ true → has_call caller number before ≡ false
later_is_new before [] caller number k e once at is = absurd (cc)
later_is_new before (x ∷ es) caller number zero e once at is =
    let same : x ≡ e = cc in
    new_has_none caller number e.mark before is (subst (λ y. is_new y.mark before ≡ true) same once.0)
later_is_new before (x ∷ es) caller number (suc k) e once at is = has_front caller number before (x ∷ []) (later_is_new (before ++ x ∷ []) es caller number k e once.1 at is)

stand_once : (before log : List Marked) (caller number i k : ℕ) (d e : Marked) → IsOnce before log
    → slice_get log i ≡ Some d → is_call caller number d.mark ≡ true → slice_get log k ≡ Some e → is_call caller number e.mark ≡ true → i ≡ k
stand_once before [] caller number i k d e once at is at' is' = absurd (cc)
stand_once before (x ∷ log) caller number zero zero d e once at is at' is' = refl
stand_once before (x ∷ log) caller number zero (suc k) d e once at is at' is' =
    let same : x ≡ d = cc in
    let none : is_call caller number x.mark ≡ false = has_last caller number before x (later_is_new (before ++ x ∷ []) log caller number k e once.1 at' is') in
    let is_x : is_call caller number x.mark ≡ true = subst (λ y. is_call caller number y.mark ≡ true) (sym same) is in
    absurd (cc)
stand_once before (x ∷ log) caller number (suc i) zero d e once at is at' is' =
    let same : x ≡ e = cc in
    let none : is_call caller number x.mark ≡ false = has_last caller number before x (later_is_new (before ++ x ∷ []) log caller number i d once.1 at is) in
    let is_x : is_call caller number x.mark ≡ true = subst (λ y. is_call caller number y.mark ≡ true) (sym same) is' in
    absurd (cc)
stand_once before (x ∷ log) caller number (suc i) (suc k) d e once at is at' is' = ap suc (stand_once (before ++ x ∷ []) log caller number i k d e once.1 at is at' is')

pub calls_stand_once : CallsStandOnce
calls_stand_once log caller number i k d e once at is at' is' = stand_once [] log caller number i k d e once at is at' is'

pub stands_in_log : StandsInLog
stands_in_log j i e log [] h s = absurd s
stands_in_log j i e log (p ∷ ps) h (inl t) = prefix_get p.1 log i e (h.0 t.0) t.1
stands_in_log j i e log (p ∷ ps) h (inr t) = stands_in_log j i e log ps h.1 t

own_at : (caller : ℕ) (calls : List Made) (j : ℕ) (es : List Marked) (i : ℕ) (e : Marked) → AllOwnIn caller calls j es → slice_get es i ≡ Some e → IsOwn caller calls j e.entry e.mark
own_at caller calls j [] i e h at = absurd (cc)
own_at caller calls j (x ∷ es) zero e h at = let same : x ≡ e = cc in subst (λ y. IsOwn caller calls j y.entry y.mark) same h.0
own_at caller calls j (x ∷ es) (suc i) e h at = own_at caller calls j es i e h.1 at

own_is : (caller : ℕ) (calls : List Made) (j number : ℕ) (e : Entry) (m : EntryMark) → IsOwn caller calls j e m → is_call caller number m ≡ true
    → (c : Made) × (slice_get calls number ≡ Some c) × (c.count ≡ count_of m) × Tells j e c.event
own_is caller calls j number e (mark.Called state hw c n count) h is =
    let c_is : c ≡ caller = grind (arith, nat_tests, first_of (nat_eq c caller) (nat_eq n number) is) in
    let n_is : n ≡ number = grind (arith, nat_tests, second_of (nat_eq c caller) (nat_eq n number) is) in
    let own = h c_is in
    (own.0, subst (λ k. slice_get calls k ≡ Some own.0) n_is own.1, own.2, own.3)
own_is caller calls j number e (mark.Caused state hw sub place) h is = absurd (cc)

pub own_entries_are_calls : OwnEntriesAreCalls
own_entries_are_calls caller calls j i number e [] h s is = absurd s
own_entries_are_calls caller calls j i number e (p ∷ ps) h (inl t) is =
    subst (λ k. (c : Made) × (slice_get calls number ≡ Some c) × (c.count ≡ count_of e.mark) × Tells k e.entry c.event) t.0 (own_is caller calls p.0 number e.entry e.mark (own_at caller calls p.0 p.1 i e h.0 t.1) is)
own_entries_are_calls caller calls j i number e (p ∷ ps) h (inr t) is = own_entries_are_calls caller calls j i number e ps h.1 t is

-- what is told comes in front of what was held

pub stands_more : {A : Type 0} → (ps qs : List (ℕ × List A)) (j i : ℕ) (a : A) → Stands qs j i a → Stands (ps ++ qs) j i a
stands_more [] qs j i a h = h
stands_more (p ∷ ps) qs j i a h = inr (stands_more ps qs j i a h)

pub holds_more : (before now : Lists) (ls : List (ℕ × List Marked)) (cs : List (ℕ × List Made)) → now.logs ≡ ls ++ before.logs → now.calls ≡ cs ++ before.calls → HoldsMore before now
holds_more before now ls cs logs calls = record {
  logs = λ j i e h. subst (λ l. Stands l j i e) (sym logs) (stands_more ls before.logs j i e h);
  calls = λ p n c h. subst (λ l. Stands l p n c) (sym calls) (stands_more cs before.calls p n c h);
}

pub holds_then : (a b c : Lists) → HoldsMore a b → HoldsMore b c → HoldsMore a c
holds_then a b c h k = record { logs = λ j i e s. k.logs j i e (h.logs j i e s); calls = λ p n e s. k.calls p n e (h.calls p n e s) }

pub get_end : {A : Type 0} → (xs : List A) (a : A) → slice_get (xs ++ a ∷ []) (length xs) ≡ Some a
get_end [] a = refl
get_end (x ∷ xs) a = get_end xs a

-- two recs gain the entry of one call

-- of two beginnings of a log the whole one is the longer
no_longer : (log other : List Marked) → IsPrefix other log → longer other log ≡ log
no_longer log other p = by (leb (length other) (length log)) refl
  where
    by : (t : Bool) → leb (length other) (length log) ≡ t → (if t then log else other) ≡ log
    by true e = refl
    by false e = absurd (grind (arith, nat_tests, prefix_length other log p))

-- the whole log is the longest wherever it stands
pub longest_among : (j : ℕ) (log : List Marked) (ps qs : List (ℕ × List Marked)) → AllOf j (λ l. IsPrefix l log) (ps ++ (j, log) ∷ qs) → longest j (ps ++ (j, log) ∷ qs) ≡ log
longest_among j log [] qs h = whole_log_is_longest j log qs h.1
longest_among j log (p ∷ ps) qs h =
    let rest = longest_among j log ps qs h.1 in
    let others = longest j (ps ++ (j, log) ∷ qs) in
    dite (ℕ_discrete p.0 j)
    (λ e. subst (λ b. (if b then longer p.1 others else others) ≡ log) (sym (eq-eqb p.0 j e)) (subst (λ l. longer p.1 l ≡ log) (sym rest) (no_longer log p.1 (h.0 e))))
    (λ ne. subst (λ b. (if b then longer p.1 others else others) ≡ log) (sym (ne_eqb p.0 j ne)) rest)

-- a log that has no entry of a call does not begin with one that ends with it
pub goes_not_on : (caller number : ℕ) (log other : List Marked) (e : Marked) → has_call caller number other ≡ false → is_call caller number e.mark ≡ true → ¬ (IsPrefix (log ++ e ∷ []) other)
goes_not_on caller number log other e none is p =
    let front : has_call caller number (log ++ e ∷ []) ≡ false = has_front caller number (log ++ e ∷ []) p.0 (subst (λ l. has_call caller number l ≡ false) (sym p.1) none) in
    let last : is_call caller number e.mark ≡ false = has_last caller number log e front in
    absurd (cc)

pub told_as : (j k : ℕ) (log whole : List Marked) (ps qs : List (ℕ × List Marked)) → j ≡ k → log ≡ whole → ps ≡ qs → AllOf j (λ l. IsPrefix l log) ps → AllOf k (λ l. IsPrefix l whole) qs
told_as j k log whole ps qs a b d h = subst (λ (x : ℕ × List Marked × List (ℕ × List Marked)). AllOf x.0 (λ l. IsPrefix l x.1) x.2) (λ i. (a i, b i, d i)) h

-- What a pass holds after a link of j and k: what the first rec tells, what the second tells, and what it held when the call began. The first rec was told all that, and the second all that the first tells.

abbrev pub first_tells : ℕ → List Marked → List (ℕ × List Marked) → List (ℕ × List Marked) → List (ℕ × List Marked)
first_tells j log begun rs = (j, log) ∷ (begun ++ rs)

abbrev pub both_tell : ℕ → List Marked → ℕ → List Marked → List (ℕ × List Marked) → List (ℕ × List Marked) → List (ℕ × List Marked) → List (ℕ × List Marked)
both_tell j log k other begun rs qs = first_tells j log begun rs ++ (((k, other) ∷ (first_tells j log begun rs ++ qs)) ++ begun)

pub second_is_longest : (j k : ℕ) (log other : List Marked) (e : Marked) (begun rs qs : List (ℕ × List Marked)) → AllOf k (λ l. IsPrefix l other) (first_tells j log begun rs ++ qs)
    → longest k (both_tell j log k (other ++ e ∷ []) begun rs qs) ≡ other ++ e ∷ []
second_is_longest j k log other e begun rs qs told =
    let now : List Marked = other ++ e ∷ [] in
    let x : List (ℕ × List Marked) = first_tells j log begun rs in
    let grown = log_goes_on k other (e ∷ []) (x ++ qs) told in
    let front = some_of_them k now x qs grown in
    let back = some_of_them k now begun rs front.1 in
    longest_among k now x ((x ++ qs) ++ begun) (both_of_them k now x (((k, now) ∷ (x ++ qs)) ++ begun) front ((λ _. prefix_refl now), both_of_them k now (x ++ qs) begun grown back))

pub first_is_longest : (j k : ℕ) (log second other : List Marked) (e : Marked) (rest rs qs : List (ℕ × List Marked)) → k ≢ j → AllOf j (λ l. IsPrefix l log) ((((k, second) ∷ qs) ++ rest) ++ rs)
    → longest j (both_tell j (log ++ e ∷ []) k other (((k, second) ∷ qs) ++ rest) rs qs) ≡ log ++ e ∷ []
first_is_longest j k log second other e rest rs qs apart told =
    let now : List Marked = log ++ e ∷ [] in
    let begun : List (ℕ × List Marked) = ((k, second) ∷ qs) ++ rest in
    let x : List (ℕ × List Marked) = first_tells j now begun rs in
    let z : List (ℕ × List Marked) = ((k, other) ∷ (x ++ qs)) ++ begun in
    let grown = log_goes_on j log (e ∷ []) (begun ++ rs) told in
    let held = some_of_them j now begun rs grown in
    let theirs = some_of_them j now qs rest held.1 in
    let mine : AllOf j (λ l. IsPrefix l now) x = ((λ _. prefix_refl now), grown) in
    let behind : AllOf j (λ l. IsPrefix l now) z = ((λ same. absurd (apart same)), both_of_them j now (x ++ qs) begun (both_of_them j now x qs mine theirs) held) in
    whole_log_is_longest j now ((begun ++ rs) ++ z) (both_of_them j now (begun ++ rs) z grown behind)

pub begins_all : (j : ℕ) (whole ps : List (ℕ × List Marked)) → AllBegin (λ i. longest i whole) ps → IsPrefix (longest j ps) (longest j whole)
begins_all j whole ps h = longest_begins (λ i. longest i whole) j ps h
