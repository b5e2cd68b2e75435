-- Members that go from one phase of an act to the next.
use Rattle.std.proofs.Common.{◌≡◌, ℕ, zero, suc, ◌+◌, ◌-◌, ◌<◌, ◌≤◌, Bool, true, false, cond, nat_eq, nat_lt, List, [], ◌∷◌, ◌++◌, length, replicate, set, Option, Some, None, refl, sym, ap, ◌∙◌, subst, arith}
use Rattle.std.proofs.lemmas.Bool.Decides.{nat_tests}
use Rattle.std.specs.List.{slice_get}
use Rattle.pcm_base.specs.declared.act.Act.{Act}
use Rattle.pcm_base.specs.declared.act.Outcome.{Outcome}
use Rattle.pcm_base.specs.declared.act.Outcome.TheVariants as outcome
use Rattle.pcm_base.specs.declared.act.Vote.{Vote}
use Rattle.pcm_base.specs.declared.act.Vote.TheVariants as vote
use Rattle.pcm_base.specs.declared.card.Card.{Ghosts}
use Rattle.pcm_base.specs.declared.ids.SubId.{SubId}
use Rattle.pcm_base.specs.declared.sleeper.Sleeper.{Sleeper}
use Rattle.pcm_base.specs.declared.state.Errno.{Errno}
use Rattle.pcm_base.specs.model.Acts.{after, after_all, asked, asks, consulted}
use Rattle.pcm_base.specs.model.Stream.{Stream, Member as ModelMember}
use Rattle.pcm_laws.specs.Steps.{IsSameBesideActs}
use Rattle.pcm_laws.proofs.Leaves.{IsSameBesideActs-after}
use Rattle.pcm_stream.specs.declared.members.Member.{Member}
use Rattle.pcm_stream.specs.declared.substream.Substream.{Substream}
use Rattle.pcm_stream.specs.MembersStand.{AllStandFor, IsMember, MemberStandsFor}
use Rattle.pcm_stream.proofs.MemberLemmas.{IsMember-same}
use Rattle.pcm_stream.specs.StandsFor.{StandsFor}
use Rattle.group_trigger.specs.Phases.{AllStandIn, Before, Did, Made, Phase, StandsIn, Undone, all_in, failed_at, first_in, undone_to}
use Rattle.group_trigger.specs.Votes.{votes_at}

-- the same phases
pub same_phases : {C : Type 0} {g : Ghosts C} (a : Act) (p q : ℕ → Phase) (ms : List (Member C g)) (xs : List ModelMember) → ((j : ℕ) → q j ≡ p j) → AllStandIn a p ms xs → AllStandIn a q ms xs
same_phases a p q [] [] e h = tt
same_phases a p q [] (x ∷ xs) e h = absurd h
same_phases a p q (m ∷ ms) [] e h = absurd h
same_phases a p q (m ∷ ms) (x ∷ xs) e h = (
  h.0,
  subst (λ (r : Phase). StandsIn a r m.stream x.stream) (sym (e 0)) h.1,
  same_phases a (λ i. p (suc i)) (λ i. q (suc i)) ms xs (λ j. e (suc j)) h.2,
)

-- one member goes from phase r to phase w, and all others stay
pub change : {C : Type 0} {g : Ghosts C} (a : Act) (p q : ℕ → Phase) (r w : Phase) (ms : List (Member C g)) (i : ℕ) (m : Member C g) (t : Substream C g) (xs : List ModelMember)
    → slice_get ms i ≡ Some m → p i ≡ r → q i ≡ w → ((j : ℕ) → (j ≡ i → ⊥) → q j ≡ p j) → ((s : Stream) → StandsIn a r m.stream s → StandsIn a w t s)
    → AllStandIn a p ms xs → AllStandIn a q (set ms i (record m { stream = t })) xs
change a p q r w [] i m t xs at pi qi same step h = absurd (let no : ⊥ = cc in no)
change a p q r w (y ∷ ms) zero m t [] at pi qi same step h = absurd h
change a p q r w (y ∷ ms) (suc i) m t [] at pi qi same step h = absurd h
change {C = C} {g = g} a p q r w (y ∷ ms) zero m t (x ∷ xs) at pi qi same step h =
    let e : y ≡ m = cc in (
      subst (λ (z : Member C g). IsMember z.sub z.sleepers x) e h.0,
      subst (λ (v : Phase). StandsIn a v t x.stream) (sym qi)
          (step x.stream (subst (λ (v : Phase). StandsIn a v m.stream x.stream) pi (subst (λ (z : Member C g). StandsIn a (p 0) z.stream x.stream) e h.1))),
      same_phases a (λ j. p (suc j)) (λ j. q (suc j)) ms xs (λ j. same (suc j) (λ k. omega (arith, k))) h.2,
    )
change a p q r w (y ∷ ms) (suc i) m t (x ∷ xs) at pi qi same step h = (
  h.0,
  subst (λ (v : Phase). StandsIn a v y.stream x.stream) (sym (same 0 (λ k. omega (arith, k)))) h.1,
  change a (λ j. p (suc j)) (λ j. q (suc j)) r w ms i m t xs at pi qi (λ j ne. same (suc j) (λ k. ne (omega (arith, k)))) step h.2,
)

-- before the act
pub all_before : {C : Type 0} {g : Ghosts C} (a : Act) (ms : List (Member C g)) (xs : List ModelMember) → AllStandFor ms xs → AllStandIn a (all_in Before) ms xs
all_before a [] [] h = tt
all_before a [] (x ∷ xs) h = absurd h
all_before a (m ∷ ms) [] h = absurd h
all_before a (m ∷ ms) (x ∷ xs) h = (h.0.member, h.0.stream, all_before a ms xs h.1)

-- ---- a member after an act

member_after : (a : Act) (v : Vote) (o : Outcome) (sub : SubId) (calls : List Sleeper) (x : ModelMember) → IsMember sub calls x → IsMember sub calls (record x { stream = after a v o x.stream })
member_after a v o sub calls x h =
    let k : IsSameBesideActs x.stream (after a v o x.stream) = IsSameBesideActs-after a v o x.stream in
    IsMember-same sub calls x (after a v o x.stream) k.dir k.setup k.sleepers h

-- ---- what the members stand for when the act is over

-- a refused act
pub after_refused : (a : Act) (k : SubId) (e : Errno) (vs : List Vote) (xs : List ModelMember) → after_all a (outcome.Refused k e) vs xs ≡ xs
after_refused a k e [] xs = refl
after_refused a k e (v ∷ vs) [] = refl
after_refused a k e (v ∷ vs) (x ∷ xs) = ap (λ (ys : List ModelMember). x ∷ ys) (after_refused a k e vs xs)

-- an act that is made by all
pub AllStandFor-made : {C : Type 0} {g : Ghosts C} (a : Act) (ms : List (Member C g)) (xs : List ModelMember) → AllStandIn a (all_in Made) ms xs
    → AllStandFor ms (after_all a outcome.Done (replicate (length ms) vote.Yes) xs)
AllStandFor-made a [] [] h = tt
AllStandFor-made a [] (x ∷ xs) h = absurd h
AllStandFor-made a (m ∷ ms) [] h = absurd h
AllStandFor-made a (m ∷ ms) (x ∷ xs) h = (
  record { member = member_after a vote.Yes outcome.Done m.sub m.sleepers x h.0; stream = h.1 },
  AllStandFor-made a ms xs h.2,
)

-- an act that failed, and no other member was asked
after_unasked : {C : Type 0} {g : Ghosts C} (a : Act) (k : SubId) (n : ℕ) (p : ℕ → Phase) (ms : List (Member C g)) (xs : List ModelMember) → ((j : ℕ) → p j ≡ Before) → AllStandIn a p ms xs
    → AllStandFor ms (after_all a (outcome.Failed k) (replicate n vote.Unasked) xs)
after_unasked a k zero p [] [] e h = tt
after_unasked a k zero p [] (x ∷ xs) e h = absurd h
after_unasked a k zero p (m ∷ ms) [] e h = absurd h
after_unasked a k zero p (m ∷ ms) (x ∷ xs) e h = (
  record { member = h.0; stream = subst (λ (r : Phase). StandsIn a r m.stream x.stream) (e 0) h.1 },
  after_unasked a k zero (λ i. p (suc i)) ms xs (λ j. e (suc j)) h.2,
)
after_unasked a k (suc n) p [] [] e h = tt
after_unasked a k (suc n) p [] (x ∷ xs) e h = absurd h
after_unasked a k (suc n) p (m ∷ ms) [] e h = absurd h
after_unasked a k (suc n) p (m ∷ ms) (x ∷ xs) e h = (
  record { member = member_after a vote.Unasked (outcome.Failed k) m.sub m.sleepers x h.0; stream = subst (λ (r : Phase). StandsIn a r m.stream x.stream) (e 0) h.1 },
  after_unasked a k n (λ i. p (suc i)) ms xs (λ j. e (suc j)) h.2,
)

pub AllStandFor-failed : {C : Type 0} {g : Ghosts C} (a : Act) (j : SubId) (i n : ℕ) (p : ℕ → Phase) (ms : List (Member C g)) (xs : List ModelMember)
    → ((k : ℕ) → k ≤ i → p k ≡ Undone) → ((k : ℕ) → i < k → p k ≡ Before) → AllStandIn a p ms xs
    → AllStandFor ms (after_all a (outcome.Failed j) (replicate i vote.Yes ++ vote.Fail ∷ replicate n vote.Unasked) xs)
AllStandFor-failed a j zero n p [] [] u b h = tt
AllStandFor-failed a j (suc i) n p [] [] u b h = tt
AllStandFor-failed a j i n p [] (x ∷ xs) u b h = absurd h
AllStandFor-failed a j i n p (m ∷ ms) [] u b h = absurd h
AllStandFor-failed a j zero n p (m ∷ ms) (x ∷ xs) u b h = (
  record {
    member = member_after a vote.Fail (outcome.Failed j) m.sub m.sleepers x h.0;
    stream = subst (λ (r : Phase). StandsIn a r m.stream x.stream) (u 0 (omega arith)) h.1;
  },
  after_unasked a j n (λ k. p (suc k)) ms xs (λ k. b (suc k) (omega arith)) h.2,
)
AllStandFor-failed a j (suc i) n p (m ∷ ms) (x ∷ xs) u b h = (
  record {
    member = member_after a vote.Yes (outcome.Failed j) m.sub m.sleepers x h.0;
    stream = subst (λ (r : Phase). StandsIn a r m.stream x.stream) (u 0 (omega arith)) h.1;
  },
  AllStandFor-failed a j i n (λ k. p (suc k)) ms xs (λ k le. u (suc k) (omega (arith, le))) (λ k lt. b (suc k) (omega (arith, lt))) h.2,
)

-- ---- the phases of each place

pub lt-next : (j i : ℕ) → (j ≡ i → ⊥) → nat_lt j (i + 1) ≡ nat_lt j i
lt-next j i ne = by (nat_lt j i) refl
  where
    by : (b : Bool) → nat_lt j i ≡ b → nat_lt j (i + 1) ≡ b
    by true h = grind (arith, nat_tests, h)
    by false h = grind (arith, nat_tests, h, ne)

pub lt-self : (i : ℕ) → nat_lt i i ≡ false
lt-self i = grind (arith, nat_tests)

pub lt-suc : (i : ℕ) → nat_lt i (i + 1) ≡ true
lt-suc i = grind (arith, nat_tests)

pub lt-zero : (j : ℕ) → nat_lt j 0 ≡ false
lt-zero j = grind (arith, nat_tests)

pub lt-true : (j i : ℕ) → j < i → nat_lt j i ≡ true
lt-true j i lt = grind (arith, nat_tests)

pub eq-self : (i : ℕ) → nat_eq i i ≡ true
eq-self i = grind (arith, nat_tests)

pub eq-other : (j i : ℕ) → (j ≡ i → ⊥) → nat_eq j i ≡ false
eq-other j i ne = by (nat_eq j i) refl
  where
    by : (b : Bool) → nat_eq j i ≡ b → b ≡ false
    by true h = absurd (ne (grind (arith, nat_tests, h)))
    by false h = refl

-- the same phases at each place
pub phases_within : {C : Type 0} {g : Ghosts C} (a : Act) (p q : ℕ → Phase) (ms : List (Member C g)) (xs : List ModelMember) → ((j : ℕ) → j < length ms → q j ≡ p j) → AllStandIn a p ms xs → AllStandIn a q ms xs
phases_within a p q [] [] e h = tt
phases_within a p q [] (x ∷ xs) e h = absurd h
phases_within a p q (m ∷ ms) [] e h = absurd h
phases_within a p q (m ∷ ms) (x ∷ xs) e h = (
  h.0,
  subst (λ (r : Phase). StandsIn a r m.stream x.stream) (sym (e 0 (omega arith))) h.1,
  phases_within a (λ i. p (suc i)) (λ i. q (suc i)) ms xs (λ j lt. e (suc j) (omega (arith, lt))) h.2,
)

-- the phase of one place
pub first_in-at : (r : Phase) (i : ℕ) (w : Phase) → first_in r i w i ≡ w
first_in-at r i w = ap (λ (b : Bool). cond b r w) (lt-self i)

pub first_in-before : (r : Phase) (i : ℕ) (w : Phase) (j : ℕ) → j < i → first_in r i w j ≡ r
first_in-before r i w j lt = ap (λ (b : Bool). cond b r w) (lt-true j i lt)

pub first_in-next : (r : Phase) (i : ℕ) (w : Phase) (j : ℕ) → (j ≡ i → ⊥) → first_in r (i + 1) w j ≡ first_in r i w j
first_in-next r i w j ne = ap (λ (b : Bool). cond b r w) (lt-next j i ne)

pub failed_at-at : (i : ℕ) → failed_at i i ≡ Undone
failed_at-at i = ap (λ (b : Bool). cond b Did (cond (nat_eq i i) Undone Before)) (lt-self i) ∙ ap (λ (b : Bool). cond b Undone Before) (eq-self i)

pub failed_at-other : (i j : ℕ) → (j ≡ i → ⊥) → failed_at i j ≡ first_in Did i Before j
failed_at-other i j ne = ap (λ (b : Bool). cond (nat_lt j i) Did (cond b Undone Before)) (eq-other j i ne)

pub failed_at-before : (k i : ℕ) → i < k → failed_at k i ≡ Did
failed_at-before k i lt = ap (λ (b : Bool). cond b Did (cond (nat_eq i k) Undone Before)) (lt-true i k lt)

pub undone_to-at : (i k : ℕ) → i < k → undone_to i k i ≡ Did
undone_to-at i k lt = ap (λ (b : Bool). cond b Undone (failed_at k i)) (lt-self i) ∙ failed_at-before k i lt

pub undone_to-now : (i k : ℕ) → undone_to (i + 1) k i ≡ Undone
undone_to-now i k = ap (λ (b : Bool). cond b Undone (failed_at k i)) (lt-suc i)

pub undone_to-next : (i k j : ℕ) → (j ≡ i → ⊥) → undone_to (i + 1) k j ≡ undone_to i k j
undone_to-next i k j ne = ap (λ (b : Bool). cond b Undone (failed_at k j)) (lt-next j i ne)

pub undone_to-up : (k j : ℕ) → j ≤ k → undone_to k k j ≡ Undone
undone_to-up k j le = by (nat_lt j k) refl
  where
    by : (b : Bool) → nat_lt j k ≡ b → cond b Undone (cond b Did (cond (nat_eq j k) Undone Before)) ≡ Undone
    by true h = refl
    by false h =
        let e : j ≡ k = grind (arith, nat_tests, h, le) in
        let f : nat_eq j k ≡ true = subst (λ (n : ℕ). nat_eq j n ≡ true) e (eq-self j) in
        ap (λ (b : Bool). cond b Undone Before) f

pub undone_to-above : (k j : ℕ) → k < j → undone_to k k j ≡ Before
undone_to-above k j lt = by (nat_lt j k) refl
  where
    by : (b : Bool) → nat_lt j k ≡ b → cond b Undone (cond b Did (cond (nat_eq j k) Undone Before)) ≡ Before
    by true h = absurd (let no : ⊥ = grind (arith, nat_tests, h, lt) in no)
    by false h = ap (λ (b : Bool). cond b Undone Before) (eq-other j k (λ e. omega (arith, e, lt)))
