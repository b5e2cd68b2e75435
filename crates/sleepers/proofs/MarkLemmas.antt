-- The marks of the model, as calls come, go and are checked.
use Rattle.std.proofs.Common.{◌≡◌, ℕ, suc, Bool, true, false, not, cond, if◌then◌else◌, ◌&&◌, ◌||◌, List, [], ◌∷◌, ◌++◌, length, refl, sym, ◌∙◌, ap, subst, eqb, nat_eq, eqb-true}
use Rattle.std.specs.List.{AllByRecursion}
use Rattle.std.proofs.lemmas.List.Elements.{All-from_recursion, All-filter, recursion_from_All}
use Rattle.std.specs.Option.{option_map}
use Rattle.std.specs.declared.option.Option.TheVariants.{Some}
use Rattle.pcm_base.specs.declared.ids.ClientId.{ClientId}
use Rattle.pcm_base.specs.declared.sleeper.Sleeper.{Sleeper}
use Rattle.pcm_base.specs.declared.sleeper.Task.{Task}
use Rattle.pcm_base.specs.declared.sleeper.Task.TheVariants as task
use Rattle.pcm_base.specs.model.Sleep.{is_among, without_client, may_wait, sleepers_that, mask_of}
use Rattle.pcm_base.specs.model.Stream.{Stream, Waiting, avail}
use Rattle.pcm_base.specs.model.Events.{others_than as others_waiting, waiting_of}
use Rattle.sleepers.specs.Clients.{is_of, has_client, others_than, sleeper_of, AreApart}
use Rattle.sleepers.specs.Wake.{may_wait_on, wakes, woken_sleepers, after_check, clients_of, with_mark}
use Rattle.sleepers.specs.Marks.{waiting, marks_with, AreMarks, IsModelCheck}
use Rattle.sleepers.proofs.ClientLemmas.{eqb-sym_false, eqb-same, or-false_left, or-false_right, has_client-same, filter-none, list_any-others}
use Rattle.sleepers.proofs.WakeLemmas.{has_client-checked}

-- the marks, element by element
Marks : List ClientId → List Sleeper → Type 0
Marks marks xs = AllByRecursion (λ x. is_among x.client marks ≡ x.asleep) xs

-- a number that is one of two different ones is not the other
differs-from : (e c d : ℕ) → eqb e c ≡ true → eqb d c ≡ false → eqb e d ≡ false
differs-from e c d same other =
    let is : e ≡ c = eqb-true e c same in
    subst (λ n. eqb n d ≡ false) (sym is) (eqb-sym_false d c other)

-- a mark is taken away, and no other
is_among-without_other : (c d : ClientId) (cs : List ClientId) → nat_eq d.0 c.0 ≡ false → is_among d (without_client c cs) ≡ is_among d cs
is_among-without_other c d [] h = refl
is_among-without_other c d (e ∷ cs) h =
    elim (nat_eq e.0 c.0) as (λ b. b ≡ nat_eq e.0 c.0
    → is_among d (cond b (without_client c cs) (e ∷ without_client c cs)) ≡ nat_eq e.0 d.0 || is_among d cs) [
      | true ↦ λ is. is_among-without_other c d cs h
          ∙ ap (λ b. b || is_among d cs) (sym (differs-from e.0 c.0 d.0 (sym is) h))
      | false ↦ λ is. ap (λ b. nat_eq e.0 d.0 || b) (is_among-without_other c d cs h)
    ] refl

is_among-without_own : (c d : ClientId) (cs : List ClientId) → nat_eq d.0 c.0 ≡ true → is_among d (without_client c cs) ≡ false
is_among-without_own c d [] h = refl
is_among-without_own c d (e ∷ cs) h =
    elim (nat_eq e.0 c.0) as (λ b. b ≡ nat_eq e.0 c.0 → is_among d (cond b (without_client c cs) (e ∷ without_client c cs)) ≡ false) [
      | true ↦ λ is. is_among-without_own c d cs h
      | false ↦ λ is.
          let same : d.0 ≡ c.0 = eqb-true d.0 c.0 h in
          ap (λ b. b || is_among d (without_client c cs)) (subst (λ n. nat_eq e.0 n ≡ false) (sym same) (sym is)) ∙ is_among-without_own c d cs h
    ] refl

-- no call of the client's is here: its mark does not matter
marks-without : (c : ClientId) (marks : List ClientId) (xs : List Sleeper) → has_client c xs ≡ false → Marks marks xs → Marks (without_client c marks) xs
unfolding Marks
marks-without c marks [] none h = tt
marks-without c marks (x ∷ xs) none h = (
  is_among-without_other c x.client marks (or-false_left (nat_eq x.client.0 c.0) (has_client c xs) none) ∙ h.0,
  marks-without c marks xs (or-false_right (nat_eq x.client.0 c.0) (has_client c xs) none) h.1,
)

marks-with : (c : ClientId) (marks : List ClientId) (xs : List Sleeper) → has_client c xs ≡ false → Marks marks xs → Marks (c ∷ marks) xs
unfolding Marks
marks-with c marks [] none h = tt
marks-with c marks (x ∷ xs) none h = (
  ap (λ b. b || is_among x.client marks) (eqb-sym_false x.client.0 c.0 (or-false_left (nat_eq x.client.0 c.0) (has_client c xs) none)) ∙ h.0,
  marks-with c marks xs (or-false_right (nat_eq x.client.0 c.0) (has_client c xs) none) h.1,
)

marks-append_one : (marks : List ClientId) (xs : List Sleeper) (y : Sleeper) → Marks marks xs → is_among y.client marks ≡ y.asleep → Marks marks (xs ++ y ∷ [])
unfolding Marks
marks-append_one marks [] y h last = (last, tt)
marks-append_one marks (x ∷ xs) y h last = (h.0, marks-append_one marks xs y h.1 last)

-- a call that falls asleep
pub AreMarks-add : (marks : List ClientId) (xs : List Sleeper) (y : Sleeper) → has_client y.client xs ≡ false → y.asleep ≡ true
    → AreMarks marks xs → AreMarks (y.client ∷ without_client y.client marks) (xs ++ y ∷ [])
unfolding Marks
AreMarks-add marks xs y none asleep h =
    let c = y.client in
    let others = marks-with c (without_client c marks) xs none (marks-without c marks xs none (recursion_from_All _ xs h)) in
    let here : is_among c (c ∷ without_client c marks) ≡ y.asleep = ap (λ b. b || is_among c (without_client c marks)) (eqb-same c.0) ∙ sym asleep in
    All-from_recursion _ _ (marks-append_one (c ∷ without_client c marks) xs y others here)

-- the task may wait as the model says
may_wait-model : (group_drains : Bool) (s : Stream) (t : Task) → may_wait group_drains s t ≡ may_wait_on s.state (avail s) group_drains t
may_wait-model group_drains s (task.Transfer x wanted) = refl
may_wait-model group_drains s task.Drain = refl

module _ (group_drains : Bool) (s : Stream) (marks : List ClientId) where
  -- those that the model wakes, and those that it leaves asleep
  woken_model : (xs : List Sleeper) → Marks marks xs
      → sleepers_that false group_drains s marks (waiting xs) ≡ clients_of (woken_sleepers s.state (avail s) group_drains xs)
  unfolding Marks
  woken_model [] h = refl
  woken_model (x ∷ xs) h =
      let left = sleepers_that false group_drains s marks (waiting xs) in
      let right = woken_sleepers s.state (avail s) group_drains xs in
      let same : is_among x.client marks && not (may_wait group_drains s x.task) ≡ wakes s.state (avail s) group_drains x =
      ap (λ m. m && not (may_wait group_drains s x.task)) h.0 ∙ ap (λ w. x.asleep && not w) (may_wait-model group_drains s x.task) in
      ap (λ b. cond b (x.client ∷ left) left) same
      ∙ elim (wakes s.state (avail s) group_drains x) as (λ b. cond b (x.client ∷ left) left ≡ clients_of (cond b (x ∷ right) right)) [
        | true ↦ ap (λ (cs : List ClientId). x.client ∷ cs) (woken_model xs h.1)
        | false ↦ woken_model xs h.1
      ]

  asleep_model : List Sleeper → List ClientId
  asleep_model xs = sleepers_that true group_drains s marks (waiting xs)

  asleep-absent : (c : ClientId) (xs : List Sleeper) → has_client c xs ≡ false → is_among c (asleep_model xs) ≡ false
  unfolding asleep_model
  asleep-absent c [] none = refl
  asleep-absent c (x ∷ xs) none =
      let others = asleep_model xs in
      let absent = asleep-absent c xs (or-false_right (nat_eq x.client.0 c.0) (has_client c xs) none) in
      elim (is_among x.client marks && may_wait group_drains s x.task) as (λ b. is_among c (cond b (x.client ∷ others) others) ≡ false) [
        | true ↦ ap (λ b. b || is_among c others) (or-false_left (nat_eq x.client.0 c.0) (has_client c xs) none) ∙ absent
        | false ↦ absent
      ]

  marks_model : (xs : List Sleeper) → AreApart xs → Marks marks xs → Marks (asleep_model xs) (after_check s.state (avail s) group_drains xs)
  unfolding Marks asleep_model
  marks_model [] apart h = tt
  marks_model (x ∷ xs) apart h =
      let others = asleep_model xs in
      let test = is_among x.client marks && may_wait group_drains s x.task in
      let after = after_check s.state (avail s) group_drains xs in
      let absent = asleep-absent x.client xs apart.1 in
      let rest = marks_model xs apart.2 h.1 in
      let none : has_client x.client after ≡ false = has_client-checked s.state (avail s) group_drains x.client xs ∙ apart.1 in
      let same : test ≡ x.asleep && may_wait_on s.state (avail s) group_drains x.task =
      ap (λ m. m && may_wait group_drains s x.task) h.0 ∙ ap (λ w. x.asleep && w) (may_wait-model group_drains s x.task) in (
        elim test as (λ b. is_among x.client (cond b (x.client ∷ others) others) ≡ b) [
          | true ↦ ap (λ b. b || is_among x.client others) (eqb-same x.client.0)
          | false ↦ absent
        ] ∙ same,
        elim test as (λ b. Marks (cond b (x.client ∷ others) others) after) [
          | true ↦ marks-with x.client others after none rest
          | false ↦ rest
        ],
      )

  waiting-checked : (xs : List Sleeper) → waiting (after_check s.state (avail s) group_drains xs) ≡ waiting xs
  waiting-checked [] = refl
  waiting-checked (x ∷ xs) = ap (λ (ps : List Waiting). record { client = x.client; task = x.task } ∷ ps) (waiting-checked xs)

  pub model_check : (xs : List Sleeper) → AreApart xs → AreMarks marks xs
      → IsModelCheck group_drains s marks xs (after_check s.state (avail s) group_drains xs)
      (mask_of (clients_of (woken_sleepers s.state (avail s) group_drains xs)))
  unfolding Marks asleep_model
  model_check xs apart h =
      let each = recursion_from_All _ xs h in
      record {
        mask_is = ap mask_of (sym (woken_model xs each));
        marks_are = All-from_recursion _ _ (marks_model xs apart each);
        calls = waiting-checked xs;
      }

-- the other calls, as the model has them
pub waiting-others : (c : ClientId) (xs : List Sleeper) → AreApart xs → waiting (others_than c xs) ≡ others_waiting c (waiting xs)
waiting-others c [] apart = refl
waiting-others c (x ∷ xs) apart =
    elim (is_of c x) as (λ b. b ≡ is_of c x
    → waiting (cond (not b) (x ∷ others_than c xs) (others_than c xs)) ≡ cond b (waiting xs) (record { client = x.client; task = x.task } ∷ others_waiting c (waiting xs))) [
      | true ↦ λ is. ap waiting (filter-none (is_of c) xs (has_client-same xs x.client c (sym is) apart.1))
      | false ↦ λ is. ap (λ (ps : List Waiting). record { client = x.client; task = x.task } ∷ ps) (waiting-others c xs apart.2)
    ] refl

-- the task of a call, as the model has it
pub task-waiting : (c : ClientId) (xs : List Sleeper) → option_map (λ x. x.task) (sleeper_of c xs) ≡ waiting_of c (waiting xs)
task-waiting c [] = refl
task-waiting c (x ∷ xs) =
    elim (is_of c x) as (λ b. option_map (λ y. y.task) (cond b (Some x) (sleeper_of c xs)) ≡ cond b (Some x.task) (waiting_of c (waiting xs))) [
      | true ↦ refl
      | false ↦ task-waiting c xs
    ]

-- a call that is taken out, and with it the mark
pub AreMarks-take : (c : ClientId) (marks : List ClientId) (xs : List Sleeper) → AreMarks marks xs → AreMarks (without_client c marks) (others_than c xs)
unfolding Marks
AreMarks-take c marks xs h =
    let others = All-filter (λ x. not (is_of c x)) (λ x. is_among x.client marks ≡ x.asleep) xs h in
    All-from_recursion _ _ (marks-without c marks (others_than c xs) (list_any-others (is_of c) xs) (recursion_from_All _ (others_than c xs) others))

-- ---- a call that is marked asleep or awake

eqb-flip : (m n : ℕ) (b : Bool) → nat_eq m n ≡ b → nat_eq n m ≡ b
eqb-flip m n true e = let is : m ≡ n = eqb-true m n e in subst (λ k. nat_eq k m ≡ true) is (eqb-same m)
eqb-flip m n false e = eqb-sym_false m n e

pub waiting-marked : (c : ClientId) (asleep : Bool) (xs : List Sleeper) → waiting (with_mark c asleep xs) ≡ waiting xs
waiting-marked c asleep [] = refl
waiting-marked c asleep (x ∷ xs) = ap (λ (ps : List Waiting). record { client = x.client; task = x.task } ∷ ps) (waiting-marked c asleep xs)

has_client-marked : (c d : ClientId) (asleep : Bool) (xs : List Sleeper) → has_client d (with_mark c asleep xs) ≡ has_client d xs
has_client-marked c d asleep [] = refl
has_client-marked c d asleep (x ∷ xs) = ap (λ b. is_of d x || b) (has_client-marked c d asleep xs)

pub AreApart-marked : (c : ClientId) (asleep : Bool) (xs : List Sleeper) → AreApart xs → AreApart (with_mark c asleep xs)
AreApart-marked c asleep [] h = tt
AreApart-marked c asleep (x ∷ xs) h = (h.0, has_client-marked c x.client asleep xs ∙ h.1, AreApart-marked c asleep xs h.2)

pub length-marked : (c : ClientId) (asleep : Bool) (xs : List Sleeper) → length (with_mark c asleep xs) ≡ length xs
length-marked c asleep [] = refl
length-marked c asleep (x ∷ xs) = ap suc (length-marked c asleep xs)

-- the mark of one client is as it is told, and each other as it was
mark-here : (c d : ClientId) (asleep : Bool) (marks : List ClientId) (b : Bool) → nat_eq d.0 c.0 ≡ b
    → is_among d (marks_with c asleep marks) ≡ (if b then asleep else is_among d marks)
mark-here c d true marks true e = ap (λ a. a || is_among d (without_client c marks)) (eqb-flip d.0 c.0 true e)
mark-here c d true marks false e =
    ap (λ a. a || is_among d (without_client c marks)) (eqb-sym_false d.0 c.0 e) ∙ is_among-without_other c d marks e
mark-here c d false marks true e = is_among-without_own c d marks e
mark-here c d false marks false e = is_among-without_other c d marks e

marks-marked : (c : ClientId) (asleep : Bool) (marks : List ClientId) (xs : List Sleeper) → Marks marks xs → Marks (marks_with c asleep marks) (with_mark c asleep xs)
unfolding Marks
marks-marked c asleep marks [] h = tt
marks-marked c asleep marks (x ∷ xs) h = (
  mark-here c x.client asleep marks (is_of c x) refl ∙ ap (λ a. if is_of c x then asleep else a) h.0,
  marks-marked c asleep marks xs h.1,
)

pub AreMarks-mark : (c : ClientId) (asleep : Bool) (marks : List ClientId) (xs : List Sleeper) → AreMarks marks xs → AreMarks (marks_with c asleep marks) (with_mark c asleep xs)
unfolding Marks
AreMarks-mark c asleep marks xs h = All-from_recursion _ _ (marks-marked c asleep marks xs (recursion_from_All _ xs h))
