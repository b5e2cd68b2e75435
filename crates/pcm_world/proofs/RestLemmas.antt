-- The wake check of members that are at rest: each that is marked asleep may wait. It leaves them as they were.
use Rattle.std.proofs.Common.{◌≡◌, Bool, true, false, cond, not, ◌||◌, ◌&&◌, nat_eq, List, [], ◌∷◌, refl, sym, ap, ◌∙◌, subst, arith}
use Rattle.std.proofs.lemmas.Bool.Decides.{nat_tests}
use Rattle.std.proofs.lemmas.List.Elements.{All-from_recursion, recursion_from_All}
use Rattle.std.specs.List.{AllByRecursion}
use Rattle.pcm_base.specs.declared.card.Card.{Ghosts}
use Rattle.pcm_base.specs.declared.ids.ClientId.{ClientId}
use Rattle.pcm_base.specs.declared.ids.SubId.{SubId}
use Rattle.pcm_base.specs.declared.sleeper.Sleeper.{Sleeper}
use Rattle.pcm_base.specs.model.Sleep.{group_drains, is_among, may_wait, sleepers_that, wake, wake_members}
use Rattle.pcm_base.specs.model.Stream.{Stream, Waiting, Member as ModelMember}
use Rattle.sleepers.specs.Marks.{AreMarks, waiting}
use Rattle.pcm_stream.specs.declared.members.Member.{Member}
use Rattle.pcm_stream.specs.MembersStand.{AllStandFor, IsMember}
use Rattle.pcm_group.specs.Waiting.{all_wait, calls_wait, members_wait, woken_member}

-- one of these calls is the client's
is_calling : ClientId → List Waiting → Bool
is_calling c [] = false
is_calling c (p ∷ ps) = nat_eq p.client.0 c.0 || is_calling c ps

parts : (a b : Bool) → (a && b) ≡ true → (a ≡ true) × (b ≡ true)
parts true b h = (refl, h)
parts false b h = absurd (let no : ⊥ = cc in no)

none_and : (a : Bool) → false ≡ (a && false)
none_and true = refl
none_and false = refl

same_client : (d c : ClientId) → nat_eq d.0 c.0 ≡ true → d ≡ c
same_client d c h = let e : d.0 ≡ c.0 = grind (arith, nat_tests, h) in ap (λ n. record { 0 = n }) e

module _ (g : Bool) (s : Stream) (marks : List ClientId) where
  -- of the clients with a call, those that were marked are marked
  marked_still : (c : ClientId) (ps : List Waiting) → calls_wait g s marks ps ≡ true → is_among c (sleepers_that true g s marks ps) ≡ (is_among c marks && is_calling c ps)
  unfolding is_calling
  marked_still c [] h = none_and (is_among c marks)
  marked_still c (p ∷ ps) h =
      let q = parts (not (is_among p.client marks) || may_wait g s p.task) (calls_wait g s marks ps) h in
      by (nat_eq p.client.0 c.0) refl (is_among p.client marks) refl (may_wait g s p.task) q.0 (marked_still c ps q.1)
    where
      by : (e : Bool) → nat_eq p.client.0 c.0 ≡ e → (m : Bool) → is_among p.client marks ≡ m → (w : Bool) → (not m || w) ≡ true → is_among c (sleepers_that true g s marks ps) ≡ (is_among c marks && is_calling c ps)
          → is_among c (cond (m && w) (p.client ∷ sleepers_that true g s marks ps) (sleepers_that true g s marks ps)) ≡ (is_among c marks && (e || is_calling c ps))
      by true e true m true q rest =
          let mine : is_among c marks ≡ true = sym (ap (λ (d : ClientId). is_among d marks) (same_client p.client c e)) ∙ m in
          ap (λ (b : Bool). b || is_among c (sleepers_that true g s marks ps)) e ∙ sym (ap (λ (b : Bool). b && true) mine)
      by true e true m false q rest = absurd (let no : ⊥ = cc in no)
      by true e false m w q rest =
          let mine : is_among c marks ≡ false = sym (ap (λ (d : ClientId). is_among d marks) (same_client p.client c e)) ∙ m in
          rest ∙ ap (λ (b : Bool). b && is_calling c ps) mine ∙ sym (ap (λ (b : Bool). b && true) mine)
      by false e true m true q rest = ap (λ (b : Bool). b || is_among c (sleepers_that true g s marks ps)) e ∙ rest
      by false e true m false q rest = absurd (let no : ⊥ = cc in no)
      by false e false m w q rest = rest

  -- each call is among the calls
  marks_stay : (ps : List Waiting) (ys : List Sleeper) → calls_wait g s marks ps ≡ true → AllByRecursion (λ (y : Sleeper). is_calling y.client ps ≡ true) ys
      → AllByRecursion (λ (y : Sleeper). is_among y.client marks ≡ y.asleep) ys → AllByRecursion (λ (y : Sleeper). is_among y.client (sleepers_that true g s marks ps) ≡ y.asleep) ys
  marks_stay ps [] h in_ps are = tt
  marks_stay ps (y ∷ ys) h in_ps are = (
    marked_still y.client ps h ∙ ap (λ (b : Bool). is_among y.client marks && b) in_ps.0 ∙ last (is_among y.client marks) ∙ are.0,
    marks_stay ps ys h in_ps.1 are.1,
  )
    where
      last : (b : Bool) → (b && true) ≡ b
      last true = refl
      last false = refl

calling_later : (p : Waiting) (ps : List Waiting) (ys : List Sleeper) → AllByRecursion (λ (y : Sleeper). is_calling y.client ps ≡ true) ys → AllByRecursion (λ (y : Sleeper). is_calling y.client (p ∷ ps) ≡ true) ys
unfolding is_calling
calling_later p ps [] h = tt
calling_later p ps (y ∷ ys) h = (later (nat_eq p.client.0 y.client.0) (is_calling y.client ps) h.0, calling_later p ps ys h.1)
  where
    later : (a b : Bool) → b ≡ true → (a || b) ≡ true
    later true b h = refl
    later false b h = h

all_calling : (ys : List Sleeper) → AllByRecursion (λ (y : Sleeper). is_calling y.client (waiting ys) ≡ true) ys
unfolding is_calling
all_calling [] = tt
all_calling (y ∷ ys) =
    let e : nat_eq y.client.0 y.client.0 ≡ true = grind (arith, nat_tests) in
    (ap (λ (b : Bool). b || is_calling y.client (waiting ys)) e, calling_later (record { client = y.client; task = y.task }) (waiting ys) ys (all_calling ys))

pub still_marks : (g : Bool) (s : Stream) (marks : List ClientId) (ps : List Waiting) (ys : List Sleeper) → calls_wait g s marks ps ≡ true → waiting ys ≡ ps → AreMarks marks ys → AreMarks (sleepers_that true g s marks ps) ys
still_marks g s marks ps ys wait same are =
    let all : AllByRecursion (λ (y : Sleeper). is_calling y.client ps ≡ true) ys = subst (λ (l : List Waiting). AllByRecursion (λ (y : Sleeper). is_calling y.client l ≡ true) ys) same (all_calling ys) in
    All-from_recursion _ _ (marks_stay g s marks ps ys wait all (recursion_from_All _ ys are))

-- ----

still_member : (g : Bool) (sub : SubId) (calls : List Sleeper) (x : ModelMember) → calls_wait g x.stream x.asleep x.stream.sleepers ≡ true → IsMember sub calls x → IsMember sub calls (woken_member g x)
still_member g sub calls x wait h = record {
  number = h.number;
  apart = h.apart;
  calls = h.calls;
  marks = still_marks g x.stream x.asleep x.stream.sleepers calls wait h.calls h.marks;
  fit = h.fit;
}

still_stand : {C : Type 0} {gs : Ghosts C} (g : Bool) (ms : List (Member C gs)) (xs : List ModelMember) → members_wait g xs ≡ true → AllStandFor ms xs → AllStandFor ms (wake_members g xs)
still_stand g [] [] w h = tt
still_stand g [] (x ∷ xs) w h = absurd h
still_stand g (m ∷ ms) [] w h = absurd h
still_stand g (m ∷ ms) (x ∷ xs) w h =
    let p = parts (calls_wait g x.stream x.asleep x.stream.sleepers) (members_wait g xs) w in
    (record { member = still_member g m.sub m.sleepers x p.0 h.0.member; stream = h.0.stream }, still_stand g ms xs p.1 h.1)

-- members at rest stand for what a wake check leaves
pub at_rest : {C : Type 0} {gs : Ghosts C} (ms : List (Member C gs)) (xs : List ModelMember) → all_wait xs ≡ true → AllStandFor ms xs → AllStandFor ms (wake xs)
at_rest ms xs w h = still_stand (group_drains xs) ms xs w h
