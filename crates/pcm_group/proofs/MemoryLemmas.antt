-- A wake check of members of whom all that are asleep may wait.
use Rattle.std.proofs.Common.{◌≡◌, Bool, true, false, cond, not, ◌||◌, ◌&&◌, nat_eq, List, [], ◌∷◌, ◌++◌, refl, sym, ap, ◌∙◌, subst, arith}
use Rattle.std.proofs.Math.Path.{ap₂}
use Rattle.std.proofs.lemmas.Bool.Decides.{nat_tests}
use Rattle.std.proofs.lemmas.List.Elements.{All-from_recursion, recursion_from_All}
use Rattle.std.specs.List.{AllByRecursion}
use Rattle.pcm_base.specs.declared.card.Card.{Ghosts}
use Rattle.pcm_base.specs.declared.ids.ClientId.{ClientId}
use Rattle.pcm_base.specs.declared.ids.SubId.{SubId}
use Rattle.pcm_base.specs.declared.sleeper.Sleeper.{Sleeper}
use Rattle.pcm_base.specs.model.Sleep.{is_among, may_wait, sleepers_that, wake_members, woken_in}
use Rattle.pcm_base.specs.model.Stream.{Stream, Waiting, Member as ModelMember}
use Rattle.sleepers.specs.Marks.{waiting}
use Rattle.pcm_stream.specs.declared.members.Member.{Member}
use Rattle.pcm_stream.specs.MembersStand.{AllStandFor, IsMember}
use Rattle.pcm_group.specs.Waiting.{calls_wait, members_wait, woken_member}

-- a call of the client is among these
is_calling : ClientId → List Waiting → Bool
is_calling c [] = false
is_calling c (p ∷ ps) = nat_eq p.client.0 c.0 || is_calling c ps

both : (a b : Bool) → (a && b) ≡ true → (a ≡ true) × (b ≡ true)
both true b h = (refl, h)
both false b h = absurd (let no : ⊥ = cc in no)

same_client : (c d : ClientId) → nat_eq c.0 d.0 ≡ true → c ≡ d
same_client c d h = let e : c.0 ≡ d.0 = grind (arith, nat_tests, h) in (λ i. record { 0 = e i })

none_and : (b : Bool) → false ≡ (b && false)
none_and true = refl
none_and false = refl

module _ (g : Bool) (s : Stream) (marks : List ClientId) where
  kept : List Waiting → List ClientId
  kept ps = sleepers_that true g s marks ps

  -- the marks that are kept are those of the clients that have a call
  kept_marks : (c : ClientId) (ps : List Waiting) → calls_wait g s marks ps ≡ true → is_among c (kept ps) ≡ (is_among c marks && is_calling c ps)
  unfolding is_calling kept
  kept_marks c [] h = none_and (is_among c marks)
  kept_marks c (p ∷ ps) h =
      let q = both (not (is_among p.client marks) || may_wait g s p.task) (calls_wait g s marks ps) h in
      by (nat_eq p.client.0 c.0) refl (is_among p.client marks) refl (may_wait g s p.task) q.0 (kept_marks c ps q.1)
    where
      by : (e : Bool) → nat_eq p.client.0 c.0 ≡ e → (m : Bool) → is_among p.client marks ≡ m → (w : Bool) → (not m || w) ≡ true → is_among c (sleepers_that true g s marks ps) ≡ (is_among c marks && is_calling c ps)
          → is_among c (cond (m && w) (p.client ∷ sleepers_that true g s marks ps) (sleepers_that true g s marks ps)) ≡ (is_among c marks && (e || is_calling c ps))
      by true e true m true q rest =
          let mine : is_among c marks ≡ true = sym (ap (λ (d : ClientId). is_among d marks) (same_client p.client c e)) ∙ m in
          ap (λ (b : Bool). b || is_among c (sleepers_that true g s marks ps)) e ∙ sym (ap (λ (b : Bool). b && true) mine)
      by true e true m false q rest = absurd (let no : ⊥ = cc in no)
      by true e false m w q rest =
          let mine : is_among c marks ≡ false = sym (ap (λ (d : ClientId). is_among d marks) (same_client p.client c e)) ∙ m in
          rest ∙ ap (λ (b : Bool). b && is_calling c ps) mine ∙ sym (ap (λ (b : Bool). b && true) mine)
      by false e true m true q rest = ap (λ (b : Bool). b || is_among c (sleepers_that true g s marks ps)) e ∙ rest
      by false e true m false q rest = absurd (let no : ⊥ = cc in no)
      by false e false m w q rest = rest

  none_woken : (ps : List Waiting) → calls_wait g s marks ps ≡ true → sleepers_that false g s marks ps ≡ []
  none_woken [] h = refl
  none_woken (p ∷ ps) h =
      let q = both (not (is_among p.client marks) || may_wait g s p.task) (calls_wait g s marks ps) h in
      by (is_among p.client marks) (may_wait g s p.task) q.0 (none_woken ps q.1)
    where
      by : (m w : Bool) → (not m || w) ≡ true → sleepers_that false g s marks ps ≡ [] → cond (m && not w) (p.client ∷ sleepers_that false g s marks ps) (sleepers_that false g s marks ps) ≡ []
      by true true q rest = rest
      by true false q rest = absurd (let no : ⊥ = cc in no)
      by false w q rest = rest

  -- each call is among the calls
  unkept : (ps : List Waiting) (ys : List Sleeper) → calls_wait g s marks ps ≡ true → AllByRecursion (λ (y : Sleeper). is_calling y.client ps ≡ true) ys
      → AllByRecursion (λ (y : Sleeper). is_among y.client (kept ps) ≡ y.asleep) ys → AllByRecursion (λ (y : Sleeper). is_among y.client marks ≡ y.asleep) ys
  unkept ps [] h in_ps are = tt
  unkept ps (y ∷ ys) h in_ps are = (
    last (is_among y.client marks) ∙ sym (ap (λ (b : Bool). is_among y.client marks && b) in_ps.0) ∙ sym (kept_marks y.client ps h) ∙ are.0,
    unkept ps ys h in_ps.1 are.1,
  )
    where
      last : (b : Bool) → b ≡ (b && true)
      last true = refl
      last false = refl

is_calling-self : (y : Sleeper) (ps : List Waiting) → is_calling y.client (record { client = y.client; task = y.task } ∷ ps) ≡ true
unfolding is_calling
is_calling-self y ps = let e : nat_eq y.client.0 y.client.0 ≡ true = grind (arith, nat_tests) in ap (λ (b : Bool). b || is_calling y.client ps) e

calling_later : (p : Waiting) (ps : List Waiting) (ys : List Sleeper) → AllByRecursion (λ (y : Sleeper). is_calling y.client ps ≡ true) ys → AllByRecursion (λ (y : Sleeper). is_calling y.client (p ∷ ps) ≡ true) ys
unfolding is_calling
calling_later p ps [] h = tt
calling_later p ps (y ∷ ys) h = (later (nat_eq p.client.0 y.client.0) (is_calling y.client ps) h.0, calling_later p ps ys h.1)
  where
    later : (a b : Bool) → b ≡ true → (a || b) ≡ true
    later true b h = refl
    later false b h = h

all_calling : (ys : List Sleeper) → AllByRecursion (λ (y : Sleeper). is_calling y.client (waiting ys) ≡ true) ys
all_calling [] = tt
all_calling (y ∷ ys) = (is_calling-self y (waiting ys), calling_later (record { client = y.client; task = y.task }) (waiting ys) ys (all_calling ys))

unwoken_member : (g : Bool) (sub : SubId) (calls : List Sleeper) (x : ModelMember) → calls_wait g x.stream x.asleep x.stream.sleepers ≡ true → IsMember sub calls (woken_member g x) → IsMember sub calls x
unfolding kept
unwoken_member g sub calls x wait h = record {
  number = h.number;
  apart = h.apart;
  calls = h.calls;
  marks =
      let all : AllByRecursion (λ (y : Sleeper). is_calling y.client x.stream.sleepers ≡ true) calls = subst (λ (ps : List Waiting). AllByRecursion (λ (y : Sleeper). is_calling y.client ps ≡ true) calls) h.calls (all_calling calls) in
      All-from_recursion _ _ (unkept g x.stream x.asleep x.stream.sleepers calls wait all (recursion_from_All _ calls h.marks));
  fit = h.fit;
}

-- the members still stand for those that they stood for
pub unwoken : {C : Type 0} {gs : Ghosts C} (g : Bool) (ms : List (Member C gs)) (xs : List ModelMember) → members_wait g xs ≡ true → AllStandFor ms (wake_members g xs) → AllStandFor ms xs
unwoken g [] [] w h = tt
unwoken g [] (x ∷ xs) w h = absurd h
unwoken g (m ∷ ms) [] w h = absurd h
unwoken g (m ∷ ms) (x ∷ xs) w h =
    let p = both (calls_wait g x.stream x.asleep x.stream.sleepers) (members_wait g xs) w in
    (record { member = unwoken_member g m.sub m.sleepers x p.0 h.0.member; stream = h.0.stream }, unwoken g ms xs p.1 h.1)

-- and nobody is woken
pub nobody_woken : (g : Bool) (xs : List ModelMember) → members_wait g xs ≡ true → woken_in g xs ≡ []
nobody_woken g [] w = refl
nobody_woken g (x ∷ xs) w =
    let p = both (calls_wait g x.stream x.asleep x.stream.sleepers) (members_wait g xs) w in
    ap₂ (λ (a b : List ClientId). a ++ b) (none_woken g x.stream x.asleep x.stream.sleepers p.0) (nobody_woken g xs p.1)
