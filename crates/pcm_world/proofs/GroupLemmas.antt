-- The place of a group, and the group of the model that stands there.
use Rattle.std.proofs.Common.{◌≡◌, ℕ, zero, suc, ◌+◌, ◌<◌, ◌≤◌, Bool, true, false, cond, not, ◌||◌, ◌&&◌, nat_eq, List, [], ◌∷◌, ◌++◌, length, drop, set, Option, Some, None, refl, sym, ap, ◌∙◌, subst, arith}
use Rattle.std.specs.List.{slice_get}
use Rattle.pcm_base.specs.declared.call.Call.{Call}
use Rattle.pcm_base.specs.declared.call.Call.TheVariants as call
use Rattle.pcm_base.specs.declared.card.Card.{Ghosts}
use Rattle.pcm_group.specs.Bytes.{HasLength}
use Rattle.pcm_group.specs.Waiting.{is_its_own}
use Rattle.std.proofs.Math.Logic.{∥∥₁_elim}
use Rattle.std.specs.Coded.{Coded-set, coded_ℕ}
use Rattle.pcm_base.specs.declared.ids.SubId.{SubId}
use Rattle.pcm_base.specs.model.Frame.{bytes_of}
use Rattle.pcm_base.specs.model.Group.{stream_of}
use Rattle.pcm_base.specs.model.Replay.{is_member}
use Rattle.std.proofs.lemmas.Bool.Decides.{nat_tests}
use Rattle.pcm_base.specs.model.Stream.{Stream, Member as ModelMember}
use Rattle.pcm_base.specs.declared.config.CardModel.{CardModel}
use Rattle.pcm_base.specs.declared.state.Dir.{Dir}
use Rattle.pcm_stream.specs.StandsFor.{StandsFor, card_of}
use Rattle.pcm_base.specs.model.World.{group_of, holds, lone, with_group}
use Rattle.pcm_stream.specs.declared.members.Member.{Member}
use Rattle.pcm_stream.specs.Members.{numbers_of}
use Rattle.pcm_stream.specs.MembersStand.{AllStandFor}
use Rattle.pcm_group.specs.declared.group.Group.{Group}
use Rattle.pcm_group.specs.Inside.{members_in}
use Rattle.std.proofs.Common.{get_or}
use Rattle.std.specs.Prelude.{nat_lt, MatchOption}
use Rattle.pcm_base.specs.declared.ids.ClientId.{ClientId}
use Rattle.pcm_base.specs.declared.sleeper.Sleeper.{Sleeper}
use Rattle.pcm_base.specs.model.Events.{waiting_of}
use Rattle.pcm_base.specs.model.Stream.{Waiting}
use Rattle.sleepers.specs.Clients.{has_client}
use Rattle.sleepers.specs.Marks.{waiting}
use Rattle.card_emul.specs.declared.any_card.AnyCard.{AnyCard}
use Rattle.card_emul.specs.contracts.any_card.AnyCardCard.TheImpl.{ghosts}
use Rattle.group_trigger.specs.Votes.{all_tell}
use Rattle.pcm_group.specs.Stepped.{all_true}
use Rattle.link_group.proofs.PlaceLemmas.{differ-append}
use Rattle.pcm_stream.specs.Members.{all_differ}
use Rattle.pcm_world.specs.Groups.{are_below, AreFreeFor, AreNumbers, GroupsStand, all_numbers, numbers_in, place_from, place_in, taken_by, taken_of}

-- ---- lists

pub drop_group : {C : Type 0} {g : Ghosts C} (gs : List (Group C g)) (i : ℕ) (x : Group C g) → slice_get gs i ≡ Some x → drop i (numbers_in gs) ≡ numbers_of (members_in x) ∷ drop (suc i) (numbers_in gs)
drop_group [] i x at = absurd (let no : ⊥ = cc in no)
drop_group {C = C} {g = g} (y ∷ gs) zero x at = let e : y ≡ x = cc in ap (λ (z : Group C g). numbers_of (members_in z) ∷ numbers_in gs) e
drop_group (y ∷ gs) (suc i) x at = drop_group gs i x at

pub drop_all : {A : Type 0} (xs : List A) (i : ℕ) → length xs ≤ i → drop i xs ≡ []
drop_all [] zero le = refl
drop_all [] (suc i) le = refl
drop_all (x ∷ xs) zero le = absurd (let no : ⊥ = omega (arith, le) in no)
drop_all (x ∷ xs) (suc i) le = drop_all xs i (omega (arith, le))

pub numbers-count : {C : Type 0} {g : Ghosts C} (gs : List (Group C g)) → length (numbers_in gs) ≡ length gs
numbers-count [] = refl
numbers-count (x ∷ gs) = ap suc (numbers-count gs)

pub numbers_kept : {C : Type 0} {g : Ghosts C} (gs : List (Group C g)) (i : ℕ) (x y : Group C g) → slice_get gs i ≡ Some x → numbers_of (members_in y) ≡ numbers_of (members_in x) → numbers_in (set gs i y) ≡ numbers_in gs
numbers_kept [] i x y at e = absurd (let no : ⊥ = cc in no)
numbers_kept {C = C} {g = g} (z ∷ gs) zero x y at e = let same : z ≡ x = cc in ap (λ (ks : List SubId). ks ∷ numbers_in gs) (e ∙ ap (λ (q : Group C g). numbers_of (members_in q)) (sym same))
numbers_kept (z ∷ gs) (suc i) x y at e = ap (λ (kss : List (List SubId)). numbers_of (members_in z) ∷ kss) (numbers_kept gs i x y at e)

-- ---- places

pub place_here : (n : ℕ) (k : SubId) (ks : List SubId) (kss : List (List SubId)) → is_member k ks ≡ true → place_from n k (ks ∷ kss) ≡ Some n
place_here n k ks kss h = ap (λ (b : Bool). cond b (Some n) (place_from (n + 1) k kss)) h

pub place_later : (n : ℕ) (k : SubId) (ks : List SubId) (kss : List (List SubId)) → is_member k ks ≡ false → place_from n k (ks ∷ kss) ≡ place_from (n + 1) k kss
place_later n k ks kss h = ap (λ (b : Bool). cond b (Some n) (place_from (n + 1) k kss)) h

pub place_least : (n p : ℕ) (k : SubId) (kss : List (List SubId)) → place_from n k kss ≡ Some p → n ≤ p
place_least n p k [] e = absurd (let no : ⊥ = cc in no)
place_least n p k (ks ∷ kss) e = by (is_member k ks) e (place_least (n + 1) p k kss)
  where
    by : (b : Bool) → cond b (Some n) (place_from (n + 1) k kss) ≡ Some p → (place_from (n + 1) k kss ≡ Some p → n + 1 ≤ p) → n ≤ p
    by true h f = let same : n ≡ p = cc in omega (arith, same)
    by false h f = let l : n + 1 ≤ p = f h in omega (arith, l)

-- ---- members

pub holds_as : {C : Type 0} {g : Ghosts C} (k : SubId) (ms : List (Member C g)) (xs : List ModelMember) → AllStandFor ms xs → holds k xs ≡ is_member k (numbers_of ms)
holds_as k [] [] h = refl
holds_as k [] (x ∷ xs) h = absurd h
holds_as k (m ∷ ms) [] h = absurd h
holds_as k (m ∷ ms) (x ∷ xs) h =
    ap (λ (j : SubId). nat_eq j.0 k.0 || holds k xs) (sym h.0.member.number) ∙ ap (λ (b : Bool). nat_eq m.sub.0 k.0 || b) (holds_as k ms xs h.1)

pub lengths : {C : Type 0} {g : Ghosts C} (ms : List (Member C g)) (xs : List ModelMember) → AllStandFor ms xs → length ms ≡ length xs
lengths [] [] h = refl
lengths [] (x ∷ xs) h = absurd h
lengths (m ∷ ms) [] h = absurd h
lengths (m ∷ ms) (x ∷ xs) h = ap suc (lengths ms xs h.1)

-- ---- the group at a place

-- this group has k, and stands for these members
pub record IsThere {C : Type 0} {g : Ghosts C} (k : SubId) (x : Group C g) (ms : List ModelMember) : Type 0 where
  pub held : is_member k (numbers_of (members_in x)) ≡ true
  pub stands : AllStandFor (members_in x) ms

pub group_at : {C : Type 0} {g : Ghosts C} (gs : List (Group C g)) (xs : List (List ModelMember)) (n i : ℕ) (k : SubId) (x : Group C g)
    → GroupsStand gs xs → place_from n k (numbers_in gs) ≡ Some (n + i) → slice_get gs i ≡ Some x → IsThere k x (group_of k xs)
group_at [] xs n i k x h e at = absurd (let no : ⊥ = cc in no)
group_at (y ∷ gs) [] n i k x h e at = absurd h
group_at {C = C} {g = g} (y ∷ gs) (ms ∷ xs) n zero k x h e at =
    by (is_member k (numbers_of (members_in y))) refl e
  where
    here : y ≡ x
    here = let same : y ≡ x = cc in same

    held : holds k ms ≡ is_member k (numbers_of (members_in y))
    held = holds_as k (members_in y) ms h.0

    by : (b : Bool) → is_member k (numbers_of (members_in y)) ≡ b → cond b (Some n) (place_from (n + 1) k (numbers_in gs)) ≡ Some (n + 0) → IsThere k x (group_of k (ms ∷ xs))
    by true t f = subst (λ (z : Group C g). IsThere k z (group_of k (ms ∷ xs))) here
        (record { held = t; stands = subst (λ (l : List ModelMember). AllStandFor (members_in y) l) (sym (ap (λ (b : Bool). cond b ms (group_of k xs)) (held ∙ t))) h.0 })
    by false t f = absurd (let l : n + 1 ≤ n + 0 = place_least (n + 1) (n + 0) k (numbers_in gs) f in let no : ⊥ = omega (arith, l) in no)
group_at {C = C} {g = g} (y ∷ gs) (ms ∷ xs) n (suc i) k x h e at =
    by (is_member k (numbers_of (members_in y))) refl e (λ f. group_at gs xs (n + 1) i k x h.1 f at)
  where
    held : holds k ms ≡ is_member k (numbers_of (members_in y))
    held = holds_as k (members_in y) ms h.0

    by : (b : Bool) → is_member k (numbers_of (members_in y)) ≡ b → cond b (Some n) (place_from (n + 1) k (numbers_in gs)) ≡ Some (n + suc i)
        → (place_from (n + 1) k (numbers_in gs) ≡ Some (n + 1 + i) → IsThere k x (group_of k xs)) → IsThere k x (group_of k (ms ∷ xs))
    by true t f r = absurd (let same : n ≡ n + suc i = cc in let no : ⊥ = omega (arith, same) in no)
    by false t f r =
        let more : n + suc i ≡ n + 1 + i = omega arith in
        subst (λ (l : List ModelMember). IsThere k x l) (sym (ap (λ (b : Bool). cond b ms (group_of k xs)) (held ∙ t))) (r (f ∙ ap (λ (p : ℕ). Some p) more))

-- another group in its place
pub groups_with : {C : Type 0} {g : Ghosts C} (gs : List (Group C g)) (xs : List (List ModelMember)) (n i : ℕ) (k : SubId) (y : Group C g) (now : List ModelMember)
    → GroupsStand gs xs → place_from n k (numbers_in gs) ≡ Some (n + i) → AllStandFor (members_in y) now → GroupsStand (set gs i y) (with_group k now xs)
groups_with [] xs n i k y now h e s = absurd (let no : ⊥ = cc in no)
groups_with (z ∷ gs) [] n i k y now h e s = absurd h
groups_with {C = C} {g = g} (z ∷ gs) (ms ∷ xs) n zero k y now h e s = by (is_member k (numbers_of (members_in z))) refl e
  where
    held : holds k ms ≡ is_member k (numbers_of (members_in z))
    held = holds_as k (members_in z) ms h.0

    by : (b : Bool) → is_member k (numbers_of (members_in z)) ≡ b → cond b (Some n) (place_from (n + 1) k (numbers_in gs)) ≡ Some (n + 0) → GroupsStand (y ∷ gs) (with_group k now (ms ∷ xs))
    by true t f = subst (λ (l : List (List ModelMember)). GroupsStand (y ∷ gs) l) (sym (ap (λ (b : Bool). cond b (now ∷ xs) (ms ∷ with_group k now xs)) (held ∙ t))) (s, h.1)
    by false t f = absurd (let l : n + 1 ≤ n + 0 = place_least (n + 1) (n + 0) k (numbers_in gs) f in let no : ⊥ = omega (arith, l) in no)
groups_with {C = C} {g = g} (z ∷ gs) (ms ∷ xs) n (suc i) k y now h e s =
    by (is_member k (numbers_of (members_in z))) refl e (λ f. groups_with gs xs (n + 1) i k y now h.1 f s)
  where
    held : holds k ms ≡ is_member k (numbers_of (members_in z))
    held = holds_as k (members_in z) ms h.0

    by : (b : Bool) → is_member k (numbers_of (members_in z)) ≡ b → cond b (Some n) (place_from (n + 1) k (numbers_in gs)) ≡ Some (n + suc i)
        → (place_from (n + 1) k (numbers_in gs) ≡ Some (n + 1 + i) → GroupsStand (set gs i y) (with_group k now xs)) → GroupsStand (z ∷ set gs i y) (with_group k now (ms ∷ xs))
    by true t f r = absurd (let same : n ≡ n + suc i = cc in let no : ⊥ = omega (arith, same) in no)
    by false t f r =
        let more : n + suc i ≡ n + 1 + i = omega arith in
        subst (λ (l : List (List ModelMember)). GroupsStand (z ∷ set gs i y) l) (sym (ap (λ (b : Bool). cond b (now ∷ xs) (ms ∷ with_group k now xs)) (held ∙ t))) (h.0, r (f ∙ ap (λ (p : ℕ). Some p) more))

-- the same group stands where another was, for the same members
pub groups_kept : {C : Type 0} {g : Ghosts C} (gs : List (Group C g)) (xs : List (List ModelMember)) (i : ℕ) (x y : Group C g) → slice_get gs i ≡ Some x
    → ((ms : List ModelMember) → AllStandFor (members_in x) ms → AllStandFor (members_in y) ms) → GroupsStand gs xs → GroupsStand (set gs i y) xs
groups_kept [] xs i x y at f h = absurd (let no : ⊥ = cc in no)
groups_kept (z ∷ gs) [] i x y at f h = absurd h
groups_kept {C = C} {g = g} (z ∷ gs) (ms ∷ xs) zero x y at f h = let same : z ≡ x = cc in (f ms (subst (λ (q : Group C g). AllStandFor (members_in q) ms) same h.0), h.1)
groups_kept (z ∷ gs) (ms ∷ xs) (suc i) x y at f h = (h.0, groups_kept gs xs i x y at f h.1)

-- no group has it
pub group_none : {C : Type 0} {g : Ghosts C} (gs : List (Group C g)) (xs : List (List ModelMember)) (n : ℕ) (k : SubId) → GroupsStand gs xs → place_from n k (numbers_in gs) ≡ None → group_of k xs ≡ []
group_none [] [] n k h e = refl
group_none [] (ms ∷ xs) n k h e = absurd h
group_none (y ∷ gs) [] n k h e = absurd h
group_none {C = C} {g = g} (y ∷ gs) (ms ∷ xs) n k h e = by (is_member k (numbers_of (members_in y))) refl e (group_none gs xs (n + 1) k h.1)
  where
    held : holds k ms ≡ is_member k (numbers_of (members_in y))
    held = holds_as k (members_in y) ms h.0

    by : (b : Bool) → is_member k (numbers_of (members_in y)) ≡ b → cond b (Some n) (place_from (n + 1) k (numbers_in gs)) ≡ None
        → (place_from (n + 1) k (numbers_in gs) ≡ None → group_of k xs ≡ []) → group_of k (ms ∷ xs) ≡ []
    by true t f r = absurd (let no : ⊥ = cc in no)
    by false t f r = ap (λ (b : Bool). cond b ms (group_of k xs)) (held ∙ t) ∙ r f

pub groups-append : {C : Type 0} {g : Ghosts C} (gs : List (Group C g)) (xs : List (List ModelMember)) (y : Group C g) (now : List ModelMember) → GroupsStand gs xs → AllStandFor (members_in y) now → GroupsStand (gs ++ y ∷ []) (xs ++ now ∷ [])
groups-append [] [] y now h s = (s, tt)
groups-append [] (ms ∷ xs) y now h s = absurd h
groups-append (z ∷ gs) [] y now h s = absurd h
groups-append (z ∷ gs) (ms ∷ xs) y now h s = (h.0, groups-append gs xs y now h.1 s)

-- ---- a member that is sought from the front

-- none of the first i has the number
abbrev pub free_first : ℕ → SubId → List SubId → Bool
free_first zero k js = true
free_first (suc i) k [] = true
free_first (suc i) k (j ∷ js) = not (nat_eq j.0 k.0) && free_first i k js

both : (a b : Bool) → (not a && b) ≡ true → (a ≡ false) × (b ≡ true)
both true b h = absurd (let no : ⊥ = cc in no)
both false b h = (refl, h)

-- what was found for k
pub record IsFound {C : Type 0} {g : Ghosts C} (k : SubId) (m : Member C g) (xs : List ModelMember) : Type 0 where
  pub held : holds k xs ≡ true
  pub stands : StandsFor m.stream (stream_of k xs)

pub found_at : {C : Type 0} {g : Ghosts C} (ms : List (Member C g)) (xs : List ModelMember) (i : ℕ) (k : SubId) (m : Member C g) → AllStandFor ms xs → slice_get ms i ≡ Some m → m.sub.0 ≡ k.0
    → free_first i k (numbers_of ms) ≡ true → IsFound k m xs
found_at [] xs i k m h at e f = absurd (let no : ⊥ = cc in no)
found_at (n ∷ ms) [] i k m h at e f = absurd h
found_at {C = C} {g = g} (n ∷ ms) (x ∷ xs) zero k m h at e f =
    let same : n ≡ m = cc in
    let here : nat_eq n.sub.0 k.0 ≡ true = grind (arith, nat_tests, ap (λ (q : Member C g). q.sub.0) same, e) in
    let test : nat_eq x.sub.0 k.0 ≡ true = ap (λ (j : SubId). nat_eq j.0 k.0) (sym h.0.member.number) ∙ here in
    subst (λ (q : Member C g). IsFound k q (x ∷ xs)) same
    (record { held = ap (λ (b : Bool). b || holds k xs) test; stands = subst (λ (s : Stream). StandsFor n.stream s) (sym (ap (λ (b : Bool). cond b x.stream (stream_of k xs)) test)) h.0.stream })
found_at (n ∷ ms) (x ∷ xs) (suc i) k m h at e f =
    let p = both (nat_eq n.sub.0 k.0) (free_first i k (numbers_of ms)) f in
    let test : nat_eq x.sub.0 k.0 ≡ false = ap (λ (j : SubId). nat_eq j.0 k.0) (sym h.0.member.number) ∙ p.0 in
    let r = found_at ms xs i k m h.1 at e p.1 in
    record { held = ap (λ (b : Bool). b || holds k xs) test ∙ r.held; stands = subst (λ (s : Stream). StandsFor m.stream s) (sym (ap (λ (b : Bool). cond b x.stream (stream_of k xs)) test)) r.stands }

pub free_next : {C : Type 0} {g : Ghosts C} (ms : List (Member C g)) (i : ℕ) (k : SubId) (m : Member C g) → slice_get ms i ≡ Some m → (m.sub.0 ≡ k.0 → ⊥) → free_first i k (numbers_of ms) ≡ true → free_first (suc i) k (numbers_of ms) ≡ true
free_next [] i k m at ne f = refl
free_next {C = C} {g = g} (n ∷ ms) zero k m at ne f =
    let same : n ≡ m = cc in
    by (nat_eq n.sub.0 k.0) refl (ap (λ (q : Member C g). q.sub.0) same)
  where
    by : (b : Bool) → nat_eq n.sub.0 k.0 ≡ b → n.sub.0 ≡ m.sub.0 → (not b && true) ≡ true
    by true t s = absurd (let e : m.sub.0 ≡ k.0 = grind (arith, nat_tests, t, s) in ne e)
    by false t s = refl
free_next (n ∷ ms) (suc i) k m at ne f =
    let p = both (nat_eq n.sub.0 k.0) (free_first i k (numbers_of ms)) f in
    ap (λ (b : Bool). not b && free_first (suc i) k (numbers_of ms)) p.0 ∙ free_next ms i k m at ne p.1

pub free_all : {C : Type 0} {g : Ghosts C} (ms : List (Member C g)) (xs : List ModelMember) (i : ℕ) (k : SubId) → AllStandFor ms xs → length ms ≤ i → free_first i k (numbers_of ms) ≡ true → holds k xs ≡ false
free_all [] [] i k h le f = refl
free_all [] (x ∷ xs) i k h le f = absurd h
free_all (n ∷ ms) [] i k h le f = absurd h
free_all (n ∷ ms) (x ∷ xs) zero k h le f = absurd (let no : ⊥ = omega (arith, le) in no)
free_all (n ∷ ms) (x ∷ xs) (suc i) k h le f =
    let p = both (nat_eq n.sub.0 k.0) (free_first i k (numbers_of ms)) f in
    let test : nat_eq x.sub.0 k.0 ≡ false = ap (λ (j : SubId). nat_eq j.0 k.0) (sym h.0.member.number) ∙ p.0 in
    ap (λ (b : Bool). b || holds k xs) test ∙ free_all ms xs i k h.1 (omega (arith, le)) p.1

-- ---- the same with the first place 0

pub group_there : {C : Type 0} {g : Ghosts C} (gs : List (Group C g)) (xs : List (List ModelMember)) (i : ℕ) (k : SubId) (x : Group C g)
    → GroupsStand gs xs → place_in k (numbers_in gs) ≡ Some i → slice_get gs i ≡ Some x → IsThere k x (group_of k xs)
group_there gs xs i k x h e at = let z : i ≡ 0 + i = omega arith in group_at gs xs 0 i k x h (e ∙ ap (λ (p : ℕ). Some p) z) at

pub groups_then : {C : Type 0} {g : Ghosts C} (gs : List (Group C g)) (xs : List (List ModelMember)) (i : ℕ) (k : SubId) (y : Group C g) (now : List ModelMember)
    → GroupsStand gs xs → place_in k (numbers_in gs) ≡ Some i → AllStandFor (members_in y) now → GroupsStand (set gs i y) (with_group k now xs)
groups_then gs xs i k y now h e s = let z : i ≡ 0 + i = omega arith in groups_with gs xs 0 i k y now h (e ∙ ap (λ (p : ℕ). Some p) z) s

pub held_at : {C : Type 0} {g : Ghosts C} (gs : List (Group C g)) (n i : ℕ) (k : SubId) (x : Group C g) → place_from n k (numbers_in gs) ≡ Some (n + i) → slice_get gs i ≡ Some x → is_member k (numbers_of (members_in x)) ≡ true
held_at [] n i k x e at = absurd (let no : ⊥ = cc in no)
held_at {C = C} {g = g} (y ∷ gs) n zero k x e at = by (is_member k (numbers_of (members_in y))) refl e
  where
    here : y ≡ x
    here = let same : y ≡ x = cc in same

    by : (b : Bool) → is_member k (numbers_of (members_in y)) ≡ b → cond b (Some n) (place_from (n + 1) k (numbers_in gs)) ≡ Some (n + 0) → is_member k (numbers_of (members_in x)) ≡ true
    by true t f = subst (λ (z : Group C g). is_member k (numbers_of (members_in z)) ≡ true) here t
    by false t f = absurd (let l : n + 1 ≤ n + 0 = place_least (n + 1) (n + 0) k (numbers_in gs) f in let no : ⊥ = omega (arith, l) in no)
held_at (y ∷ gs) n (suc i) k x e at = by (is_member k (numbers_of (members_in y))) e (λ f. held_at gs (n + 1) i k x f at)
  where
    by : (b : Bool) → cond b (Some n) (place_from (n + 1) k (numbers_in gs)) ≡ Some (n + suc i)
        → (place_from (n + 1) k (numbers_in gs) ≡ Some (n + 1 + i) → is_member k (numbers_of (members_in x)) ≡ true) → is_member k (numbers_of (members_in x)) ≡ true
    by true f r = absurd (let same : n ≡ n + suc i = cc in let no : ⊥ = omega (arith, same) in no)
    by false f r = let more : n + suc i ≡ n + 1 + i = omega arith in r (f ∙ ap (λ (p : ℕ). Some p) more)

pub held_there : {C : Type 0} {g : Ghosts C} (gs : List (Group C g)) (i : ℕ) (k : SubId) (x : Group C g) → place_in k (numbers_in gs) ≡ Some i → slice_get gs i ≡ Some x → is_member k (numbers_of (members_in x)) ≡ true
held_there gs i k x e at = let z : i ≡ 0 + i = omega arith in held_at gs 0 i k x (e ∙ ap (λ (p : ℕ). Some p) z) at

place_most : (n p : ℕ) (k : SubId) (kss : List (List SubId)) → place_from n k kss ≡ Some p → p < n + length kss
place_most n p k [] e = absurd (let no : ⊥ = cc in no)
place_most n p k (ks ∷ kss) e = by (is_member k ks) e (place_most (n + 1) p k kss)
  where
    by : (b : Bool) → cond b (Some n) (place_from (n + 1) k kss) ≡ Some p → (place_from (n + 1) k kss ≡ Some p → p < n + 1 + length kss) → p < n + suc (length kss)
    by true h f = let same : n ≡ p = cc in omega (arith, same)
    by false h f = let l : p < n + 1 + length kss = f h in omega (arith, l)

pub place_within : {C : Type 0} {g : Ghosts C} (gs : List (Group C g)) (i : ℕ) (k : SubId) → place_in k (numbers_in gs) ≡ Some i → i < length gs
place_within gs i k e = let l : i < 0 + length (numbers_in gs) = place_most 0 i k (numbers_in gs) e in omega (arith, l, numbers-count gs)

-- ---- one group more

pub numbers-append : {C : Type 0} {g : Ghosts C} (gs : List (Group C g)) (y : Group C g) → numbers_in (gs ++ y ∷ []) ≡ numbers_in gs ++ numbers_of (members_in y) ∷ []
numbers-append [] y = refl
numbers-append (x ∷ gs) y = ap (λ (kss : List (List SubId)). numbers_of (members_in x) ∷ kss) (numbers-append gs y)

all_numbers-append : (kss : List (List SubId)) (k : SubId) → all_numbers (kss ++ (k ∷ []) ∷ []) ≡ all_numbers kss ++ k ∷ []
all_numbers-append [] k = refl
all_numbers-append (ks ∷ kss) k = ap (λ (l : List SubId). ks ++ l) (all_numbers-append kss k) ∙ assoc ks (all_numbers kss) (k ∷ [])
  where
    assoc : (a b c : List SubId) → a ++ (b ++ c) ≡ (a ++ b) ++ c
    assoc [] b c = refl
    assoc (x ∷ a) b c = ap (λ (l : List SubId). x ∷ l) (assoc a b c)

absent_both : (k : SubId) (a b : List SubId) → is_member k a ≡ false → is_member k b ≡ false → is_member k (a ++ b) ≡ false
absent_both k [] b h e = e
absent_both k (j ∷ a) b h e = by (nat_eq j.0 k.0) h (λ f. absent_both k a b f e)
  where
    by : (t : Bool) → (t || is_member k a) ≡ false → (is_member k a ≡ false → is_member k (a ++ b) ≡ false) → (t || is_member k (a ++ b)) ≡ false
    by true f r = absurd (let no : ⊥ = cc in no)
    by false f r = r f

absent_all : (n : ℕ) (k : SubId) (kss : List (List SubId)) → place_from n k kss ≡ None → is_member k (all_numbers kss) ≡ false
absent_all n k [] e = refl
absent_all n k (ks ∷ kss) e = by (is_member k ks) refl e (absent_all (n + 1) k kss)
  where
    by : (b : Bool) → is_member k ks ≡ b → cond b (Some n) (place_from (n + 1) k kss) ≡ None → (place_from (n + 1) k kss ≡ None → is_member k (all_numbers kss) ≡ false) → is_member k (ks ++ all_numbers kss) ≡ false
    by true t f r = absurd (let no : ⊥ = cc in no)
    by false t f r = absent_both k ks (all_numbers kss) t (r f)

below-append : (ks : List SubId) (k : SubId) → are_below ks ≡ true → k.0 < 16 → are_below (ks ++ k ∷ []) ≡ true
below-append [] k h b = let t : nat_lt k.0 16 ≡ true = grind (arith, nat_tests, b) in ap (λ (q : Bool). q && true) t
below-append (j ∷ ks) k h b = by (nat_lt j.0 16) h (λ f. below-append ks k f b)
  where
    by : (t : Bool) → (t && are_below ks) ≡ true → (are_below ks ≡ true → are_below (ks ++ k ∷ []) ≡ true) → (t && are_below (ks ++ k ∷ [])) ≡ true
    by true f r = r f
    by false f r = absurd (let no : ⊥ = cc in no)

pub numbers_more : (kss : List (List SubId)) (k : SubId) → place_in k kss ≡ None → k.0 < 16 → AreNumbers kss → AreNumbers (kss ++ (k ∷ []) ∷ [])
numbers_more kss k e b h = record {
  distinct = ap (λ (l : List SubId). all_differ l) (all_numbers-append kss k) ∙ differ-append (all_numbers kss) k (absent_all 0 k kss e) h.distinct;
  below = ap (λ (l : List SubId). are_below l) (all_numbers-append kss k) ∙ (below-append (all_numbers kss) k h.below b);
}

-- ---- calls in progress

no_client : (c : ClientId) (ys : List Sleeper) → waiting_of c (waiting ys) ≡ None → has_client c ys ≡ false
no_client c [] h = refl
no_client c (y ∷ ys) h = by (nat_eq y.client.0 c.0) h (λ f. no_client c ys f)
  where
    by : (b : Bool) → cond b (Some y.task) (waiting_of c (waiting ys)) ≡ None → (waiting_of c (waiting ys) ≡ None → has_client c ys ≡ false) → (b || has_client c ys) ≡ false
    by true f r = absurd (let no : ⊥ = cc in no)
    by false f r = r f

pub free_members : {C : Type 0} {g : Ghosts C} (ms : List (Member C g)) (xs : List ModelMember) (e : Call) (k : SubId) (c : ClientId) (i : ℕ) (d : Member C g) → AllStandFor ms xs → AreFreeFor e k c xs → i < length ms
    → is_its_own e k (get_or ms i d).sub ≡ false → has_client c (get_or ms i d).sleepers ≡ false
free_members [] xs e k c i d h f b own = absurd (let no : ⊥ = omega (arith, b) in no)
free_members (m ∷ ms) [] e k c i d h f b own = absurd h
free_members (m ∷ ms) (x ∷ xs) e k c zero d h f b own =
    no_client c m.sleepers (ap (λ (l : List Waiting). waiting_of c l) h.0.member.calls ∙ f.0 (ap (λ (j : SubId). is_its_own e k j) (sym h.0.member.number) ∙ own))
free_members (m ∷ ms) (x ∷ xs) e k c (suc i) d h f b own = free_members ms xs e k c i d h.1 f.1 (omega (arith, b)) own

-- an emulated card tells its fault plan
pub tells : (ms : List (Member AnyCard ghosts)) → all_true (all_tell ms) ≡ true
tells [] = refl
tells (m ∷ ms) = tells ms

-- where there is no answer for the one reason, there is none for the other
pub match_other : {X : Type 0} (o : Option X) (a b : Type 0) (f : X → Type 0) → (a → b) → MatchOption o a f → MatchOption o b f
match_other None a b f r h = r h
match_other (Some x) a b f r h = h

pub not_both : (b : Bool) → b ≡ true → b ≡ false → ⊥
not_both true h f = cc
not_both false h f = cc

-- ---- what cards have taken

pub taken-fresh : {C : Type 0} {g : Ghosts C} (k : SubId) (ms : List (Member C g)) (j : SubId) (m : CardModel) (d : Dir) (n : ℕ) → AllStandFor ms (lone j m d n) → taken_by k ms ≡ []
taken-fresh k [] j m d n h = refl
taken-fresh k (x ∷ y ∷ ms) j m d n h = absurd h.1
taken-fresh k (x ∷ []) j m d n h = by (nat_eq x.sub.0 k.0)
  where
    none : (card_of x.stream).taken ≡ []
    none = h.0.stream.shows.taken

    by : (b : Bool) → cond b (card_of x.stream).taken [] ≡ []
    by true = none
    by false = refl

pub taken-append : {C : Type 0} {g : Ghosts C} (k : SubId) (gs : List (Group C g)) (y : Group C g) → taken_by k (members_in y) ≡ [] → taken_of k (gs ++ y ∷ []) ≡ taken_of k gs
taken-append k [] y e = by (is_member k (numbers_of (members_in y)))
  where
    by : (b : Bool) → cond b (taken_by k (members_in y)) [] ≡ []
    by true = e
    by false = refl
taken-append k (x ∷ gs) y e = ap (λ (l : List ℕ). cond (is_member k (numbers_of (members_in x))) (taken_by k (members_in x)) l) (taken-append k gs y e)

-- the taken bytes of a card are those of the stream that its substream stands for
taken_by-stands : {C : Type 0} {g : Ghosts C} (k : SubId) (ms : List (Member C g)) (xs : List ModelMember) → AllStandFor ms xs → taken_by k ms ≡ bytes_of (stream_of k xs).card.taken
taken_by-stands k [] [] h = refl
taken_by-stands k [] (x ∷ xs) h = absurd h
taken_by-stands k (m ∷ ms) [] h = absurd h
taken_by-stands {C = C} {g = g} k (m ∷ ms) (x ∷ xs) h = by (nat_eq m.sub.0 k.0) refl (taken_by-stands k ms xs h.1)
  where
    held : nat_eq x.sub.0 k.0 ≡ nat_eq m.sub.0 k.0
    held = ap (λ (j : SubId). nat_eq j.0 k.0) (sym h.0.member.number)

    by : (b : Bool) → nat_eq m.sub.0 k.0 ≡ b → taken_by k ms ≡ bytes_of (stream_of k xs).card.taken
        → cond b (card_of m.stream).taken (taken_by k ms) ≡ bytes_of (stream_of k (x ∷ xs)).card.taken
    by true t r = h.0.stream.shows.taken ∙ sym (ap (λ (b : Bool). bytes_of (cond b x.stream (stream_of k xs)).card.taken) (held ∙ t))
    by false t r = r ∙ sym (ap (λ (b : Bool). bytes_of (cond b x.stream (stream_of k xs)).card.taken) (held ∙ t))

pub taken-stands : {C : Type 0} {g : Ghosts C} (k : SubId) (gs : List (Group C g)) (xs : List (List ModelMember)) → GroupsStand gs xs → taken_of k gs ≡ bytes_of (stream_of k (group_of k xs)).card.taken
taken-stands k [] [] h = refl
taken-stands k [] (ms ∷ xs) h = absurd h
taken-stands k (x ∷ gs) [] h = absurd h
taken-stands {C = C} {g = g} k (x ∷ gs) (ms ∷ xs) h = by (is_member k (numbers_of (members_in x))) refl (taken-stands k gs xs h.1)
  where
    held : holds k ms ≡ is_member k (numbers_of (members_in x))
    held = holds_as k (members_in x) ms h.0

    by : (b : Bool) → is_member k (numbers_of (members_in x)) ≡ b → taken_of k gs ≡ bytes_of (stream_of k (group_of k xs)).card.taken
        → cond b (taken_by k (members_in x)) (taken_of k gs) ≡ bytes_of (stream_of k (group_of k (ms ∷ xs))).card.taken
    by true t r = taken_by-stands k (members_in x) ms h.0 ∙ sym (ap (λ (b : Bool). bytes_of (stream_of k (cond b ms (group_of k xs))).card.taken) (held ∙ t))
    by false t r = r ∙ sym (ap (λ (b : Bool). bytes_of (stream_of k (cond b ms (group_of k xs))).card.taken) (held ∙ t))

-- ---- the length of what is lent

-- what is asked of the length of the bytes of a call can be shown from what is known only to be so
pub length-lent : (e : Call) (io : List ℕ) (s : Stream) (P : Type 0) → ∥ P ∥₁ → (P → HasLength e io s) → HasLength e io s
length-lent (call.Read w m n) io s P h f = λ a b d. ∥∥₁_elim h (Coded-set coded_ℕ _ _) (λ p. f p a b d)
length-lent (call.Load o n) io s P h f = λ a. ∥∥₁_elim h (Coded-set coded_ℕ _ _) (λ p. f p a)
length-lent call.OpenSub io s P h f = tt
length-lent call.CloseSub io s P h f = tt
length-lent (call.HwParams g) io s P h f = tt
length-lent call.HwFree io s P h f = tt
length-lent (call.SwParams w) io s P h f = tt
length-lent call.Prepare io s P h f = tt
length-lent call.Start io s P h f = tt
length-lent call.DropNow io s P h f = tt
length-lent (call.Drain m) io s P h f = tt
length-lent call.PausePush io s P h f = tt
length-lent call.PauseRelease io s P h f = tt
length-lent call.Suspend io s P h f = tt
length-lent call.Resume io s P h f = tt
length-lent call.Xrun io s P h f = tt
length-lent (call.Write w m) io s P h f = tt
length-lent (call.Rewind n) io s P h f = tt
length-lent (call.Forward n) io s P h f = tt
length-lent call.Hwsync io s P h f = tt
length-lent call.Delay io s P h f = tt
length-lent (call.SyncPtr p) io s P h f = tt
length-lent call.Status io s P h f = tt
length-lent call.PageNow io s P h f = tt
length-lent call.Poll io s P h f = tt
length-lent call.Map io s P h f = tt
length-lent call.Unmap io s P h f = tt
length-lent (call.Store o) io s P h f = tt
length-lent (call.Link j) io s P h f = tt
length-lent call.Unlink io s P h f = tt
length-lent call.Go io s P h f = tt
length-lent (call.MoveBy n) io s P h f = tt
length-lent call.Irq io s P h f = tt
length-lent (call.FailAt i) io s P h f = tt
length-lent call.Give io s P h f = tt
length-lent call.Unplug io s P h f = tt

-- ---- a group in the place of another

pub group_of-with : (k : SubId) (now : List ModelMember) (xs : List (List ModelMember)) → holds k now ≡ true → holds k (group_of k xs) ≡ true → group_of k (with_group k now xs) ≡ now
group_of-with k now [] h e = absurd (let no : ⊥ = cc in no)
group_of-with k now (ms ∷ xs) h e = by (holds k ms) refl e (group_of-with k now xs h)
  where
    by : (b : Bool) → holds k ms ≡ b → holds k (cond b ms (group_of k xs)) ≡ true → (holds k (group_of k xs) ≡ true → group_of k (with_group k now xs) ≡ now) → group_of k (cond b (now ∷ xs) (ms ∷ with_group k now xs)) ≡ now
    by true t f r = ap (λ (b : Bool). cond b now (group_of k xs)) h
    by false t f r = ap (λ (b : Bool). cond b ms (group_of k (with_group k now xs))) t ∙ r f

set_own : {X : Type 0} (xs : List X) (i : ℕ) (x : X) → slice_get xs i ≡ Some x → set xs i x ≡ xs
set_own [] i x at = refl
set_own {X = X} (y ∷ xs) zero x at = let same : y ≡ x = cc in ap (λ (z : X). z ∷ xs) (sym same)
set_own (y ∷ xs) (suc i) x at = ap (λ (l : List _). y ∷ l) (set_own xs i x at)

-- a group stands for other members too
pub groups_with_own : {C : Type 0} {g : Ghosts C} (gs : List (Group C g)) (xs : List (List ModelMember)) (i : ℕ) (k : SubId) (y : Group C g) (now : List ModelMember)
    → GroupsStand gs xs → place_in k (numbers_in gs) ≡ Some i → slice_get gs i ≡ Some y → AllStandFor (members_in y) now → GroupsStand gs (with_group k now xs)
groups_with_own {C = C} {g = g} gs xs i k y now h e at s = subst (λ (l : List (Group C g)). GroupsStand l (with_group k now xs)) (set_own gs i y at) (groups_then gs xs i k y now h e s)

-- a substream that was found is declared
held_from : {C : Type 0} {g : Ghosts C} (gs : List (Group C g)) (xs : List (List ModelMember)) (n i : ℕ) (k : SubId) → GroupsStand gs xs → place_from n k (numbers_in gs) ≡ Some i → holds k (group_of k xs) ≡ true
held_from [] xs n i k h e = absurd (let no : ⊥ = cc in no)
held_from (y ∷ gs) [] n i k h e = absurd h
held_from {C = C} {g = g} (y ∷ gs) (ms ∷ xs) n i k h e = by (is_member k (numbers_of (members_in y))) refl e (held_from gs xs (n + 1) i k h.1)
  where
    held : holds k ms ≡ is_member k (numbers_of (members_in y))
    held = holds_as k (members_in y) ms h.0

    by : (b : Bool) → is_member k (numbers_of (members_in y)) ≡ b → cond b (Some n) (place_from (n + 1) k (numbers_in gs)) ≡ Some i
        → (place_from (n + 1) k (numbers_in gs) ≡ Some i → holds k (group_of k xs) ≡ true) → holds k (group_of k (ms ∷ xs)) ≡ true
    by true t f r = ap (λ (b : Bool). holds k (cond b ms (group_of k xs))) (held ∙ t) ∙ (held ∙ t)
    by false t f r = ap (λ (b : Bool). holds k (cond b ms (group_of k xs))) (held ∙ t) ∙ r f

pub place_held : {C : Type 0} {g : Ghosts C} (gs : List (Group C g)) (xs : List (List ModelMember)) (k : SubId) (i : ℕ) → GroupsStand gs xs → place_in k (numbers_in gs) ≡ Some i → holds k (group_of k xs) ≡ true
place_held gs xs k i h e = held_from gs xs 0 i k h e
