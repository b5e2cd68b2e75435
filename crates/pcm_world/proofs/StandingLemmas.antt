-- What holds of the streams for which the groups of a world stand.
use Rattle.std.proofs.Common.{◌≡◌, ◌+◌, ◌<◌, ◌≤◌, Bool, true, false, cond, not, ◌||◌, ◌&&◌, nat_eq, List, [], ◌∷◌, Option, Some, None, refl, sym, ap, ◌∙◌, subst, arith}
use Rattle.pcm_base.specs.declared.card.Card.{Ghosts}
use Rattle.pcm_base.specs.declared.config.Config.{Config}
use Rattle.pcm_base.specs.declared.ids.ClientId.{ClientId}
use Rattle.pcm_base.specs.declared.ids.SubId.{SubId}
use Rattle.pcm_base.specs.declared.sleeper.Sleeper.{Sleeper}
use Rattle.pcm_base.specs.declared.sleeper.Task.{Task}
use Rattle.pcm_base.specs.model.Acts.{subs}
use Rattle.pcm_base.specs.model.Events.{waiting_of}
use Rattle.pcm_base.specs.model.Group.{stream_of}
use Rattle.pcm_base.specs.model.Replay.{Distinct, is_member}
use Rattle.pcm_base.specs.model.Sound.{Sound}
use Rattle.pcm_base.specs.model.Stream.{Stream, Waiting, Member as ModelMember, is_bare, no_stream}
use Rattle.pcm_base.specs.model.World.{group_of, holds, with_group}
use Rattle.pcm_laws.specs.Waiting.{HaveDistinctClients}
use Rattle.sleepers.specs.Clients.{AreApart, has_client}
use Rattle.sleepers.specs.Marks.{waiting}
use Rattle.pcm_stream.specs.declared.members.Member.{Member}
use Rattle.pcm_stream.specs.declared.runtime.Runtime.{Runtime}
use Rattle.pcm_stream.specs.Members.{all_differ, numbers_of}
use Rattle.pcm_stream.specs.MembersStand.{AllStandFor, CallsFit, MemberStandsFor, TaskFits}
use Rattle.pcm_stream.specs.Runs.{RunsFor}
use Rattle.pcm_group.specs.declared.group.Group.{Group}
use Rattle.pcm_group.specs.Inside.{members_in}
use Rattle.pcm_world.specs.Calls.{stream_at}
use Rattle.pcm_world.specs.Groups.{AreNumbers, GroupsStand, all_numbers, numbers_in}
use Rattle.pcm_world.proofs.CountLemmas.{at_most_once, below_at, differ_from, some_times, times, times-append, times_none}

-- ---- each stream

-- its calls in progress are of distinct clients and fit it, and where it has a configuration, a substream runs for it
pub record IsFit (s : Stream) : Type 0 where
  pub distinct : HaveDistinctClients s.sleepers
  pub fit : CallsFit s s.sleepers
  pub runs : is_bare s ≡ false → (r : Runtime) × RunsFor r s
  pub sound : Sound s

none-waits : (c : ClientId) (ys : List Sleeper) → has_client c ys ≡ false → waiting_of c (waiting ys) ≡ None
none-waits c [] h = refl
none-waits c (y ∷ ys) h = by (nat_eq y.client.0 c.0) h (none-waits c ys)
  where
    by : (b : Bool) → (b || has_client c ys) ≡ false → (has_client c ys ≡ false → waiting_of c (waiting ys) ≡ None) → cond b (Some y.task) (waiting_of c (waiting ys)) ≡ None
    by true f r = absurd (let no : ⊥ = cc in no)
    by false f r = r f

distinct-waits : (ys : List Sleeper) → AreApart ys → HaveDistinctClients (waiting ys)
distinct-waits [] h = tt
distinct-waits (y ∷ ys) h = (none-waits y.client ys h.1, distinct-waits ys h.2)

fit-member : {C : Type 0} {g : Ghosts C} (m : Member C g) (x : ModelMember) → MemberStandsFor m x → IsFit x.stream
fit-member m x h = record {
  distinct = subst HaveDistinctClients h.member.calls (distinct-waits m.sleepers h.member.apart);
  fit = h.member.fit;
  runs = λ some. by m.stream.runtime refl some;
  sound = h.stream.sound;
}
  where
    bare : (o : Option Config) → o ≡ None → (elim o as (λ _. Bool) [ None ↦ true | Some c ↦ false ]) ≡ true
    bare o e = ap (λ (p : Option Config). elim p as (λ _. Bool) [ None ↦ true | Some c ↦ false ]) e

    by : (o : Option Runtime) → m.stream.runtime ≡ o → is_bare x.stream ≡ false → (r : Runtime) × RunsFor r x.stream
    by None e some = absurd (let two : true ≡ false = sym (bare x.stream.setup.config (h.stream.shows.unset e).unset) ∙ some in let no : ⊥ = cc in no)
    by (Some r) e some = (r, h.stream.shows.runs_for r e)

fit-none : IsFit no_stream
fit-none = record { distinct = tt; fit = tt; runs = λ some. absurd (let no : ⊥ = cc in no); sound = record { state = refl; setup = refl; at = refl; moved = refl; stands = refl; unmapped = refl; taken = refl; to_give = refl; kept = refl } }

fit-members : {C : Type 0} {g : Ghosts C} (ms : List (Member C g)) (xs : List ModelMember) (k : SubId) → AllStandFor ms xs → IsFit (stream_of k xs)
fit-members [] [] k h = fit-none
fit-members [] (x ∷ xs) k h = absurd h
fit-members (m ∷ ms) [] k h = absurd h
fit-members (m ∷ ms) (x ∷ xs) k h = by (nat_eq x.sub.0 k.0) (fit-members ms xs k h.1)
  where
    by : (b : Bool) → IsFit (stream_of k xs) → IsFit (cond b x.stream (stream_of k xs))
    by true r = fit-member m x h.0
    by false r = r

pub fit-at : {C : Type 0} {g : Ghosts C} (gs : List (Group C g)) (xs : List (List ModelMember)) (k : SubId) → GroupsStand gs xs → IsFit (stream_at k xs)
fit-at [] [] k h = fit-none
fit-at [] (ms ∷ xs) k h = absurd h
fit-at (y ∷ gs) [] k h = absurd h
fit-at (y ∷ gs) (ms ∷ xs) k h = by (holds k ms) (fit-at gs xs k h.1)
  where
    by : (b : Bool) → IsFit (stream_at k xs) → IsFit (stream_of k (cond b ms (group_of k xs)))
    by true r = fit-members (members_in y) ms k h.0
    by false r = r

pub task-fits : (c : ClientId) (t : Task) (s : Stream) (ps : List Waiting) → CallsFit s ps → waiting_of c ps ≡ Some t → TaskFits s t
task-fits c t s [] f h = absurd (let no : ⊥ = cc in no)
task-fits c t s (p ∷ ps) f h = by (nat_eq p.client.0 c.0) h (task-fits c t s ps f.1)
  where
    by : (b : Bool) → cond b (Some p.task) (waiting_of c ps) ≡ Some t → (waiting_of c ps ≡ Some t → TaskFits s t) → TaskFits s t
    by true e r = let same : p.task ≡ t = cc in subst (λ (u : Task). TaskFits s u) same f.0
    by false e r = r e

-- ---- each number once

subs-numbers : {C : Type 0} {g : Ghosts C} (ms : List (Member C g)) (xs : List ModelMember) → AllStandFor ms xs → numbers_of ms ≡ subs xs
subs-numbers [] [] h = refl
subs-numbers [] (x ∷ xs) h = absurd h
subs-numbers (m ∷ ms) [] h = absurd h
subs-numbers (m ∷ ms) (x ∷ xs) h = ap (λ (k : SubId). k ∷ numbers_of ms) h.0.member.number ∙ ap (λ (ks : List SubId). x.sub ∷ ks) (subs-numbers ms xs h.1)

pub holds-member : (k : SubId) (xs : List ModelMember) → holds k xs ≡ is_member k (subs xs)
holds-member k [] = refl
holds-member k (x ∷ xs) = ap (λ (b : Bool). nat_eq x.sub.0 k.0 || b) (holds-member k xs)

-- no number comes twice in the groups
IsOnce : {C : Type 0} {g : Ghosts C} → List (Group C g) → Type 0
IsOnce gs = (l : SubId) → times l (all_numbers (numbers_in gs)) ≤ 1

once-of : {C : Type 0} {g : Ghosts C} (gs : List (Group C g)) → AreNumbers (numbers_in gs) → IsOnce gs
unfolding IsOnce
once-of gs h = at_most_once (all_numbers (numbers_in gs)) h.distinct

times-first : {C : Type 0} {g : Ghosts C} (l : SubId) (y : Group C g) (gs : List (Group C g)) (ms : List ModelMember) → AllStandFor (members_in y) ms
    → times l (all_numbers (numbers_in (y ∷ gs))) ≡ times l (subs ms) + times l (all_numbers (numbers_in gs))
times-first l y gs ms h = times-append l (numbers_of (members_in y)) (all_numbers (numbers_in gs)) ∙ ap (λ (ks : List SubId). times l ks + times l (all_numbers (numbers_in gs))) (subs-numbers (members_in y) ms h)

once-rest : {C : Type 0} {g : Ghosts C} (y : Group C g) (gs : List (Group C g)) (ms : List ModelMember) → AllStandFor (members_in y) ms → IsOnce (y ∷ gs) → IsOnce gs
unfolding IsOnce
once-rest y gs ms s h = λ l. let e = times-first l y gs ms s in let a : times l (all_numbers (numbers_in (y ∷ gs))) ≤ 1 = h l in omega (arith, e, a)

held-among : {C : Type 0} {g : Ghosts C} (gs : List (Group C g)) (xs : List (List ModelMember)) (j k : SubId) → GroupsStand gs xs → holds j (group_of k xs) ≡ true → 1 ≤ times j (all_numbers (numbers_in gs))
held-among [] [] j k h e = absurd (let no : ⊥ = cc in no)
held-among [] (ms ∷ xs) j k h e = absurd h
held-among (y ∷ gs) [] j k h e = absurd h
held-among (y ∷ gs) (ms ∷ xs) j k h e = by (holds k ms) e (held-among gs xs j k h.1)
  where
    by : (b : Bool) → holds j (cond b ms (group_of k xs)) ≡ true → (holds j (group_of k xs) ≡ true → 1 ≤ times j (all_numbers (numbers_in gs))) → 1 ≤ times j (all_numbers (numbers_in (y ∷ gs)))
    by true f r = let here : 1 ≤ times j (subs ms) = some_times j (subs ms) (sym (holds-member j ms) ∙ f) in let t = times-first j y gs ms h.0 in omega (arith, here, t)
    by false f r = let there : 1 ≤ times j (all_numbers (numbers_in gs)) = r f in let t = times-first j y gs ms h.0 in omega (arith, there, t)

-- what stands in a later group stands not in the first
not-here : {C : Type 0} {g : Ghosts C} (y : Group C g) (gs : List (Group C g)) (ms : List ModelMember) (xs : List (List ModelMember)) (j k : SubId) → IsOnce (y ∷ gs) → AllStandFor (members_in y) ms → GroupsStand gs xs
    → holds j (group_of k xs) ≡ true → holds j ms ≡ false
unfolding IsOnce
not-here y gs ms xs j k once s h e = by (holds j ms) refl
  where
    by : (b : Bool) → holds j ms ≡ b → b ≡ false
    by false f = refl
    by true f = absurd (
        let here : 1 ≤ times j (subs ms) = some_times j (subs ms) (sym (holds-member j ms) ∙ f) in
        let there : 1 ≤ times j (all_numbers (numbers_in gs)) = held-among gs xs j k h e in
        let t = times-first j y gs ms s in
        let most : times j (all_numbers (numbers_in (y ∷ gs))) ≤ 1 = once j in
        let no : ⊥ = omega (arith, here, there, t, most) in no)

member-once : {C : Type 0} {g : Ghosts C} (gs : List (Group C g)) (xs : List (List ModelMember)) (j k : SubId) → IsOnce gs → GroupsStand gs xs → holds j (group_of k xs) ≡ true → group_of j xs ≡ group_of k xs
member-once [] [] j k once h e = refl
member-once [] (ms ∷ xs) j k once h e = absurd h
member-once (y ∷ gs) [] j k once h e = absurd h
member-once (y ∷ gs) (ms ∷ xs) j k once h e = by (holds k ms) e (λ f. member-once gs xs j k (once-rest y gs ms h.0 once) h.1 f)
  where
    by : (b : Bool) → holds j (cond b ms (group_of k xs)) ≡ true → (holds j (group_of k xs) ≡ true → group_of j xs ≡ group_of k xs) → group_of j (ms ∷ xs) ≡ cond b ms (group_of k xs)
    by true f r = ap (λ (b : Bool). cond b ms (group_of j xs)) f
    by false f r = ap (λ (b : Bool). cond b ms (group_of j xs)) (not-here y gs ms xs j k once h.0 h.1 f) ∙ r f

-- the group of each of its members
pub group_of-member : {C : Type 0} {g : Ghosts C} (gs : List (Group C g)) (xs : List (List ModelMember)) (j k : SubId) → AreNumbers (numbers_in gs) → GroupsStand gs xs → holds j (group_of k xs) ≡ true → group_of j xs ≡ group_of k xs
group_of-member gs xs j k n h e = member-once gs xs j k (once-of gs n) h e

with-once : {C : Type 0} {g : Ghosts C} (gs : List (Group C g)) (xs : List (List ModelMember)) (j k : SubId) (now : List ModelMember) → IsOnce gs → GroupsStand gs xs → holds k (group_of k xs) ≡ true → holds j (group_of k xs) ≡ true
    → holds j now ≡ true → group_of j (with_group k now xs) ≡ now
with-once [] [] j k now once h own e f = absurd (let no : ⊥ = cc in no)
with-once [] (ms ∷ xs) j k now once h own e f = absurd h
with-once (y ∷ gs) [] j k now once h own e f = absurd h
with-once (y ∷ gs) (ms ∷ xs) j k now once h own e f = by (holds k ms) own e (λ o q. with-once gs xs j k now (once-rest y gs ms h.0 once) h.1 o q f)
  where
    by : (b : Bool) → holds k (cond b ms (group_of k xs)) ≡ true → holds j (cond b ms (group_of k xs)) ≡ true
        → (holds k (group_of k xs) ≡ true → holds j (group_of k xs) ≡ true → group_of j (with_group k now xs) ≡ now) → group_of j (cond b (now ∷ xs) (ms ∷ with_group k now xs)) ≡ now
    by true o q r = ap (λ (b : Bool). cond b now (group_of j xs)) f
    by false o q r = ap (λ (b : Bool). cond b ms (group_of j (with_group k now xs))) (not-here y gs ms xs j k once h.0 h.1 q) ∙ r o q

pub group_of-with_member : {C : Type 0} {g : Ghosts C} (gs : List (Group C g)) (xs : List (List ModelMember)) (j k : SubId) (now : List ModelMember) → AreNumbers (numbers_in gs) → GroupsStand gs xs → holds k (group_of k xs) ≡ true
    → holds j (group_of k xs) ≡ true → holds j now ≡ true → group_of j (with_group k now xs) ≡ now
group_of-with_member gs xs j k now n h own e f = with-once gs xs j k now (once-of gs n) h own e f

group-once : {C : Type 0} {g : Ghosts C} (gs : List (Group C g)) (xs : List (List ModelMember)) (k : SubId) → IsOnce gs → GroupsStand gs xs → (l : SubId) → times l (subs (group_of k xs)) ≤ 1
unfolding IsOnce
group-once [] [] k once h = λ l. let z = times_none l in omega (arith, z)
group-once [] (ms ∷ xs) k once h = absurd h
group-once (y ∷ gs) [] k once h = absurd h
group-once (y ∷ gs) (ms ∷ xs) k once h = λ l. by l (holds k ms) (group-once gs xs k (once-rest y gs ms h.0 once) h.1 l)
  where
    by : (l : SubId) (b : Bool) → times l (subs (group_of k xs)) ≤ 1 → times l (subs (cond b ms (group_of k xs))) ≤ 1
    by l true r = let t = times-first l y gs ms h.0 in let most : times l (all_numbers (numbers_in (y ∷ gs))) ≤ 1 = once l in omega (arith, t, most)
    by l false r = r

distinct-by : (ks : List SubId) → all_differ ks ≡ true → Distinct ks
distinct-by [] h = tt
distinct-by (k ∷ ks) h = by (is_member k ks) (all_differ ks) refl h (distinct-by ks)
  where
    by : (a b : Bool) → is_member k ks ≡ a → (not a && b) ≡ true → (b ≡ true → Distinct ks) → (is_member k ks ≡ false) × Distinct ks
    by true b e f r = absurd (let no : ⊥ = cc in no)
    by false b e f r = (e, r f)

pub group-distinct : {C : Type 0} {g : Ghosts C} (gs : List (Group C g)) (xs : List (List ModelMember)) (k : SubId) → AreNumbers (numbers_in gs) → GroupsStand gs xs → Distinct (subs (group_of k xs))
group-distinct gs xs k n h = distinct-by (subs (group_of k xs)) (differ_from (subs (group_of k xs)) (group-once gs xs k (once-of gs n) h))

-- a declared substream is numbered below sixteen
pub declared-below : {C : Type 0} {g : Ghosts C} (gs : List (Group C g)) (xs : List (List ModelMember)) (k : SubId) → AreNumbers (numbers_in gs) → GroupsStand gs xs → holds k (group_of k xs) ≡ true → k.0 < 16
declared-below gs xs k n h e = below_at (all_numbers (numbers_in gs)) n.below k (held-among gs xs k k h e)
