-- A link and an unlink leave every stream as it was, where no number comes twice.
use Rattle.std.proofs.Common.{◌≡◌, ℕ, ◌+◌, ◌≤◌, Bool, true, false, cond, ◌||◌, nat_eq, List, [], ◌∷◌, ◌++◌, refl, sym, ap, ap₂, ◌∙◌, subst, arith}
use Rattle.pcm_base.specs.declared.card.Card.{Ghosts}
use Rattle.pcm_base.specs.declared.ids.SubId.{SubId}
use Rattle.pcm_base.specs.model.Acts.{subs}
use Rattle.pcm_base.specs.model.Group.{stream_of}
use Rattle.pcm_base.specs.model.Replay.{is_member}
use Rattle.pcm_base.specs.model.Sleep.{group_drains, wake, wake_members}
use Rattle.pcm_base.specs.model.Stream.{Stream, Member as ModelMember}
use Rattle.pcm_base.specs.model.World.{apart, group_of, holds, only_member, with_group, without_group, without_member}
use Rattle.pcm_stream.specs.declared.members.Member.{Member}
use Rattle.pcm_stream.specs.Members.{numbers_of}
use Rattle.pcm_stream.specs.MembersStand.{AllStandFor}
use Rattle.pcm_group.specs.declared.group.Group.{Group}
use Rattle.pcm_group.specs.Inside.{members_in}
use Rattle.pcm_world.specs.Groups.{AreNumbers, GroupsStand, all_numbers, both, linked, numbers_in, one_of, others_of, unlinked}
use Rattle.pcm_world.proofs.CountLemmas.{at_most_once, some_times, swap_sums, times, times-append, times_head, times_none}
use Rattle.pcm_world.proofs.LinkLemmas.{group_stays}
use Rattle.pcm_world.proofs.TakenLemmas.{stream_woken, turn}

-- the stream of a substream in these groups
stream_in : SubId → List (List ModelMember) → Stream
stream_in k xs = stream_of k (group_of k xs)

-- the numbers of all groups
all_subs : List (List ModelMember) → List SubId
all_subs [] = []
all_subs (ms ∷ xs) = subs ms ++ all_subs xs

-- how often a number comes
many : SubId → List ModelMember → ℕ
many k xs = times k (subs xs)

many_in : SubId → List (List ModelMember) → ℕ
many_in k xs = times k (all_subs xs)

many-cons : (k : SubId) (ms : List ModelMember) (xs : List (List ModelMember)) → many_in k (ms ∷ xs) ≡ many k ms + many_in k xs
unfolding many many_in all_subs
many-cons k ms xs = times-append k (subs ms) (all_subs xs)

holds_member : (k : SubId) (xs : List ModelMember) → holds k xs ≡ is_member k (subs xs)
holds_member k [] = refl
holds_member k (x ∷ xs) = ap (λ (b : Bool). nat_eq x.sub.0 k.0 || b) (holds_member k xs)

held_once : (k : SubId) (xs : List ModelMember) → holds k xs ≡ true → 1 ≤ many k xs
unfolding many
held_once k xs h = some_times k (subs xs) (sym (holds_member k xs) ∙ h)

not_both : (k : SubId) (a b : List ModelMember) → many k a + many k b ≤ 1 → holds k a ≡ true → holds k b ≡ true → ⊥
not_both k a b h l m = let x : 1 ≤ many k a = held_once k a l in let y : 1 ≤ many k b = held_once k b m in omega (arith, h, x, y)

stream_cons : (k : SubId) (ms : List ModelMember) (xs : List (List ModelMember)) → stream_in k (ms ∷ xs) ≡ cond (holds k ms) (stream_of k ms) (stream_in k xs)
unfolding stream_in
stream_cons k ms xs = by (holds k ms)
  where
    by : (b : Bool) → stream_of k (cond b ms (group_of k xs)) ≡ cond b (stream_of k ms) (stream_of k (group_of k xs))
    by true = refl
    by false = refl

-- ---- a group is taken out

many_without : (l j : SubId) (xs : List (List ModelMember)) → many_in l xs ≡ many l (group_of j xs) + many_in l (without_group j xs)
unfolding many many_in all_subs
many_without l j [] = let z = times_none l in omega (arith, z)
many_without l j (ms ∷ xs) = by (holds j ms) (many_without l j xs)
  where
    by : (b : Bool) → many_in l xs ≡ many l (group_of j xs) + many_in l (without_group j xs) → many_in l (ms ∷ xs) ≡ many l (cond b ms (group_of j xs)) + many_in l (cond b xs (ms ∷ without_group j xs))
    by true r = many-cons l ms xs
    by false r =
        many-cons l ms xs ∙ ap (λ (n : ℕ). many l ms + n) r
        ∙ swap_sums (many l ms) (many l (group_of j xs)) (many_in l (without_group j xs))
        ∙ ap (λ (n : ℕ). many l (group_of j xs) + n) (sym (many-cons l ms (without_group j xs)))

stream_without : (l j : SubId) (xs : List (List ModelMember)) → many_in l xs ≤ 1 → stream_in l xs ≡ cond (holds l (group_of j xs)) (stream_of l (group_of j xs)) (stream_in l (without_group j xs))
stream_without l j [] h = refl
stream_without l j (ms ∷ xs) h = by (holds j ms) (stream_without l j xs rest)
  where
    all : many l ms + many_in l xs ≤ 1
    all = subst (λ (n : ℕ). n ≤ 1) (many-cons l ms xs) h

    rest : many_in l xs ≤ 1
    rest = omega (arith, all)

    split : many l ms + many l (group_of j xs) ≤ 1
    split = omega (arith, all, many_without l j xs)

    by : (b : Bool) → stream_in l xs ≡ cond (holds l (group_of j xs)) (stream_of l (group_of j xs)) (stream_in l (without_group j xs))
        → stream_in l (ms ∷ xs) ≡ cond (holds l (cond b ms (group_of j xs))) (stream_of l (cond b ms (group_of j xs))) (stream_in l (cond b xs (ms ∷ without_group j xs)))
    by true r = stream_cons l ms xs
    by false r =
        stream_cons l ms xs ∙ ap (λ (s : Stream). cond (holds l ms) (stream_of l ms) s) r
        ∙ turn (holds l ms) (holds l (group_of j xs)) (stream_of l ms) (stream_of l (group_of j xs)) (stream_in l (without_group j xs)) (not_both l ms (group_of j xs) split)
        ∙ ap (λ (s : Stream). cond (holds l (group_of j xs)) (stream_of l (group_of j xs)) s) (sym (stream_cons l ms (without_group j xs)))

-- ---- groups that stand in the place of one

-- the groups with these in the place of that of k
with_groups : SubId → List (List ModelMember) → List (List ModelMember) → List (List ModelMember)
with_groups k now [] = []
with_groups k now (ms ∷ xs) = cond (holds k ms) (now ++ xs) (ms ∷ with_groups k now xs)

many-both : (l : SubId) (now xs : List (List ModelMember)) → many_in l (now ++ xs) ≡ many_in l now + many_in l xs
unfolding many_in all_subs
many-both l [] xs = let z = times_none l in omega (arith, z)
many-both l (ms ∷ now) xs =
    let a = many-cons l ms (now ++ xs) in
    let b = many-both l now xs in
    let d = many-cons l ms now in
    omega (arith, a, b, d)

many_with : (l k : SubId) (now xs : List (List ModelMember)) → holds k (group_of k xs) ≡ true → many_in l (with_groups k now xs) ≡ many_in l now + many_in l (without_group k xs)
unfolding with_groups
many_with l k now [] h = absurd (let no : ⊥ = cc in no)
many_with l k now (ms ∷ xs) h = by (holds k ms) h (many_with l k now xs)
  where
    by : (b : Bool) → holds k (cond b ms (group_of k xs)) ≡ true → (holds k (group_of k xs) ≡ true → many_in l (with_groups k now xs) ≡ many_in l now + many_in l (without_group k xs))
        → many_in l (cond b (now ++ xs) (ms ∷ with_groups k now xs)) ≡ many_in l now + many_in l (cond b xs (ms ∷ without_group k xs))
    by true f r = many-both l now xs
    by false f r = let a = many-cons l ms (with_groups k now xs) in let d = many-cons l ms (without_group k xs) in omega (arith, a, d, r f)

-- the stream in the first of these lists of groups that has it
stream_first : SubId → List (List ModelMember) → Stream → Stream
stream_first l [] s = s
stream_first l (ms ∷ now) s = cond (holds l ms) (stream_of l ms) (stream_first l now s)

stream-both : (l : SubId) (now xs : List (List ModelMember)) → stream_in l (now ++ xs) ≡ stream_first l now (stream_in l xs)
unfolding stream_first
stream-both l [] xs = refl
stream-both l (ms ∷ now) xs = stream_cons l ms (now ++ xs) ∙ ap (λ (s : Stream). cond (holds l ms) (stream_of l ms) s) (stream-both l now xs)

turn_first : (l : SubId) (ms : List ModelMember) (now : List (List ModelMember)) (s : Stream) → many l ms + many_in l now ≤ 1
    → cond (holds l ms) (stream_of l ms) (stream_first l now s) ≡ stream_first l now (cond (holds l ms) (stream_of l ms) s)
unfolding stream_first
turn_first l ms [] s h = refl
turn_first l ms (ns ∷ now) s h =
    let all : many_in l (ns ∷ now) ≡ many l ns + many_in l now = many-cons l ns now in
    let here : many l ms + many l ns ≤ 1 = omega (arith, h, all) in
    let rest : many l ms + many_in l now ≤ 1 = omega (arith, h, all) in
    turn (holds l ms) (holds l ns) (stream_of l ms) (stream_of l ns) (stream_first l now s) (not_both l ms ns here)
    ∙ ap (λ (t : Stream). cond (holds l ns) (stream_of l ns) t) (turn_first l ms now s rest)

stream_with : (l k : SubId) (now xs : List (List ModelMember)) → holds k (group_of k xs) ≡ true → many_in l now + many_in l (without_group k xs) ≤ 1 → stream_in l (with_groups k now xs) ≡ stream_first l now (stream_in l (without_group k xs))
unfolding with_groups
stream_with l k now [] h m = absurd (let no : ⊥ = cc in no)
stream_with l k now (ms ∷ xs) h m = by (holds k ms) h m (stream_with l k now xs)
  where
    by : (b : Bool) → holds k (cond b ms (group_of k xs)) ≡ true → many_in l now + many_in l (cond b xs (ms ∷ without_group k xs)) ≤ 1
        → (holds k (group_of k xs) ≡ true → many_in l now + many_in l (without_group k xs) ≤ 1 → stream_in l (with_groups k now xs) ≡ stream_first l now (stream_in l (without_group k xs)))
        → stream_in l (cond b (now ++ xs) (ms ∷ with_groups k now xs)) ≡ stream_first l now (stream_in l (cond b xs (ms ∷ without_group k xs)))
    by true f m r = stream-both l now xs
    by false f m r =
        let all : many_in l (ms ∷ without_group k xs) ≡ many l ms + many_in l (without_group k xs) = many-cons l ms (without_group k xs) in
        stream_cons l ms (with_groups k now xs)
        ∙ ap (λ (s : Stream). cond (holds l ms) (stream_of l ms) s) (r f (omega (arith, m, all)))
        ∙ turn_first l ms now (stream_in l (without_group k xs)) (omega (arith, m, all))
        ∙ ap (λ (s : Stream). stream_first l now s) (sym (stream_cons l ms (without_group k xs)))

one_in : (k : SubId) (now : List ModelMember) (xs : List (List ModelMember)) → with_group k now xs ≡ with_groups k (now ∷ []) xs
unfolding with_groups
one_in k now [] = refl
one_in k now (ms ∷ xs) = ap (λ (l : List (List ModelMember)). cond (holds k ms) (now ∷ xs) (ms ∷ l)) (one_in k now xs)

two_in : (k : SubId) (one others : List ModelMember) (xs : List (List ModelMember)) → apart k one others xs ≡ with_groups k (one ∷ others ∷ []) xs
unfolding with_groups
two_in k one others [] = refl
two_in k one others (ms ∷ xs) = ap (λ (l : List (List ModelMember)). cond (holds k ms) (one ∷ others ∷ xs) (ms ∷ l)) (two_in k one others xs)

-- ---- members

subs_woken : (b : Bool) (xs : List ModelMember) → subs (wake_members b xs) ≡ subs xs
subs_woken b [] = refl
subs_woken b (x ∷ xs) = ap (λ (ks : List SubId). x.sub ∷ ks) (subs_woken b xs)

subs_wake : (xs : List ModelMember) → subs (wake xs) ≡ subs xs
subs_wake xs = subs_woken (group_drains xs) xs

stream_wake : (l : SubId) (xs : List ModelMember) → stream_of l (wake xs) ≡ stream_of l xs
stream_wake l xs = stream_woken (group_drains xs) l xs

many_wake : (l : SubId) (xs : List ModelMember) → many l (wake xs) ≡ many l xs
unfolding many
many_wake l xs = ap (λ (ks : List SubId). times l ks) (subs_wake xs)

holds_wake : (l : SubId) (xs : List ModelMember) → holds l (wake xs) ≡ holds l xs
holds_wake l xs = holds_member l (wake xs) ∙ ap (λ (ks : List SubId). is_member l ks) (subs_wake xs) ∙ sym (holds_member l xs)

subs-append : (a b : List ModelMember) → subs (a ++ b) ≡ subs a ++ subs b
subs-append [] b = refl
subs-append (x ∷ a) b = ap (λ (ks : List SubId). x.sub ∷ ks) (subs-append a b)

many-append : (l : SubId) (a b : List ModelMember) → many l (a ++ b) ≡ many l a + many l b
unfolding many
many-append l a b = ap (λ (ks : List SubId). times l ks) (subs-append a b) ∙ times-append l (subs a) (subs b)

-- a stream that stands in one of two lists
stream-append : (l : SubId) (a b : List ModelMember) (s : Stream) → cond (holds l (a ++ b)) (stream_of l (a ++ b)) s ≡ cond (holds l a) (stream_of l a) (cond (holds l b) (stream_of l b) s)
stream-append l [] b s = refl
stream-append l (x ∷ a) b s = by (nat_eq x.sub.0 l.0) (stream-append l a b s)
  where
    by : (t : Bool) → cond (holds l (a ++ b)) (stream_of l (a ++ b)) s ≡ cond (holds l a) (stream_of l a) (cond (holds l b) (stream_of l b) s)
        → cond (t || holds l (a ++ b)) (cond t x.stream (stream_of l (a ++ b))) s ≡ cond (t || holds l a) (cond t x.stream (stream_of l a)) (cond (holds l b) (stream_of l b) s)
    by true r = refl
    by false r = r

-- a stream of a list whose wake check was made
found_wake : (l : SubId) (xs : List ModelMember) (s : Stream) → cond (holds l (wake xs)) (stream_of l (wake xs)) s ≡ cond (holds l xs) (stream_of l xs) s
found_wake l xs s = ap₂ (λ (b : Bool) (t : Stream). cond b t s) (holds_wake l xs) (stream_wake l xs)

many_parted : (l k : SubId) (xs : List ModelMember) → many l (only_member k xs) + many l (without_member k xs) ≡ many l xs
unfolding many
many_parted l k [] = let z = times_none l in omega (arith, z)
many_parted l k (x ∷ xs) = by (nat_eq x.sub.0 k.0) (many_parted l k xs)
  where
    by : (b : Bool) → many l (only_member k xs) + many l (without_member k xs) ≡ many l xs → many l (cond b (x ∷ []) (only_member k xs)) + many l (cond b xs (x ∷ without_member k xs)) ≡ many l (x ∷ xs)
    by true r = sym (times_head l x.sub (subs xs))
    by false r =
        let a : many l (x ∷ without_member k xs) ≡ times l (x.sub ∷ []) + many l (without_member k xs) = times_head l x.sub (subs (without_member k xs)) in
        let b : many l (x ∷ xs) ≡ times l (x.sub ∷ []) + many l xs = times_head l x.sub (subs xs) in
        omega (arith, a, b, r)

found_one : (l : SubId) (x : ModelMember) (s : Stream) → cond (holds l (x ∷ [])) (stream_of l (x ∷ [])) s ≡ cond (nat_eq x.sub.0 l.0) x.stream s
found_one l x s = by (nat_eq x.sub.0 l.0)
  where
    by : (b : Bool) → cond (b || false) (cond b x.stream (stream_of l [])) s ≡ cond b x.stream s
    by true = refl
    by false = refl

found_cons : (l : SubId) (x : ModelMember) (xs : List ModelMember) (s : Stream) → cond (holds l (x ∷ xs)) (stream_of l (x ∷ xs)) s ≡ cond (nat_eq x.sub.0 l.0) x.stream (cond (holds l xs) (stream_of l xs) s)
found_cons l x xs s = by (nat_eq x.sub.0 l.0)
  where
    by : (b : Bool) → cond (b || holds l xs) (cond b x.stream (stream_of l xs)) s ≡ cond b x.stream (cond (holds l xs) (stream_of l xs) s)
    by true = refl
    by false = refl

stream_parted : (l k : SubId) (xs : List ModelMember) (s : Stream) → many l xs ≤ 1
    → cond (holds l (only_member k xs)) (stream_of l (only_member k xs)) (cond (holds l (without_member k xs)) (stream_of l (without_member k xs)) s) ≡ cond (holds l xs) (stream_of l xs) s
unfolding many
stream_parted l k [] s h = refl
stream_parted l k (x ∷ xs) s h = by (nat_eq x.sub.0 k.0) (stream_parted l k xs s rest)
  where
    all : times l (x.sub ∷ []) + many l xs ≤ 1
    all = subst (λ (n : ℕ). n ≤ 1) (times_head l x.sub (subs xs)) h

    rest : many l xs ≤ 1
    rest = omega (arith, all)

    split : many l (x ∷ []) + many l (only_member k xs) ≤ 1
    split = let a : times l (x.sub ∷ []) + many l (only_member k xs) ≤ 1 = omega (arith, all, many_parted l k xs) in a

    one_true : nat_eq x.sub.0 l.0 ≡ true → holds l (x ∷ []) ≡ true
    one_true e = ap (λ (t : Bool). t || false) e

    by : (b : Bool) → cond (holds l (only_member k xs)) (stream_of l (only_member k xs)) (cond (holds l (without_member k xs)) (stream_of l (without_member k xs)) s) ≡ cond (holds l xs) (stream_of l xs) s
        → cond (holds l (cond b (x ∷ []) (only_member k xs))) (stream_of l (cond b (x ∷ []) (only_member k xs))) (cond (holds l (cond b xs (x ∷ without_member k xs))) (stream_of l (cond b xs (x ∷ without_member k xs))) s)
        ≡ cond (holds l (x ∷ xs)) (stream_of l (x ∷ xs)) s
    by true r = found_one l x (cond (holds l xs) (stream_of l xs) s) ∙ sym (found_cons l x xs s)
    by false r =
        let only = only_member k xs in
        let others = without_member k xs in
        ap (λ (t : Stream). cond (holds l only) (stream_of l only) t) (found_cons l x others s)
        ∙ sym (turn (nat_eq x.sub.0 l.0) (holds l only) x.stream (stream_of l only) (cond (holds l others) (stream_of l others) s) (λ e f. not_both l (x ∷ []) only split (one_true e) f))
        ∙ ap (λ (t : Stream). cond (nat_eq x.sub.0 l.0) x.stream t) r
        ∙ sym (found_cons l x xs s)

-- ---- the groups of a world

subs_stand : {C : Type 0} {g : Ghosts C} (ms : List (Member C g)) (xs : List ModelMember) → AllStandFor ms xs → subs xs ≡ numbers_of ms
subs_stand [] [] h = refl
subs_stand [] (x ∷ xs) h = absurd h
subs_stand (m ∷ ms) [] h = absurd h
subs_stand (m ∷ ms) (x ∷ xs) h = ap₂ (λ (k : SubId) (ks : List SubId). k ∷ ks) (sym h.0.member.number) (subs_stand ms xs h.1)

all_subs_stand : {C : Type 0} {g : Ghosts C} (gs : List (Group C g)) (xs : List (List ModelMember)) → GroupsStand gs xs → all_subs xs ≡ all_numbers (numbers_in gs)
unfolding all_subs
all_subs_stand [] [] h = refl
all_subs_stand [] (ms ∷ xs) h = absurd h
all_subs_stand (x ∷ gs) [] h = absurd h
all_subs_stand (x ∷ gs) (ms ∷ xs) h = ap₂ (λ (ks js : List SubId). ks ++ js) (subs_stand (members_in x) ms h.0) (all_subs_stand gs xs h.1)

once : {C : Type 0} {g : Ghosts C} (l : SubId) (gs : List (Group C g)) (xs : List (List ModelMember)) → GroupsStand gs xs → AreNumbers (numbers_in gs) → many_in l xs ≤ 1
unfolding many_in
once l gs xs h n = subst (λ (ks : List SubId). times l ks ≤ 1) (sym (all_subs_stand gs xs h)) (at_most_once (all_numbers (numbers_in gs)) n.distinct l)

pub link_streams : {C : Type 0} {g : Ghosts C} (l k j : SubId) (gs : List (Group C g)) (xs : List (List ModelMember)) → GroupsStand gs xs → AreNumbers (numbers_in gs) → holds k (group_of k xs) ≡ true → holds k (group_of j xs) ≡ false
    → stream_of l (group_of l (linked k j xs)) ≡ stream_of l (group_of l xs)
unfolding stream_in stream_first many_in all_subs
link_streams l k j gs xs s n first apart =
    let a = group_of k xs in
    let b = group_of j xs in
    let rest = without_group j xs in
    let last = without_group k rest in
    let now = wake (both k j xs) in
    let same : group_of k rest ≡ a = group_stays k j xs apart in
    let held : holds k (group_of k rest) ≡ true = ap (λ (ms : List ModelMember). holds k ms) same ∙ first in
    let whole : many_in l xs ≤ 1 = once l gs xs s n in
    let out_j : many_in l xs ≡ many l b + many_in l rest = many_without l j xs in
    let out_k : many_in l rest ≡ many l a + many_in l last = many_without l k rest ∙ ap (λ (ms : List ModelMember). many l ms + many_in l last) same in
    let into : many l now ≡ many l a + many l b = many_wake l (both k j xs) ∙ many-append l (wake a) (wake b) ∙ ap₂ (λ (x y : ℕ). x + y) (many_wake l a) (many_wake l b) in
    let here : many_in l (now ∷ []) ≡ many l now + many_in l [] = many-cons l now [] in
    let none : many_in l [] ≡ 0 = times_none l in
    let fits : many_in l (now ∷ []) + many_in l last ≤ 1 = omega (arith, whole, out_j, out_k, into, here, none) in
    let less : many_in l rest ≤ 1 = omega (arith, whole, out_j) in
    let two : many l a + many l b ≤ 1 = omega (arith, whole, out_j, out_k) in
    let z = stream_in l last in
    ap (λ (q : List (List ModelMember)). stream_in l q) (one_in k now rest)
    ∙ stream_with l k (now ∷ []) rest held fits
    ∙ found_wake l (both k j xs) z
    ∙ stream-append l (wake a) (wake b) z
    ∙ found_wake l a (cond (holds l (wake b)) (stream_of l (wake b)) z)
    ∙ ap (λ (t : Stream). cond (holds l a) (stream_of l a) t) (found_wake l b z)
    ∙ turn (holds l a) (holds l b) (stream_of l a) (stream_of l b) z (not_both l a b two)
    ∙ sym (ap (λ (t : Stream). cond (holds l b) (stream_of l b) t) (stream_without l k rest less ∙ ap (λ (ms : List ModelMember). cond (holds l ms) (stream_of l ms) z) same))
    ∙ sym (stream_without l j xs whole)

pub unlink_streams : {C : Type 0} {g : Ghosts C} (l k : SubId) (gs : List (Group C g)) (xs : List (List ModelMember)) → GroupsStand gs xs → AreNumbers (numbers_in gs) → holds k (group_of k xs) ≡ true
    → stream_of l (group_of l (unlinked k xs)) ≡ stream_of l (group_of l xs)
unfolding stream_in stream_first many_in all_subs
unlink_streams l k gs xs s n held =
    let a = group_of k xs in
    let rest = without_group k xs in
    let one = wake (one_of k xs) in
    let others = wake (others_of k xs) in
    let whole : many_in l xs ≤ 1 = once l gs xs s n in
    let out : many_in l xs ≡ many l a + many_in l rest = many_without l k xs in
    let parts : many l (one_of k xs) + many l (others_of k xs) ≡ many l a = many_parted l k (wake a) ∙ many_wake l a in
    let here : many_in l (one ∷ others ∷ []) ≡ many l one + many_in l (others ∷ []) = many-cons l one (others ∷ []) in
    let there : many_in l (others ∷ []) ≡ many l others + many_in l [] = many-cons l others [] in
    let none : many_in l [] ≡ 0 = times_none l in
    let fits : many_in l (one ∷ others ∷ []) + many_in l rest ≤ 1 = omega (arith, whole, out, parts, here, there, none, many_wake l (one_of k xs), many_wake l (others_of k xs)) in
    let woken : many l (wake a) ≤ 1 = omega (arith, whole, out, many_wake l a) in
    let z = stream_in l rest in
    ap (λ (q : List (List ModelMember)). stream_in l q) (two_in k one others xs)
    ∙ stream_with l k (one ∷ others ∷ []) xs held fits
    ∙ found_wake l (one_of k xs) (cond (holds l others) (stream_of l others) z)
    ∙ ap (λ (t : Stream). cond (holds l (one_of k xs)) (stream_of l (one_of k xs)) t) (found_wake l (others_of k xs) z)
    ∙ stream_parted l k (wake a) z woken
    ∙ found_wake l a z
    ∙ sym (stream_without l k xs whole)
