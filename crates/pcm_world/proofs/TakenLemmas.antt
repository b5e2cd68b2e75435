-- What cards have taken stays in a link and an unlink.
use Rattle.std.proofs.Common.{◌≡◌, ℕ, zero, suc, ◌+◌, ◌≤◌, Bool, true, false, cond, ◌||◌, nat_eq, List, [], ◌∷◌, ◌++◌, length, Some, refl, sym, ap, ◌∙◌, subst, arith}
use Rattle.std.proofs.lemmas.List.Edits.{length-insert}
use Rattle.std.specs.List.{slice_get, insert, remove}
use Rattle.pcm_base.specs.declared.card.Card.{Ghosts}
use Rattle.pcm_base.specs.declared.ids.SubId.{SubId}
use Rattle.pcm_base.specs.model.Frame.{bytes_of}
use Rattle.pcm_base.specs.model.Group.{stream_of}
use Rattle.pcm_base.specs.model.Replay.{is_member}
use Rattle.pcm_base.specs.model.Sleep.{group_drains, wake, wake_members}
use Rattle.pcm_base.specs.model.Stream.{Stream, Member as ModelMember}
use Rattle.pcm_stream.specs.declared.members.Member.{Member}
use Rattle.pcm_stream.specs.Members.{numbers_of}
use Rattle.pcm_stream.specs.MembersStand.{AllStandFor}
use Rattle.pcm_stream.specs.StandsFor.{card_of}
use Rattle.pcm_group.specs.declared.group.Group.{Group}
use Rattle.pcm_group.specs.Inside.{members_in}
use Rattle.pcm_world.specs.Groups.{AreNumbers, all_numbers, numbers_in, taken_by, taken_of}
use Rattle.pcm_world.proofs.CountLemmas.{at_most_once, some_times, times, times-append, times-insert, times-remove}
use Rattle.pcm_world.proofs.LinkLemmas.{ArePart, ArePlaced, counted, least, parted_all, times-take}
use Rattle.pcm_world.proofs.GroupLemmas.{place_within}

-- ---- members

taken_in : SubId → List ModelMember → List ℕ
taken_in k xs = bytes_of (stream_of k xs).card.taken

taken_stands : {C : Type 0} {g : Ghosts C} (k : SubId) (ms : List (Member C g)) (xs : List ModelMember) → AllStandFor ms xs → taken_by k ms ≡ taken_in k xs
unfolding taken_in
taken_stands k [] [] h = refl
taken_stands k [] (x ∷ xs) h = absurd h
taken_stands k (m ∷ ms) [] h = absurd h
taken_stands k (m ∷ ms) (x ∷ xs) h =
    by (nat_eq m.sub.0 k.0) (taken_stands k ms xs h.1)
    ∙ ap (λ (j : SubId). bytes_of (cond (nat_eq j.0 k.0) x.stream (stream_of k xs)).card.taken) h.0.member.number
  where
    by : (b : Bool) → taken_by k ms ≡ bytes_of (stream_of k xs).card.taken → cond b (card_of m.stream).taken (taken_by k ms) ≡ bytes_of (cond b x.stream (stream_of k xs)).card.taken
    by true r = h.0.stream.shows.taken
    by false r = r

pub stream_woken : (b : Bool) (k : SubId) (xs : List ModelMember) → stream_of k (wake_members b xs) ≡ stream_of k xs
stream_woken b k [] = refl
stream_woken b k (x ∷ xs) = ap (λ (s : Stream). cond (nat_eq x.sub.0 k.0) x.stream s) (stream_woken b k xs)

-- a wake check leaves the cards
pub taken_woken : {C : Type 0} {g : Ghosts C} (k : SubId) (ms ns : List (Member C g)) (xs : List ModelMember) → AllStandFor ms xs → AllStandFor ns (wake xs) → taken_by k ns ≡ taken_by k ms
unfolding taken_in
taken_woken k ms ns xs h w =
    taken_stands k ns (wake xs) w
    ∙ ap (λ (s : Stream). bytes_of s.card.taken) (stream_woken (group_drains xs) k xs)
    ∙ sym (taken_stands k ms xs h)

pub taken_by-append : {C : Type 0} {g : Ghosts C} (k : SubId) (ms ns : List (Member C g)) → taken_by k (ms ++ ns) ≡ cond (is_member k (numbers_of ms)) (taken_by k ms) (taken_by k ns)
taken_by-append k [] ns = refl
taken_by-append k (m ∷ ms) ns = by (nat_eq m.sub.0 k.0) (taken_by-append k ms ns)
  where
    by : (b : Bool) → taken_by k (ms ++ ns) ≡ cond (is_member k (numbers_of ms)) (taken_by k ms) (taken_by k ns)
        → cond b (card_of m.stream).taken (taken_by k (ms ++ ns)) ≡ cond (b || is_member k (numbers_of ms)) (cond b (card_of m.stream).taken (taken_by k ms)) (taken_by k ns)
    by true r = refl
    by false r = r

member-append : (k : SubId) (a b : List SubId) → is_member k (a ++ b) ≡ (is_member k a || is_member k b)
member-append k [] b = refl
member-append k (j ∷ a) b = by (nat_eq j.0 k.0) (member-append k a b)
  where
    by : (t : Bool) → is_member k (a ++ b) ≡ (is_member k a || is_member k b) → (t || is_member k (a ++ b)) ≡ ((t || is_member k a) || is_member k b)
    by true r = refl
    by false r = r

-- ---- where a number comes at most once, the order does not matter

not_twice : (a b : ℕ) → 1 ≤ a → 1 ≤ b → a + b ≤ 1 → ⊥
not_twice a b l m h = omega (arith, l, m, h)

-- of two that are sought, at most one is found
pub turn : {X : Type 0} (a b : Bool) (x y z : X) → (a ≡ true → b ≡ true → ⊥) → cond a x (cond b y z) ≡ cond b y (cond a x z)
turn true true x y z h = absurd (h refl refl)
turn true false x y z h = refl
turn false true x y z h = refl
turn false false x y z h = refl

apart_in : (k : SubId) (a b : List SubId) (n : ℕ) → times k a + (times k b + n) ≤ 1 → is_member k a ≡ true → is_member k b ≡ true → ⊥
apart_in k a b n h l m = not_twice (times k a) (times k b) (some_times k a l) (some_times k b m) (omega (arith, h))

pub taken-remove : {C : Type 0} {g : Ghosts C} (k : SubId) (gs : List (Group C g)) (i : ℕ) (x : Group C g) → slice_get gs i ≡ Some x → times k (all_numbers (numbers_in gs)) ≤ 1
    → taken_of k gs ≡ cond (is_member k (numbers_of (members_in x))) (taken_by k (members_in x)) (taken_of k (remove gs i))
taken-remove k [] i x at h = absurd (let no : ⊥ = cc in no)
taken-remove {C = C} {g = g} k (y ∷ gs) zero x at h =
    let same : y ≡ x = cc in
    ap (λ (q : Group C g). cond (is_member k (numbers_of (members_in q))) (taken_by k (members_in q)) (taken_of k gs)) same
taken-remove k (y ∷ gs) (suc i) x at h =
    let all : times k (numbers_of (members_in y)) + times k (all_numbers (numbers_in gs)) ≤ 1 = subst (λ (n : ℕ). n ≤ 1) (times-append k (numbers_of (members_in y)) (all_numbers (numbers_in gs))) h in
    let rest : times k (all_numbers (numbers_in gs)) ≤ 1 = omega (arith, all) in
    let split : times k (numbers_of (members_in y)) + (times k (numbers_of (members_in x)) + times k (all_numbers (numbers_in (remove gs i)))) ≤ 1 = omega (arith, all, times-remove k gs i x at) in
    ap (λ (l : List ℕ). cond (is_member k (numbers_of (members_in y))) (taken_by k (members_in y)) l) (taken-remove k gs i x at rest)
    ∙ turn (is_member k (numbers_of (members_in y))) (is_member k (numbers_of (members_in x))) (taken_by k (members_in y)) (taken_by k (members_in x)) (taken_of k (remove gs i))
    (apart_in k (numbers_of (members_in y)) (numbers_of (members_in x)) (times k (all_numbers (numbers_in (remove gs i)))) split)

remove_inserted : {A : Type 0} (xs : List A) (i : ℕ) (x : A) → i ≤ length xs → remove (insert xs i x) i ≡ xs
remove_inserted xs zero x le = refl
remove_inserted [] (suc i) x le = absurd (let no : ⊥ = omega (arith, le) in no)
remove_inserted {A = A} (y ∷ xs) (suc i) x le = ap (λ (l : List A). y ∷ l) (remove_inserted xs i x (omega (arith, le)))

there_inserted : {A : Type 0} (xs : List A) (i : ℕ) (x : A) → i ≤ length xs → slice_get (insert xs i x) i ≡ Some x
there_inserted xs zero x le = refl
there_inserted [] (suc i) x le = absurd (let no : ⊥ = omega (arith, le) in no)
there_inserted (y ∷ xs) (suc i) x le = there_inserted xs i x (omega (arith, le))

pub taken-insert : {C : Type 0} {g : Ghosts C} (k : SubId) (gs : List (Group C g)) (i : ℕ) (x : Group C g) → i ≤ length gs → times k (all_numbers (numbers_in (insert gs i x))) ≤ 1
    → taken_of k (insert gs i x) ≡ cond (is_member k (numbers_of (members_in x))) (taken_by k (members_in x)) (taken_of k gs)
taken-insert {C = C} {g = g} k gs i x le h =
    taken-remove k (insert gs i x) i x (there_inserted gs i x le) h
    ∙ ap (λ (l : List (Group C g)). cond (is_member k (numbers_of (members_in x))) (taken_by k (members_in x)) (taken_of k l)) (remove_inserted gs i x le)

-- ---- a link

joined_or : (a b : Bool) (x y z : List ℕ) → (a ≡ true → b ≡ true → ⊥) → cond (b || a) (cond b y x) z ≡ cond a x (cond b y z)
joined_or true true x y z h = absurd (h refl refl)
joined_or true false x y z h = refl
joined_or false true x y z h = refl
joined_or false false x y z h = refl

pub link_taken : {C : Type 0} {g : Ghosts C} (l k j : SubId) (gs : List (Group C g)) (i p : ℕ) (x y z : Group C g) → ArePlaced k j gs i p x y → AreNumbers (numbers_in gs) → AreNumbers (numbers_in (insert (remove (remove gs i) p) p z))
    → numbers_of (members_in z) ≡ numbers_of (members_in y) ++ numbers_of (members_in x) → taken_by l (members_in z) ≡ taken_by l (members_in y ++ members_in x)
    → taken_of l (insert (remove (remove gs i) p) p z) ≡ taken_of l gs
link_taken l k j gs i p x y z h old new e t =
    let ks = numbers_of (members_in x) in
    let js = numbers_of (members_in y) in
    let rest = remove (remove gs i) p in
    let once : times l (all_numbers (numbers_in gs)) ≤ 1 = at_most_once (all_numbers (numbers_in gs)) old.distinct l in
    let split : times l ks + (times l js + times l (all_numbers (numbers_in rest))) ≤ 1 = omega (arith, once, counted l k j gs i p x y h) in
    let less : times l (all_numbers (numbers_in (remove gs i))) ≤ 1 = omega (arith, once, times-remove l gs i x h.lone) in
    taken-insert l rest p z (least (remove gs i) p (place_within (remove gs i) p k h.place)) (at_most_once (all_numbers (numbers_in (insert rest p z))) new.distinct l)
    ∙ ap (λ (b : Bool). cond b (taken_by l (members_in z)) (taken_of l rest)) (ap (λ (is : List SubId). is_member l is) e ∙ member-append l js ks)
    ∙ ap (λ (bs : List ℕ). cond (is_member l js || is_member l ks) bs (taken_of l rest)) (t ∙ taken_by-append l (members_in y) (members_in x))
    ∙ joined_or (is_member l ks) (is_member l js) (taken_by l (members_in x)) (taken_by l (members_in y)) (taken_of l rest) (apart_in l ks js (times l (all_numbers (numbers_in rest))) split)
    ∙ sym (ap (λ (bs : List ℕ). cond (is_member l ks) (taken_by l (members_in x)) bs) (taken-remove l (remove gs i) p y h.group less))
    ∙ sym (taken-remove l gs i x h.lone once)

-- ---- an unlink

taken-take : {C : Type 0} {g : Ghosts C} (l : SubId) (ms : List (Member C g)) (q : ℕ) (m : Member C g) → slice_get ms q ≡ Some m → times l (numbers_of ms) ≤ 1 → taken_by l ms ≡ cond (nat_eq m.sub.0 l.0) (card_of m.stream).taken (taken_by l (remove ms q))
taken-take l [] q m at h = absurd (let no : ⊥ = cc in no)
taken-take {C = C} {g = g} l (n ∷ ms) zero m at h =
    let same : n ≡ m = cc in
    ap (λ (w : Member C g). cond (nat_eq w.sub.0 l.0) (card_of w.stream).taken (taken_by l ms)) same
taken-take l (n ∷ ms) (suc q) m at h =
    let all : times l (n.sub ∷ []) + times l (numbers_of ms) ≤ 1 = subst (λ (i : ℕ). i ≤ 1) (times-append l (n.sub ∷ []) (numbers_of ms)) h in
    let rest : times l (numbers_of ms) ≤ 1 = omega (arith, all) in
    let split : times l (n.sub ∷ []) + (times l (m.sub ∷ []) + times l (numbers_of (remove ms q))) ≤ 1 = omega (arith, all, times-take l ms q m at) in
    ap (λ (bs : List ℕ). cond (nat_eq n.sub.0 l.0) (card_of n.stream).taken bs) (taken-take l ms q m at rest)
    ∙ turn (nat_eq n.sub.0 l.0) (nat_eq m.sub.0 l.0) (card_of n.stream).taken (card_of m.stream).taken (taken_by l (remove ms q))
    (λ a b. apart_in l (n.sub ∷ []) (m.sub ∷ []) (times l (numbers_of (remove ms q))) split (ap (λ (t : Bool). t || false) a) (ap (λ (t : Bool). t || false) b))

member-take : {C : Type 0} {g : Ghosts C} (l : SubId) (ms : List (Member C g)) (q : ℕ) (m : Member C g) → slice_get ms q ≡ Some m → is_member l (numbers_of ms) ≡ (nat_eq m.sub.0 l.0 || is_member l (numbers_of (remove ms q)))
member-take l [] q m at = absurd (let no : ⊥ = cc in no)
member-take {C = C} {g = g} l (n ∷ ms) zero m at = let same : n ≡ m = cc in ap (λ (w : Member C g). nat_eq w.sub.0 l.0 || is_member l (numbers_of ms)) same
member-take l (n ∷ ms) (suc q) m at = ap (λ (b : Bool). nat_eq n.sub.0 l.0 || b) (member-take l ms q m at) ∙ or_turn (nat_eq n.sub.0 l.0) (nat_eq m.sub.0 l.0) (is_member l (numbers_of (remove ms q)))
  where
    or_turn : (a b c : Bool) → (a || (b || c)) ≡ (b || (a || c))
    or_turn true true c = refl
    or_turn true false c = refl
    or_turn false b c = refl

parted_or : (a b : Bool) (x y z : List ℕ) → cond (a || b) (cond a x y) z ≡ cond (a || false) (cond a x []) (cond b y z)
parted_or true b x y z = refl
parted_or false b x y z = refl

pub unlink_taken : {C : Type 0} {g : Ghosts C} (l : SubId) (gs : List (Group C g)) (i q : ℕ) (x y w : Group C g) (m : Member C g) → ArePart gs i q x y w m → AreNumbers (numbers_in gs)
    → taken_by l (members_in y) ≡ taken_by l (m ∷ []) → taken_by l (members_in w) ≡ taken_by l (remove (members_in x) q) → taken_of l (insert (insert (remove gs i) i w) i y) ≡ taken_of l gs
unlink_taken l gs i q x y w m h old one others =
    let rest = remove gs i in
    let once : times l (all_numbers (numbers_in gs)) ≤ 1 = at_most_once (all_numbers (numbers_in gs)) old.distinct l in
    let here : times l (numbers_of (members_in x)) ≤ 1 = omega (arith, once, times-remove l gs i x h.group) in
    let fits : i ≤ length rest = least gs i h.within in
    let fits_then : i ≤ length (insert rest i w) = omega (arith, fits, length-insert rest i w fits) in
    let last : times l (all_numbers (numbers_in (insert (insert rest i w) i y))) ≤ 1 = omega (arith, once, parted_all l gs i q x y w m h) in
    let inner : times l (all_numbers (numbers_in (insert rest i w))) ≤ 1 = omega (arith, last, times-insert l (insert rest i w) i y fits_then) in
    let number : is_member l (numbers_of (members_in y)) ≡ (nat_eq m.sub.0 l.0 || false) = ap (λ (ks : List SubId). is_member l ks) h.one in
    taken-insert l (insert rest i w) i y fits_then last
    ∙ ap (λ (bs : List ℕ). cond (is_member l (numbers_of (members_in y))) (taken_by l (members_in y)) bs) (taken-insert l rest i w fits inner)
    ∙ ap (λ (b : Bool). cond b (taken_by l (members_in y)) (cond (is_member l (numbers_of (members_in w))) (taken_by l (members_in w)) (taken_of l rest))) number
    ∙ ap (λ (bs : List ℕ). cond (nat_eq m.sub.0 l.0 || false) bs (cond (is_member l (numbers_of (members_in w))) (taken_by l (members_in w)) (taken_of l rest))) one
    ∙ ap (λ (bs : List ℕ). cond (nat_eq m.sub.0 l.0 || false) (taken_by l (m ∷ [])) (cond (is_member l (numbers_of (members_in w))) bs (taken_of l rest))) others
    ∙ ap (λ (ks : List SubId). cond (nat_eq m.sub.0 l.0 || false) (taken_by l (m ∷ [])) (cond (is_member l ks) (taken_by l (remove (members_in x) q)) (taken_of l rest))) h.others
    ∙ sym (parted_or (nat_eq m.sub.0 l.0) (is_member l (numbers_of (remove (members_in x) q))) (card_of m.stream).taken (taken_by l (remove (members_in x) q)) (taken_of l rest))
    ∙ sym (ap (λ (b : Bool). cond b (cond (nat_eq m.sub.0 l.0) (card_of m.stream).taken (taken_by l (remove (members_in x) q))) (taken_of l rest)) (member-take l (members_in x) q m h.gone))
    ∙ sym (ap (λ (bs : List ℕ). cond (is_member l (numbers_of (members_in x))) bs (taken_of l rest)) (taken-take l (members_in x) q m h.gone here))
    ∙ sym (taken-remove l gs i x h.group once)
