-- Worlds with another LONG_MAX, or with one substream more.
use Rattle.std.proofs.Common.{◌≡◌, ℕ, ◌<◌, ◌^◌, Bool, true, false, cond, ◌||◌, nat_eq, List, [], ◌∷◌, ◌++◌, length, ◌⊎◌, inl, inr, Option, Some, None, refl, sym, ap, ◌∙◌, subst, arith}
use Rattle.std.specs.Prelude.{nat_lt, nat_le, IsTrue, ◌↔◌, OnOk, OnErr, Result, Ok, Err, ◌+◌}
use Rattle.std.specs.Option.{is_some}
use Rattle.std.specs.Prelude.{Vec}
use Rattle.std.specs.Array.{AllOfLen}
use Rattle.std.proofs.lemmas.Option.{slice_get-get_or, slice_get_cases}
use Rattle.pcm_world.specs.Shown.{slot_bytes}
use Rattle.std.specs.declared.alloc.AllocError.{AllocError}
use Rattle.pcm_base.specs.model.Replay.{is_member}
use Rattle.pcm_stream.specs.Members.{numbers_of}
use Rattle.pcm_group.specs.Inside.{members_in}
use Rattle.pcm_world.proofs.GroupLemmas.{holds_as}
use Rattle.pcm_base.specs.declared.reply.Reply.TheVariants as reply
use Rattle.pcm_base.specs.declared.state.Errno.TheVariants as errno
use Rattle.pcm_base.specs.declared.state.State.TheVariants as state
use Rattle.std.specs.List.{slice_get}
use Rattle.std.proofs.lemmas.Bool.Decides.{nat_tests}
use Rattle.pcm_base.specs.declared.card.Card.{Ghosts}
use Rattle.pcm_base.specs.declared.config.CardModel.{CardModel}
use Rattle.pcm_base.specs.declared.ids.ClientId.{ClientId}
use Rattle.pcm_base.specs.declared.ids.SubId.{SubId}
use Rattle.pcm_base.specs.declared.state.Dir.{Dir}
use Rattle.pcm_base.specs.model.Events.{is_busy, waiting_of}
use Rattle.pcm_base.specs.model.Group.{stream_of}
use Rattle.pcm_base.specs.model.Stream.{Stream, Member, fresh, no_stream}
use Rattle.pcm_base.specs.model.World.{World, declare, empty, group_of, holds, lone, set_long, stays}
use Rattle.pcm_group.specs.declared.group.Group.{Group}
use Rattle.pcm_world.specs.declared.calls.Kept.{Kept}
use Rattle.pcm_world.specs.Calls.{IsCallOf, stream_at}
use Rattle.pcm_world.proofs.CallLemmas.{IsUnseen, agree-unseen, kept-unseen}
use Rattle.pcm_world.specs.Groups.{GroupsStand, numbers_in, place_from}
use Rattle.pcm_world.specs.Stands.{AreWorld}

-- ---- whether there is a group

pub no_groups : {C : Type 0} {g : Ghosts C} (gs : List (Group C g)) (xs : List (List Member)) → GroupsStand gs xs → gs ≡ [] → nat_lt 0 (length xs) ≡ false
no_groups [] [] h e = refl
no_groups [] (ms ∷ xs) h e = absurd h
no_groups (x ∷ gs) xs h e = absurd (let no : ⊥ = cc in no)

pub some_groups : {C : Type 0} {g : Ghosts C} (gs : List (Group C g)) (xs : List (List Member)) → GroupsStand gs xs → (gs ≡ [] → ⊥) → nat_lt 0 (length xs) ≡ true
some_groups [] xs h e = absurd (e refl)
some_groups (x ∷ gs) [] h e = absurd h
some_groups (x ∷ gs) (ms ∷ xs) h e = grind (arith, nat_tests)

-- ---- one group more

pub undeclared_or_held : (k : SubId) (xs : List (List Member)) → (group_of k xs ≡ []) ⊎ (holds k (group_of k xs) ≡ true)
undeclared_or_held k [] = inl refl
undeclared_or_held k (ms ∷ xs) = by (holds k ms) refl (undeclared_or_held k xs)
  where
    by : (b : Bool) → holds k ms ≡ b → (group_of k xs ≡ []) ⊎ (holds k (group_of k xs) ≡ true) → (cond b ms (group_of k xs) ≡ []) ⊎ (holds k (cond b ms (group_of k xs)) ≡ true)
    by true e r = inr e
    by false e r = r

group_of-append : (k : SubId) (xs ys : List (List Member)) → holds k (group_of k xs) ≡ true → group_of k (xs ++ ys) ≡ group_of k xs
group_of-append k [] ys h = absurd (let no : ⊥ = cc in no)
group_of-append k (ms ∷ xs) ys h = by (holds k ms) h (λ f. group_of-append k xs ys f)
  where
    by : (b : Bool) → holds k (cond b ms (group_of k xs)) ≡ true → (holds k (group_of k xs) ≡ true → group_of k (xs ++ ys) ≡ group_of k xs) → cond b ms (group_of k (xs ++ ys)) ≡ cond b ms (group_of k xs)
    by true f r = refl
    by false f r = r f

group_of-behind : (k : SubId) (xs ys : List (List Member)) → group_of k xs ≡ [] → (group_of k (xs ++ ys) ≡ []) ⊎ (group_of k (xs ++ ys) ≡ group_of k ys)
group_of-behind k [] ys h = inr refl
group_of-behind k (ms ∷ xs) ys h = by (holds k ms) h (λ f. group_of-behind k xs ys f)
  where
    by : (b : Bool) → cond b ms (group_of k xs) ≡ [] → (group_of k xs ≡ [] → (group_of k (xs ++ ys) ≡ []) ⊎ (group_of k (xs ++ ys) ≡ group_of k ys))
        → (cond b ms (group_of k (xs ++ ys)) ≡ []) ⊎ (cond b ms (group_of k (xs ++ ys)) ≡ group_of k ys)
    by true f r = inl f
    by false f r = r f

-- nobody waits on a fresh stream, nor on none
nobody_waits : (c : ClientId) (k j : SubId) (m : CardModel) (d : Dir) (n : ℕ) → waiting_of c (stream_of k (group_of k (lone j m d n ∷ []))).sleepers ≡ None
nobody_waits c k j m d n = by (nat_eq j.0 k.0) refl
  where
    s : Stream
    s = fresh m d n

    by : (b : Bool) → nat_eq j.0 k.0 ≡ b → waiting_of c (stream_of k (cond (b || false) (lone j m d n) [])).sleepers ≡ None
    by true e = ap (λ (t : Bool). waiting_of c (cond t s no_stream).sleepers) e
    by false e = refl

-- the streams of the longer list are those of the shorter one, or nobody waits there
unseen-declared : (j : SubId) (m : CardModel) (d : Dir) (n : ℕ) (xs : List (List Member)) → IsUnseen xs (xs ++ lone j m d n ∷ [])
unseen-declared j m d n xs = record {
  calls = λ c k. elim (undeclared_or_held k xs) [
    | inr h ↦ ap (λ (l : List Member). waiting_of c (stream_of k l).sleepers) (group_of-append k xs (lone j m d n ∷ []) h)
    | inl e ↦ elim (group_of-behind k xs (lone j m d n ∷ []) e) [
      | inl f ↦ ap (λ (l : List Member). waiting_of c (stream_of k l).sleepers) (f ∙ sym e)
      | inr f ↦ ap (λ (l : List Member). waiting_of c (stream_of k l).sleepers) f ∙ (nobody_waits c k j m d n ∙ sym (ap (λ (l : List Member). waiting_of c (stream_of k l).sleepers) e))
    ]
  ];
  frames = λ k busy. elim (undeclared_or_held k xs) [
    | inr h ↦ (let same : stream_at k (xs ++ lone j m d n ∷ []) ≡ stream_at k xs = ap (λ (l : List Member). stream_of k l) (group_of-append k xs (lone j m d n ∷ []) h) in
        record { config = ap (λ (s : Stream). s.setup.config) same; frame_bytes = ap (λ (s : Stream). s.setup.frame_bytes) same })
    | inl e ↦ absurd (let idle : is_busy (stream_at k xs) ≡ false = ap (λ (l : List Member). is_busy (stream_of k l)) e ∙ (let none : nat_lt 0 0 ≡ false = grind (arith, nat_tests) in none) in let two : true ≡ false = sym busy ∙ idle in let no : ⊥ = cc in no)
  ];
}

-- ---- LONG_MAX

pub set_long_late : (n : ℕ) (w : World) → nat_lt 0 (length w.groups) ≡ true → set_long n w ≡ stays (reply.Err errno.Ebusy) None w
set_long_late n w h = ap (λ (b : Bool). cond b (stays (reply.Err errno.Ebusy) None w) (cond (nat_lt n 15 || nat_le (2 ^ 36) n) (stays (reply.Err errno.Einval) None w) (stays reply.Ok None (record w { long_max = n })))) h

pub not_yet : (b : Bool) (p : Type 0) → (IsTrue b ↔ p) → b ≡ false → p → ⊥
not_yet true p f h x = cc
not_yet false p f h x = let t : IsTrue false = f.1 x in cc

pub AreWorld-long : {C : Type 0} {g : Ghosts C} (n m : ℕ) (gs : List (Group C g)) (calls : List (Option Kept)) (w : World) → AreWorld n gs calls w → AreWorld m gs calls (record w { long_max = m })
AreWorld-long n m gs calls w h = record { long_max = refl; groups = h.groups; kept = h.kept; agree = h.agree }

-- ---- a declaration

pub AreWorld-declared : {C : Type 0} {g : Ghosts C} (n : ℕ) (old new : List (Group C g)) (calls : List (Option Kept)) (w : World) (j : SubId) (m : CardModel) (d : Dir) → AreWorld n old calls w
    → GroupsStand new (w.groups ++ lone j m d n ∷ []) → AreWorld n new calls (record w { groups = w.groups ++ lone j m d w.long_max ∷ [] })
AreWorld-declared n old new calls w j m d h s = record {
  long_max = h.long_max;
  groups = subst (λ (l : ℕ). GroupsStand new (w.groups ++ lone j m d l ∷ [])) h.long_max s;
  kept = kept-unseen w.groups (w.groups ++ lone j m d w.long_max ∷ []) w.calls calls (unseen-declared j m d w.long_max w.groups) h.agree h.kept;
  agree = agree-unseen w.groups (w.groups ++ lone j m d w.long_max ∷ []) w.calls (unseen-declared j m d w.long_max w.groups) h.agree;
}

-- whether it is declared
pub undeclared : (k : SubId) (m : CardModel) (d : Dir) (w : World) → group_of k w.groups ≡ [] → declare k m d w ≡ stays reply.Ok (Some state.Closed) (record w { groups = w.groups ++ lone k m d w.long_max ∷ [] })
undeclared k m d w e =
    ap (λ (l : List Member). cond (holds k l) (stays (reply.Err errno.Ebusy) (Some (stream_of k l).state) w) (stays reply.Ok (Some state.Closed) (record w { groups = w.groups ++ lone k m d w.long_max ∷ [] }))) e

pub declared_twice : (k : SubId) (m : CardModel) (d : Dir) (w : World) → holds k (group_of k w.groups) ≡ true → declare k m d w ≡ stays (reply.Err errno.Ebusy) (Some (stream_of k (group_of k w.groups)).state) w
declared_twice k m d w e =
    ap (λ (b : Bool). cond b (stays (reply.Err errno.Ebusy) (Some (stream_of k (group_of k w.groups)).state) w) (stays reply.Ok (Some state.Closed) (record w { groups = w.groups ++ lone k m d w.long_max ∷ [] }))) e

pub AreWorld-empty : {C : Type 0} {g : Ghosts C} (calls : List (Option Kept)) → ((i : ℕ) → i < 16 → slice_get calls i ≡ Some None) → AreWorld {C = C} {g = g} 2147483647 [] calls empty
AreWorld-empty calls h = record {
  long_max = refl;
  groups = tt;
  kept = λ c b. subst (λ (o : Option (Option Kept)). IsCallOf [] c o None) (sym (h c.0 b)) tt;
  agree = record { apart = tt; waits = λ c p e. (let no : ⊥ = cc in no); made = λ c k some. absurd (some refl) };
}

pub held_if : {C : Type 0} {g : Ghosts C} (gs : List (Group C g)) (xs : List (List Member)) (n : ℕ) (k : SubId) → GroupsStand gs xs → is_some (place_from n k (numbers_in gs)) ≡ true → holds k (group_of k xs) ≡ true
held_if [] xs n k h e = absurd (let no : ⊥ = cc in no)
held_if (y ∷ gs) [] n k h e = absurd h
held_if {C = C} {g = g} (y ∷ gs) (ms ∷ xs) n k h e = by (is_member k (numbers_of (members_in y))) refl e (held_if gs xs (n + 1) k h.1)
  where
    held : holds k ms ≡ is_member k (numbers_of (members_in y))
    held = holds_as k (members_in y) ms h.0

    by : (b : Bool) → is_member k (numbers_of (members_in y)) ≡ b → is_some (cond b (Some n) (place_from (n + 1) k (numbers_in gs))) ≡ true
        → (is_some (place_from (n + 1) k (numbers_in gs)) ≡ true → holds k (group_of k xs) ≡ true) → holds k (group_of k (ms ∷ xs)) ≡ true
    by true t f r = ap (λ (b : Bool). holds k (cond b ms (group_of k xs))) (held ∙ t) ∙ (held ∙ t)
    by false t f r = ap (λ (b : Bool). holds k (cond b ms (group_of k xs))) (held ∙ t) ∙ r f

pub none_if : (o : Option ℕ) → is_some o ≡ false → o ≡ None
none_if None h = refl
none_if (Some i) h = absurd (let no : ⊥ = cc in no)

pub AreWorld-either : {C : Type 0} {g : Ghosts C} (r : Result (Unit {0}) AllocError) (n : ℕ) (old new : List (Group C g)) (calls : List (Option Kept)) (w : World) (j : SubId) (m : CardModel) (d : Dir)
    → OnOk r (GroupsStand new (w.groups ++ lone j m d n ∷ [])) → OnErr r (new ≡ old) → AreWorld n old calls w → (v : World) × AreWorld n new calls v
AreWorld-either (Ok u) n old new calls w j m d s e h = (record w { groups = w.groups ++ lone j m d w.long_max ∷ [] }, AreWorld-declared n old new calls w j m d h s)
AreWorld-either (Err x) n old new calls w j m d s e h = (w, rw e h)

-- ---- places that are all empty

pub all_none : (calls : List (Option Kept)) → AllOfLen (λ (o : Option Kept). o ≡ None) calls 16 → (i : ℕ) → i < 16 → slice_get calls i ≡ Some None
all_none calls h i b = slice_get-get_or calls i None (omega (arith, h.long, b)) ∙ ap (λ (o : Option Kept). Some o) (h.at i None b)

pub no_bytes : {Z : Type 0} (rs : List (Option (Vec ℕ Z))) (i : ℕ) → AllOfLen (λ (o : Option (Vec ℕ Z)). o ≡ None) rs 16 → slot_bytes (slice_get rs i) ≡ []
no_bytes {Z = Z} rs i h = elim (slice_get_cases rs i).1 [
  | inl p ↦ (let b : i < 16 = omega (arith, p.1, h.long) in ap (λ (o : Option (Option (Vec ℕ Z))). slot_bytes o) p.2 ∙ ap (λ (o : Option (Vec ℕ Z)). slot_bytes (Some o)) (sym p.3 ∙ h.at i p.0 b))
  | inr q ↦ ap (λ (o : Option (Option (Vec ℕ Z))). slot_bytes o) q.1
]
