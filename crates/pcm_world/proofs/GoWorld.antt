-- The world before and after the step of a call that goes on.
use Rattle.std.proofs.Common.{◌≡◌, ◌≢◌, inl, inr, ℕ, zero, suc, ◌<◌, ◌≤◌, Bool, true, false, cond, ◌&&◌, nat_eq, List, [], ◌∷◌, length, Option, Some, None, get_or, set, slice_get, refl, sym, ap, ◌∙◌, subst, arith}
use Rattle.std.proofs.lemmas.Bool.Decides.{nat_tests}
use Rattle.std.proofs.lemmas.Option.{slice_get_within}
use Rattle.std.specs.Prelude.{Vec}
use Rattle.pcm_base.specs.declared.call.Call.TheVariants as call
use Rattle.pcm_base.specs.declared.call.Layout.{Layout}
use Rattle.pcm_base.specs.declared.card.Card.{Ghosts}
use Rattle.pcm_base.specs.declared.config.Shape.{Shape}
use Rattle.pcm_base.specs.declared.ids.ClientId.{ClientId}
use Rattle.pcm_base.specs.declared.ids.SubId.{SubId}
use Rattle.pcm_base.specs.declared.reply.Reply.{Reply}
use Rattle.pcm_base.specs.declared.reply.Reply.TheVariants as reply
use Rattle.pcm_base.specs.declared.reply.Told.{Told as Shown}
use Rattle.pcm_base.specs.model.Events.{waiting_of}
use Rattle.pcm_base.specs.model.Group.{GroupStep, group_step, stream_of}
use Rattle.pcm_base.specs.model.Stream.{Member}
use Rattle.pcm_base.specs.model.World.{InProgress, World, call_of, group_of, holds, in_group, told_bytes, with_group}
use Rattle.pcm_group.specs.Bytes.{bytes_left}
use Rattle.pcm_group.specs.declared.group.Group.{Group}
use Rattle.pcm_world.specs.declared.calls.Kept.{Kept}
use Rattle.pcm_world.specs.Answered.{bytes_told, is_left, shown_step}
use Rattle.pcm_world.specs.Calls.{IsCallOf, IsKept, KeepsBytes, stream_at}
use Rattle.pcm_world.specs.Groups.{AreFreeFor, AreNumbers, GroupsStand, numbers_in, place_in}
use Rattle.pcm_world.specs.Shown.{is_by, is_frames, reads, slot_bytes}
use Rattle.pcm_world.specs.Stands.{AreWorld}
use Rattle.pcm_world.proofs.AnswerLemmas.{after-step, named-stepped}
use Rattle.pcm_world.proofs.BeginLemmas.{IsShapeAt, step-same}
use Rattle.pcm_world.proofs.BeginWorld.{AreResults, free-all, results-by}
use Rattle.pcm_world.proofs.CallLemmas.{client-below, same_client}
use Rattle.pcm_world.proofs.EventWalk.{IsAwake}
use Rattle.pcm_world.proofs.GoLemmas.{IsGoing, IsGone, first-gone, go-program, going-held, going-lent, going-ready, going-set, going-waits, result-gone}
use Rattle.pcm_world.proofs.GroupLemmas.{group_none}
use Rattle.pcm_world.proofs.ResultLemmas.{AreFirst}
use Rattle.pcm_world.proofs.SlotLemmas.{set-elsewhere, set-here}
use Rattle.pcm_world.proofs.StandingLemmas.{declared-below, group-distinct, group_of-member}
use Rattle.pcm_world.proofs.WorldSteps.{ArePlacesOf, asleep-or-awake, world-asleep, world-awake}

-- ---- what is found in the client's place

get-there : {A : Type 0} (xs : List A) (i : ℕ) (y d : A) → slice_get xs i ≡ Some y → get_or xs i d ≡ y
get-there [] i y d h = absurd (let no : ⊥ = cc in no)
get-there (x ∷ xs) zero y d h = let same : x ≡ y = cc in same
get-there (x ∷ xs) (suc i) y d h = get-there xs i y d h

-- the call that goes on
pub record IsFound {C : Type 0} {g : Ghosts C} (n : ℕ) (gs : List (Group C g)) (calls : List (Option Kept)) (w : World) (c : ClientId) (q : Kept) (p : InProgress) : Type 0 where
  pub going : IsGoing n gs calls w p q
  pub client : p.client ≡ c
  pub place : slice_get calls c.0 ≡ Some (Some q)

pub going-of : {C : Type 0} {g : Ghosts C} (n : ℕ) (gs : List (Group C g)) (calls : List (Option Kept)) (w : World) (c : ClientId) (r : Option Kept) (q : Kept) → AreWorld n gs calls w → AreNumbers (numbers_in gs) → c.0 ≤ 15
    → r ≡ get_or calls c.0 r → r ≡ Some q → (p : InProgress) × IsFound n gs calls w c q p
going-of {C = C} {g = g} n gs calls w c r q h numbers below at is = by (slice_get calls c.0) (call_of c w.calls) refl refl (h.kept c (omega (arith, below)))
  where
    by : (o : Option (Option Kept)) (k : Option InProgress) → slice_get calls c.0 ≡ o → call_of c w.calls ≡ k → IsCallOf w.groups c o k → (p : InProgress) × IsFound n gs calls w c q p
    by (Some (Some q')) (Some p) e f k =
        let there : Some q ≡ Some q' = sym is ∙ at ∙ get-there calls c.0 (Some q') r e in
        let same : q' ≡ q = (let two : q ≡ q' = cc in sym two) in (
          p,
          record {
            going = record {
              world = h;
              numbers = numbers;
              called = ap (λ (d : ClientId). call_of d w.calls) k.client ∙ f;
              kept = subst (λ (z : Kept). IsKept w.groups z p.client p) same (subst (λ (d : ClientId). IsKept w.groups q' d p) (sym k.client) k);
            };
            client = k.client;
            place = e ∙ ap (λ (z : Kept). Some (Some z)) same;
          },
        )
    by (Some None) None e f k = absurd (let there : Some q ≡ None = sym is ∙ at ∙ get-there calls c.0 None r e in let no : ⊥ = cc in no)
    by None None e f k = absurd k
    by None (Some p) e f k = absurd k
    by (Some None) (Some p) e f k = absurd k
    by (Some (Some q')) None e f k = absurd k

pub none-of : {C : Type 0} {g : Ghosts C} (n : ℕ) (gs : List (Group C g)) (calls : List (Option Kept)) (w : World) (c : ClientId) (r : Option Kept) → AreWorld n gs calls w → c.0 ≤ 15
    → r ≡ get_or calls c.0 r → r ≡ None → (call_of c w.calls ≡ None) × (slice_get calls c.0 ≡ Some None)
none-of n gs calls w c r h below at is = by (slice_get calls c.0) (call_of c w.calls) refl refl (h.kept c (omega (arith, below)))
  where
    by : (o : Option (Option Kept)) (k : Option InProgress) → slice_get calls c.0 ≡ o → call_of c w.calls ≡ k → IsCallOf w.groups c o k → (call_of c w.calls ≡ None) × (slice_get calls c.0 ≡ Some None)
    by (Some (Some q)) (Some p) e f k = absurd (let there : None ≡ Some q = sym is ∙ at ∙ get-there calls c.0 (Some q) r e in let no : ⊥ = cc in no)
    by (Some None) None e f k = (f, e)
    by None None e f k = absurd k
    by None (Some p) e f k = absurd k
    by (Some None) (Some p) e f k = absurd k
    by (Some (Some q)) None e f k = absurd k

-- ---- the places once it was taken out

-- what is left in them
pub record IsEndOfGoing (c : ClientId) (r : Reply) (q : Kept) (calls now : List (Option Kept)) : Type 0 where
  pub call : slice_get now c.0 ≡ cond (is_left r) (Some (Some q)) (slice_get calls c.0)
  pub others : (i : ℕ) → i ≢ c.0 → slice_get now i ≡ slice_get calls i

-- the client's place was emptied
pub record IsTaken (c : ClientId) (calls now : List (Option Kept)) : Type 0 where
  pub own : slice_get now c.0 ≡ Some None
  pub others : (i : ℕ) → i ≢ c.0 → slice_get now i ≡ slice_get calls i

pub taken-of : (c : ClientId) (calls : List (Option Kept)) (x y : Option Kept) → slice_get calls c.0 ≡ Some x → y ≡ None → IsTaken c calls (set calls c.0 y)
taken-of c calls x y e is = record {
  own = set-here calls c.0 y (slice_get_within calls c.0 x e) ∙ ap (λ (z : Option Kept). Some z) is;
  others = λ i n. set-elsewhere calls c.0 i y n;
}

differs : (a b : ℕ) → nat_eq a b ≡ false → a ≢ b
differs a b h e = let no : ⊥ = grind (arith, nat_tests, h, e) in no

left-awake : (r : Reply) → IsAwake r → (r ≡ reply.Memory → ⊥) → is_left r ≡ false
left-awake reply.Ok w m = refl
left-awake (reply.Frames k) w m = refl
left-awake (reply.Moved k) w m = refl
left-awake (reply.Delay k) w m = refl
left-awake (reply.Ptrs p) w m = refl
left-awake (reply.Poll p) w m = refl
left-awake reply.Asleep w m = absurd w
left-awake (reply.Err e) w m = refl
left-awake (reply.Late k) w m = refl
left-awake reply.Idle w m = refl
left-awake (reply.Limit k) w m = refl
left-awake (reply.Busy c) w m = refl
left-awake reply.Memory w m = absurd (m refl)

places-of : (c : ClientId) (r : Reply) (q : Kept) (own : Option Kept) (calls taken now : List (Option Kept)) → IsTaken c calls taken → IsEndOfGoing c r q taken now → slice_get now c.0 ≡ Some own → ArePlacesOf c own calls now
places-of c r q own calls taken now t h is = record {
  others = λ d n. h.others d.0 (differs d.0 c.0 n) ∙ t.others d.0 (differs d.0 c.0 n);
  caller = λ b. is;
}

-- ---- what the code does

-- a step that goes on with the bytes that the world keeps
pub record IsGoneStep {C : Type 0} {g : Ghosts C} (n : ℕ) (old new : List (Group C g)) (calls : List (Option Kept)) (w : World) (p : InProgress) (q : Kept) (shape : Option Shape) (left : List ℕ) (r : Shown) : Type 0 where
  pub going : IsGoing n old calls w p q
  pub shaped : IsShapeAt shape (stream_at p.sub w.groups)
  pub told : r ≡ shown_step p.sub (group_step call.Go p.client p.sub q.bytes.items (group_of p.sub w.groups))
  pub stands : GroupsStand new (after-step call.Go p.client p.sub q.bytes.items w.groups)
  pub size : length left ≡ length q.bytes.items
  pub bytes : left ≡ bytes_left call.Go p.client (stream_at p.sub w.groups) (group_step call.Go p.client p.sub q.bytes.items (group_of p.sub w.groups)).answer q.bytes.items

module _ {C : Type 0} {g : Ghosts C} (n : ℕ) (old new : List (Group C g)) (calls : List (Option Kept)) (w : World) (p : InProgress) (q : Kept) (shape : Option Shape) (left : List ℕ) (r : Shown) (h : IsGoneStep n old new calls w p q shape left r) where
  gone-same : group_step call.Go p.client p.sub q.bytes.items (group_of p.sub w.groups) ≡ group_step call.Go p.client p.sub p.bytes (group_of p.sub w.groups)
  gone-same = step-same call.Go p.client p.sub p.bytes q.bytes.items (group_of p.sub w.groups) (λ l. go-program p q w.groups l h.going.kept)

  pub gone-told : r ≡ shown_step p.sub (group_step call.Go p.client p.sub p.bytes (group_of p.sub w.groups))
  gone-told = h.told ∙ ap (shown_step p.sub) gone-same

  gone-reply : r.reply ≡ (group_step call.Go p.client p.sub p.bytes (group_of p.sub w.groups)).answer.reply
  gone-reply = ap (λ (t : Shown). t.reply) gone-told

  gone-stands : GroupsStand new (after-step call.Go p.client p.sub p.bytes w.groups)
  gone-stands = subst (λ (s : GroupStep). GroupsStand new (with_group p.sub s.members w.groups)) gone-same h.stands

  gone-left : left ≡ bytes_left call.Go p.client (stream_at p.sub w.groups) (group_step call.Go p.client p.sub p.bytes (group_of p.sub w.groups)).answer q.bytes.items
  gone-left = h.bytes ∙ ap (λ (s : GroupStep). bytes_left call.Go p.client (stream_at p.sub w.groups) s.answer q.bytes.items) gone-same

  gone-is : IsGone p q shape left w
  gone-is =
      let ready = going-ready n old calls w p q h.going in
      record { shaped = h.shaped; told = (named-stepped old w.groups call.Go p.client p.sub p.bytes ready.placed ready.entered).told; size = h.size; left = gone-left }

  pub gone-first : (z : Shape) (l : Layout) (t : ℕ) → shape ≡ Some z → q.layout ≡ Some l → r.reply ≡ reply.Frames t → AreFirst z t left
  gone-first = λ z l t of lay is. first-gone n old calls w p q shape left h.going gone-is z l t of lay (sym gone-reply ∙ is)

  pub gone-world : (q' : Kept) (taken now : List (Option Kept)) → q'.sub ≡ q.sub → q'.layout ≡ q.layout → q'.bytes.items ≡ left → IsTaken p.client calls taken → IsEndOfGoing p.client r.reply q' taken now → r.reply ≢ reply.Memory
      → AreWorld n new now (in_group call.Go p w).world
  gone-world = λ q' taken now sub lay is t ends told. elim (asleep-or-awake (group_step call.Go p.client p.sub p.bytes (group_of p.sub w.groups)).answer.reply) [
    | inr awake ↦ world-awake n old new calls now w call.Go p (going-ready n old calls w p q h.going) gone-stands awake
        (places-of p.client r.reply q' None calls taken now t ends
        (ends.call ∙ ap (λ (b : Bool). cond b (Some (Some q')) (slice_get taken p.client.0)) (left-awake r.reply (subst IsAwake (sym gone-reply) awake) told) ∙ t.own))
    | inl asleep ↦ world-asleep n old new calls now w call.Go p q.bytes.items q' (going-ready n old calls w p q h.going) gone-stands asleep (client-below p.client w.calls p h.going.world.agree.apart h.going.called)
        (places-of p.client r.reply q' (Some q') calls taken now t ends
        (ends.call ∙ ap (λ (s : Reply). cond (is_left s) (Some (Some q')) (slice_get taken p.client.0)) (gone-reply ∙ asleep)))
        (going-waits n old calls w p q h.going) (going-lent n old calls w p q h.going) (λ z. going-set n old calls w p q h.going) (sub ∙ h.going.kept.sub) (lay ∙ h.going.kept.layout)
        (ap (λ (b : List ℕ). length b) is ∙ h.size) (is ∙ gone-left)
  ]

  pub gone-result : {Z : Type 0} (q' : Kept) (results now : List (Option (Vec ℕ Z))) → q'.layout ≡ q.layout → q'.bytes.items ≡ left → AreResults (Some p.client) r.reply q' shape results now
      → (d : ClientId) → slot_bytes (slice_get now d.0)
      ≡ cond (is_by d (Some p.client) && (reads call.Go p.client w && is_frames (group_step call.Go p.client p.sub p.bytes (group_of p.sub w.groups)).answer.reply))
      (told_bytes call.Go p.client (group_step call.Go p.client p.sub p.bytes (group_of p.sub w.groups)).answer.reply (stream_at p.sub w.groups) p.frames (group_step call.Go p.client p.sub p.bytes (group_of p.sub w.groups)).answer.frames) (slot_bytes (slice_get results d.0))
  gone-result {Z} = λ q' results now lay is ends d. results-by (Some p.client) r.reply q' shape results now
      (reads call.Go p.client w && is_frames (group_step call.Go p.client p.sub p.bytes (group_of p.sub w.groups)).answer.reply)
      (told_bytes call.Go p.client (group_step call.Go p.client p.sub p.bytes (group_of p.sub w.groups)).answer.reply (stream_at p.sub w.groups) p.frames (group_step call.Go p.client p.sub p.bytes (group_of p.sub w.groups)).answer.frames) ends
      (λ c z. own q' (slot_bytes (slice_get results c.0)) lay is) d
    where
      own : (q' : Kept) (before : List ℕ) → q'.layout ≡ q.layout → q'.bytes.items ≡ left → bytes_told r.reply q'.layout shape q'.bytes.items before
          ≡ cond (reads call.Go p.client w && is_frames (group_step call.Go p.client p.sub p.bytes (group_of p.sub w.groups)).answer.reply)
          (told_bytes call.Go p.client (group_step call.Go p.client p.sub p.bytes (group_of p.sub w.groups)).answer.reply (stream_at p.sub w.groups) p.frames (group_step call.Go p.client p.sub p.bytes (group_of p.sub w.groups)).answer.frames) before
      own q' before lay is =
          ap (λ (l : Option Layout). bytes_told r.reply l shape q'.bytes.items before) lay ∙ ap (λ (b : List ℕ). bytes_told r.reply q.layout shape b before) is
          ∙ ap (λ (s : Reply). bytes_told s q.layout shape left before) gone-reply ∙ result-gone n old calls w p q shape left before h.going gone-is

-- the group is free but for the call that goes on
pub going-free : {C : Type 0} {g : Ghosts C} (n : ℕ) (gs : List (Group C g)) (calls : List (Option Kept)) (w : World) (p : InProgress) (q : Kept) → IsGoing n gs calls w p q → AreFreeFor call.Go p.sub p.client (group_of p.sub w.groups)
going-free n gs calls w p q h = free-all call.Go p.sub p.client (group_of p.sub w.groups) (group-distinct gs w.groups p.sub h.numbers h.world.groups)
    (λ j held own. sym (ap (λ (l : List Member). waiting_of p.client (stream_of j l).sleepers) (group_of-member gs w.groups j p.sub h.numbers h.world.groups held)) ∙ (going-ready n gs calls w p q h).alone j own)

-- where there was no memory the call is kept as it was
pub gone-nowhere : {C : Type 0} {g : Ghosts C} (n : ℕ) (old new : List (Group C g)) (calls taken now : List (Option Kept)) (w : World) (p : InProgress) (q q' : Kept) (r : Reply) → IsGoing n old calls w p q → GroupsStand new w.groups
    → q'.sub ≡ q.sub → q'.layout ≡ q.layout → q'.bytes.items ≡ q.bytes.items → IsTaken p.client calls taken → IsEndOfGoing p.client r q' taken now → r ≡ reply.Memory → AreWorld n new now w
gone-nowhere n old new calls taken now w p q q' r h stands sub lay is t ends none = record {
  long_max = h.world.long_max;
  groups = stands;
  kept = λ d b. by d b (nat_eq d.0 p.client.0) refl;
  agree = h.world.agree;
}
  where
    place : slice_get now p.client.0 ≡ Some (Some q')
    place = ends.call ∙ ap (λ (s : Reply). cond (is_left s) (Some (Some q')) (slice_get taken p.client.0)) none

    kept : IsKept w.groups q' p.client p
    kept = record {
      client = refl;
      sub = sub ∙ h.kept.sub;
      layout = lay ∙ h.kept.layout;
      size = ap (λ (b : List ℕ). length b) is ∙ h.kept.size;
      bytes = subst (λ (l : Option Layout). KeepsBytes l (stream_at p.sub w.groups) q'.bytes.items p) (sym lay) (subst (λ (b : List ℕ). KeepsBytes q.layout (stream_at p.sub w.groups) b p) (sym is) h.kept.bytes);
    }

    by : (d : ClientId) → d.0 < 16 → (b : Bool) → nat_eq d.0 p.client.0 ≡ b → IsCallOf w.groups d (slice_get now d.0) (call_of d w.calls)
    by d b false e = subst (λ (o : Option (Option Kept)). IsCallOf w.groups d o (call_of d w.calls)) (sym (ends.others d.0 (differs d.0 p.client.0 e) ∙ t.others d.0 (differs d.0 p.client.0 e))) (h.world.kept d b)
    by d b true e =
        subst (λ (x : ClientId). IsCallOf w.groups x (slice_get now x.0) (call_of x w.calls)) (sym (same_client d p.client e))
        (subst (λ (o : Option (Option Kept)). IsCallOf w.groups p.client o (call_of p.client w.calls)) (sym place) (subst (λ (o : Option InProgress). IsCallOf w.groups p.client (Some (Some q')) o) (sym h.called) kept))

-- ---- what the code finds

-- an empty place that is emptied
pub taken-none : (c : ClientId) (calls : List (Option Kept)) (y : Option Kept) → slice_get calls c.0 ≡ Some None → y ≡ None → (i : ℕ) → slice_get (set calls c.0 y) i ≡ slice_get calls i
taken-none c calls y e is i = by (nat_eq i c.0) refl
  where
    by : (b : Bool) → nat_eq i c.0 ≡ b → slice_get (set calls c.0 y) i ≡ slice_get calls i
    by false n = (taken-of c calls None y e is).others i (differs i c.0 n)
    by true n = let at : i ≡ c.0 = grind (arith, nat_tests, n) in ap (slice_get (set calls c.0 y)) at ∙ (taken-of c calls None y e is).own ∙ sym e ∙ ap (slice_get calls) (sym at)

pub going-below : {C : Type 0} {g : Ghosts C} (n : ℕ) (gs : List (Group C g)) (calls : List (Option Kept)) (w : World) (p : InProgress) (q : Kept) → IsGoing n gs calls w p q → q.sub.0 < 16
going-below n gs calls w p q h = subst (λ (k : SubId). k.0 < 16) (sym h.kept.sub) (declared-below gs w.groups p.sub h.numbers h.world.groups (going-held n gs calls w p q h))

-- the substream of the call is declared
pub going-declared : {C : Type 0} {g : Ghosts C} (n : ℕ) (gs : List (Group C g)) (calls : List (Option Kept)) (w : World) (p : InProgress) (q : Kept) → IsGoing n gs calls w p q → place_in q.sub (numbers_in gs) ≡ None → ⊥
going-declared n gs calls w p q h none =
    let empty : group_of p.sub w.groups ≡ [] = group_none gs w.groups 0 p.sub h.world.groups (ap (λ (k : SubId). place_in k (numbers_in gs)) (sym h.kept.sub) ∙ none) in
    let two : true ≡ false = sym (going-held n gs calls w p q h) ∙ ap (holds p.sub) empty in
    let no : ⊥ = cc in no

pub found-free : {C : Type 0} {g : Ghosts C} (n : ℕ) (gs : List (Group C g)) (calls : List (Option Kept)) (w : World) (p : InProgress) (q : Kept) (c d : ClientId) → IsFound n gs calls w c q p → Some c ≡ Some d → AreFreeFor call.Go q.sub d (group_of q.sub w.groups)
found-free n gs calls w p q c d h e =
    let same : p.client ≡ d = (let two : c ≡ d = cc in h.client ∙ two) in
    subst (λ (x : ClientId). AreFreeFor call.Go q.sub x (group_of q.sub w.groups)) same
    (subst (λ (k : SubId). AreFreeFor call.Go k p.client (group_of k w.groups)) (sym h.going.kept.sub) (going-free n gs calls w p q h.going))

-- in the words of the place and the client that the code has
pub gone-step-of : {C : Type 0} {g : Ghosts C} (n : ℕ) (old new : List (Group C g)) (calls : List (Option Kept)) (w : World) (c : ClientId) (p : InProgress) (q : Kept) (shape : Option Shape) (left : List ℕ) (r : Shown) → IsFound n old calls w c q p
    → IsShapeAt shape (stream_at q.sub w.groups) → r ≡ shown_step q.sub (group_step call.Go c q.sub q.bytes.items (group_of q.sub w.groups)) → GroupsStand new (after-step call.Go c q.sub q.bytes.items w.groups) → length left ≡ length q.bytes.items
    → left ≡ bytes_left call.Go c (stream_at q.sub w.groups) (group_step call.Go c q.sub q.bytes.items (group_of q.sub w.groups)).answer q.bytes.items → IsGoneStep n old new calls w p q shape left r
gone-step-of n old new calls w c p q shape left r h shaped told stands size bytes =
    let ec : c ≡ p.client = sym h.client in
    let ek : q.sub ≡ p.sub = h.going.kept.sub in
    record {
      going = h.going;
      shaped = subst (λ (k : SubId). IsShapeAt shape (stream_at k w.groups)) ek shaped;
      told = subst (λ (k : SubId). r ≡ shown_step k (group_step call.Go p.client k q.bytes.items (group_of k w.groups))) ek
          (subst (λ (d : ClientId). r ≡ shown_step q.sub (group_step call.Go d q.sub q.bytes.items (group_of q.sub w.groups))) ec told);
      stands = subst (λ (k : SubId). GroupsStand new (after-step call.Go p.client k q.bytes.items w.groups)) ek (subst (λ (d : ClientId). GroupsStand new (after-step call.Go d q.sub q.bytes.items w.groups)) ec stands);
      size = size;
      bytes = subst (λ (k : SubId). left ≡ bytes_left call.Go p.client (stream_at k w.groups) (group_step call.Go p.client k q.bytes.items (group_of k w.groups)).answer q.bytes.items) ek
          (subst (λ (d : ClientId). left ≡ bytes_left call.Go d (stream_at q.sub w.groups) (group_step call.Go d q.sub q.bytes.items (group_of q.sub w.groups)).answer q.bytes.items) ec bytes);
    }

-- whether a client has read hangs on the caller alone
pub reads-caller : (c d : ClientId) (w : World) (f : Bool) → (is_by d (Some c) && (reads call.Go c w && f)) ≡ (is_by d (Some c) && (reads call.Go d w && f))
reads-caller c d w f = by (nat_eq c.0 d.0) refl
  where
    by : (b : Bool) → nat_eq c.0 d.0 ≡ b → (b && (reads call.Go c w && f)) ≡ (b && (reads call.Go d w && f))
    by false e = refl
    by true e = ap (λ (x : ClientId). reads call.Go x w && f) (same_client c d e)

pub results-of : {Z : Type 0} (c d : ClientId) (r : Reply) (q : Kept) (shape : Option Shape) (results now : List (Option (Vec ℕ Z))) → d ≡ c → slot_bytes (slice_get now c.0) ≡ bytes_told r q.layout shape q.bytes.items (slot_bytes (slice_get results c.0))
    → ((i : ℕ) → i ≢ c.0 → slice_get now i ≡ slice_get results i) → AreResults (Some d) r q shape results now
results-of {Z = Z} c d r q shape results now same own others = record {
  own = λ x z. let one : c ≡ x = (let two : d ≡ x = cc in sym same ∙ two) in subst (λ (y : ClientId). slot_bytes (slice_get now y.0) ≡ bytes_told r q.layout shape q.bytes.items (slot_bytes (slice_get results y.0))) one own;
  others = λ i n. others i (λ e. n d refl (e ∙ ap (λ (y : ClientId). y.0) (sym same)));
}

pub found-same : {C : Type 0} {g : Ghosts C} (n : ℕ) (gs : List (Group C g)) (calls : List (Option Kept)) (w : World) (c : ClientId) (q : Kept) (p r : InProgress) → IsFound n gs calls w c q p → call_of c w.calls ≡ Some r → IsFound n gs calls w c q r
found-same n gs calls w c q p r h e =
    let two : Some p ≡ Some r = sym h.going.called ∙ ap (λ (d : ClientId). call_of d w.calls) h.client ∙ e in
    let same : p ≡ r = cc in
    subst (λ (x : InProgress). IsFound n gs calls w c q x) same h

-- what each client has read
pub gone-read : {C : Type 0} {g : Ghosts C} (n : ℕ) (old new : List (Group C g)) (calls : List (Option Kept)) (w : World) (c : ClientId) (p : InProgress) (q : Kept) (shape : Option Shape) (left : List ℕ) (r : Shown) → IsGoneStep n old new calls w p q shape left r → p.client ≡ c
    → {Z : Type 0} (q' : Kept) (results now : List (Option (Vec ℕ Z))) → q'.layout ≡ q.layout → q'.bytes.items ≡ left → AreResults (Some p.client) r.reply q' shape results now → (d : ClientId) → slot_bytes (slice_get now d.0)
    ≡ cond (is_by d (Some c) && (reads call.Go d w && is_frames (group_step call.Go p.client p.sub p.bytes (group_of p.sub w.groups)).answer.reply))
    (told_bytes call.Go p.client (group_step call.Go p.client p.sub p.bytes (group_of p.sub w.groups)).answer.reply (stream_at p.sub w.groups) p.frames (group_step call.Go p.client p.sub p.bytes (group_of p.sub w.groups)).answer.frames) (slot_bytes (slice_get results d.0))
gone-read n old new calls w c p q shape left r h same q' results now lay is ends d =
    let f : Bool = is_frames (group_step call.Go p.client p.sub p.bytes (group_of p.sub w.groups)).answer.reply in
    let told : List ℕ = told_bytes call.Go p.client (group_step call.Go p.client p.sub p.bytes (group_of p.sub w.groups)).answer.reply (stream_at p.sub w.groups) p.frames (group_step call.Go p.client p.sub p.bytes (group_of p.sub w.groups)).answer.frames in
    gone-result n old new calls w p q shape left r h q' results now lay is ends d
    ∙ ap (λ (b : Bool). cond b told (slot_bytes (slice_get results d.0))) (reads-caller p.client d w f)
    ∙ ap (λ (x : ClientId). cond (is_by d (Some x) && (reads call.Go d w && f)) told (slot_bytes (slice_get results d.0))) same
