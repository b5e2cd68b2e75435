-- The members of a group and the streams that they stand for.
use Rattle.std.proofs.Common.{◌≡◌, ◌≢◌, ◌%◌, ℕ, zero, suc, Bool, true, false, cond, not, nat_eq, List, [], ◌∷◌, slice_get, get_or, refl, sym, ap, ◌∙◌, subst, arith}
use Rattle.std.specs.Prelude.{◌||◌, ◌&&◌, All, IfNone, IfSome}
use Rattle.std.specs.Option.{is_some}
use Rattle.std.specs.declared.option.Option.{Option}
use Rattle.std.specs.declared.option.Option.TheVariants.{Some, None}
use Rattle.std.proofs.lemmas.Bool.Decides.{nat_tests}
use Rattle.std.proofs.lemmas.Option.{get_or_from_slice_get, slice_get-get_or, slice_get_within}
use Rattle.pcm_base.specs.declared.card.Card.{Ghosts}
use Rattle.pcm_base.specs.declared.config.Config.{Config}
use Rattle.pcm_base.specs.declared.config.Shape.{Shape}
use Rattle.pcm_base.specs.declared.ids.ClientId.{ClientId}
use Rattle.pcm_base.specs.declared.ids.SubId.{SubId}
use Rattle.pcm_base.specs.declared.reply.Page.{Page}
use Rattle.pcm_base.specs.declared.sleeper.Sleeper.{Sleeper}
use Rattle.pcm_base.specs.model.Acts.{subs}
use Rattle.pcm_base.specs.model.Events.{page, page_by, waiting_of}
use Rattle.pcm_base.specs.model.Group.{stream_of}
use Rattle.pcm_base.specs.model.Replay.{Distinct, is_member}
use Rattle.pcm_base.specs.model.Sound.{IsBare, Sound, SoundAt}
use Rattle.pcm_base.specs.model.Stream.{Positions, Setup, Stream, Member as ModelMember, shown}
use Rattle.pcm_base.specs.model.World.{nobody}
use Rattle.pcm_laws.specs.Waiting.{AllHaveDistinctClients, HaveDistinctClients}
use Rattle.sleepers.specs.Clients.{AreApart, has_client}
use Rattle.sleepers.specs.Marks.{waiting}
use Rattle.room_lock.specs.InGroup.{IsPageIn}
use Rattle.pcm_stream.specs.declared.members.Member.{Member}
use Rattle.pcm_stream.specs.Members.{all_differ, numbers_of}
use Rattle.pcm_stream.specs.StandsFor.{IsShapeOf}
use Rattle.pcm_stream.specs.MembersStand.{AllStandFor, MemberStandsFor}

-- they have the same numbers
pub numbers_are : {C : Type 0} {g : Ghosts C} (ms : List (Member C g)) (xs : List ModelMember) → AllStandFor ms xs → subs xs ≡ numbers_of ms
numbers_are [] [] h = refl
numbers_are [] (x ∷ xs) h = absurd h
numbers_are (m ∷ ms) [] h = absurd h
numbers_are (m ∷ ms) (x ∷ xs) h = let one = sym h.0.member.number in let rest = numbers_are ms xs h.1 in ap (λ (z : SubId × List SubId). z.0 ∷ z.1) (λ i. (one i, rest i))

both_of : (a b : Bool) → (a && b) ≡ true → (a ≡ true) × (b ≡ true)
both_of true b h = (refl, h)
both_of false b h = absurd (let no : ⊥ = cc in no)

not_so : (b : Bool) → not b ≡ true → b ≡ false
not_so true h = absurd (let no : ⊥ = cc in no)
not_so false h = refl

pub distinct_of : (ks : List SubId) → all_differ ks ≡ true → Distinct ks
distinct_of [] h = tt
distinct_of (k ∷ ks) h = let two = both_of (not (is_member k ks)) (all_differ ks) h in (not_so (is_member k ks) two.0, distinct_of ks two.1)

pub is_among : (ks : List SubId) (i : ℕ) (k : SubId) → slice_get ks i ≡ Some k → is_member k ks ≡ true
is_among [] i k h = absurd (let no : ⊥ = cc in no)
is_among (j ∷ ks) zero k h =
    let e : j ≡ k = cc in
    let same : nat_eq j.0 j.0 ≡ true = grind (arith, nat_tests) in subst (λ (x : SubId). is_member x (j ∷ ks) ≡ true) e (ap (λ b. b || is_member j ks) same)
is_among (j ∷ ks) (suc i) k h = by (nat_eq j.0 k.0) (is_among ks i k h)
  where
    by : (b : Bool) → is_member k ks ≡ true → (b || is_member k ks) ≡ true
    by true e = refl
    by false e = e

apart_from : (j : SubId) (ks : List SubId) (i : ℕ) (k : SubId) → is_member j ks ≡ false → slice_get ks i ≡ Some k → nat_eq j.0 k.0 ≡ false
apart_from j ks i k none h = by (nat_eq j.0 k.0) refl
  where
    by : (b : Bool) → nat_eq j.0 k.0 ≡ b → b ≡ false
    by true e =
        let same : k.0 ≡ j.0 = grind (arith, nat_tests, e) in
        let is : k ≡ j = ap (λ n. let x : SubId = record { 0 = n } in x) same in
        let yes : is_member j ks ≡ true = subst (λ (x : SubId). is_member x ks ≡ true) is (is_among ks i k h) in absurd (let no : ⊥ = cc in no)
    by false e = refl

-- the member at a place stands for the one whose stream is that of its number
pub record StandsAt {C : Type 0} {g : Ghosts C} (m : Member C g) (k : SubId) (xs : List ModelMember) : Type 0 where
  pub one : ModelMember
  pub stands : MemberStandsFor m one
  pub stream : one.stream ≡ stream_of k xs

pub stands_at : {C : Type 0} {g : Ghosts C} (ms : List (Member C g)) (xs : List ModelMember) (i : ℕ) (m : Member C g) (k : SubId) → Distinct (numbers_of ms) → AllStandFor ms xs
    → slice_get ms i ≡ Some m → slice_get (numbers_of ms) i ≡ Some k → StandsAt m k xs
stands_at [] xs i m k d h at is = absurd (let no : ⊥ = cc in no)
stands_at (y ∷ ms) [] i m k d h at is = absurd h
stands_at {C} {g} (y ∷ ms) (x ∷ xs) zero m k d h at is =
    let e : y ≡ m = cc in
    let f : y.sub ≡ k = cc in
    let n : x.sub.0 ≡ k.0 = ap (λ (j : SubId). j.0) (sym h.0.member.number ∙ f) in
    let test : nat_eq x.sub.0 k.0 ≡ true = grind (arith, nat_tests, n) in
    record { one = x; stands = subst (λ (z : Member C g). MemberStandsFor z x) e h.0; stream = ap (λ (b : Bool). cond b x.stream (stream_of k xs)) (sym test) }
stands_at (y ∷ ms) (x ∷ xs) (suc i) m k d h at is =
    let far = apart_from y.sub (numbers_of ms) i k d.0 is in
    let test : nat_eq x.sub.0 k.0 ≡ false = ap (λ (j : SubId). nat_eq j.0 k.0) (sym h.0.member.number) ∙ far in
    let rest = stands_at ms xs i m k d.1 h.1 at is in
    record { one = rest.one; stands = rest.stands; stream = rest.stream ∙ ap (λ (b : Bool). cond b x.stream (stream_of k xs)) (sym test) }

-- a page shows what a mark is to show
page_hw : (s : Stream) (o : Option Config) → SoundAt o s → (page_by o s).hw ≡ shown s s.at.hw
page_hw s (Some c) h = refl
page_hw s None h = sym (ap (λ (p : Positions). shown s p.hw) h.at ∙ ap (λ (u : Setup). 0 % u.boundary) h.setup)

page_state : (s : Stream) (o : Option Config) → (page_by o s).state ≡ s.state
page_state s (Some c) = refl
page_state s None = refl

pub page_in : (p : Page) (s : Stream) → Sound s → p ≡ page s → IsPageIn p s
page_in p s h is = record {
  state = ap (λ (q : Page). q.state) is ∙ page_state s s.setup.config;
  hw = ap (λ (q : Page). q.hw) is ∙ page_hw s s.setup.config h;
}

-- ---- calls in progress

pub no_client : (c : ClientId) (ys : List Sleeper) → waiting_of c (waiting ys) ≡ None → has_client c ys ≡ false
no_client c [] h = refl
no_client c (y ∷ ys) h = by (nat_eq y.client.0 c.0) h (λ f. no_client c ys f)
  where
    by : (b : Bool) → cond b (Some y.task) (waiting_of c (waiting ys)) ≡ None → (waiting_of c (waiting ys) ≡ None → has_client c ys ≡ false) → (b || has_client c ys) ≡ false
    by true f r = absurd (let no : ⊥ = cc in no)
    by false f r = r f

pub none_waits : (c : ClientId) (ys : List Sleeper) → has_client c ys ≡ false → waiting_of c (waiting ys) ≡ None
none_waits c [] h = refl
none_waits c (y ∷ ys) h = by (nat_eq y.client.0 c.0) h (λ f. none_waits c ys f)
  where
    by : (b : Bool) → (b || has_client c ys) ≡ false → (has_client c ys ≡ false → waiting_of c (waiting ys) ≡ None) → cond b (Some y.task) (waiting_of c (waiting ys)) ≡ None
    by true f r = absurd (let no : ⊥ = cc in no)
    by false f r = r f

-- a card's event has no client
pub nobody_waits : (ys : List Sleeper) → AreApart ys → waiting_of nobody (waiting ys) ≡ None
nobody_waits [] h = refl
nobody_waits (y ∷ ys) h =
    let low = h.0 in
    let ne : y.client.0 ≢ 16 = (λ e. let no : ⊥ = omega (arith, low, e) in no) in
    let test : nat_eq y.client.0 16 ≡ false = grind (arith, nat_tests, ne) in
    ap (λ (b : Bool). cond b (Some y.task) (waiting_of nobody (waiting ys))) test ∙ nobody_waits ys h.2

clients_apart : (ys : List Sleeper) → AreApart ys → HaveDistinctClients (waiting ys)
clients_apart [] h = tt
clients_apart (y ∷ ys) h = (none_waits y.client ys h.1, clients_apart ys h.2)

pub all_distinct : {C : Type 0} {g : Ghosts C} (ms : List (Member C g)) (xs : List ModelMember) → AllStandFor ms xs → AllHaveDistinctClients xs
all_distinct [] [] h = tt
all_distinct [] (x ∷ xs) h = absurd h
all_distinct (m ∷ ms) [] h = absurd h
all_distinct (m ∷ ms) (x ∷ xs) h = (subst HaveDistinctClients h.0.member.calls (clients_apart m.sleepers h.0.member.apart), all_distinct ms xs h.1)

-- by place
pub all_by_place : {A : Type 0} (P : A → Type 0) (xs : List A) → ((i : ℕ) (x : A) → slice_get xs i ≡ Some x → P x) → All P xs
all_by_place P xs h k d lt = h k (get_or xs k d) (slice_get-get_or xs k d lt)

pub all_at : {A : Type 0} (P : A → Type 0) (xs : List A) (i : ℕ) (x : A) → All P xs → slice_get xs i ≡ Some x → P x
all_at P xs i x h at = subst P (get_or_from_slice_get xs i x x at) (h i x (slice_get_within xs i x at))

-- ---- the size of a frame

pub shape_frame : (o : Option Shape) (h : Shape) (s : Stream) → Some h ≡ o → IfSome o (IsShapeOf s) → s.setup.frame_bytes ≡ h.frame_bytes
shape_frame o h s e model = let is : IsShapeOf s h = subst (λ (x : Option Shape). IfSome x (IsShapeOf s)) (sym e) model in is.frame_bytes

pub bare_frame : (o : Option Shape) (s : Stream) → None ≡ o → IfNone o (s.setup.config ≡ None) → Sound s → 0 ≡ s.setup.frame_bytes
bare_frame o s e none sound =
    let bare : s.setup.config ≡ None = subst (λ (x : Option Shape). IfNone x (s.setup.config ≡ None)) (sym e) none in
    let b : IsBare s = subst (λ (x : Option Config). SoundAt x s) bare sound in sym (ap (λ (u : Setup). u.frame_bytes) b.setup)

pub none_some : {A : Type 0} (o : Option A) → is_some o ≡ false → o ≡ None
none_some None h = refl
none_some (Some a) h = absurd (let no : ⊥ = cc in no)
