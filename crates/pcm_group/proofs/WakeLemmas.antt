-- The wake check on one member, and whether a member drains.
use Rattle.std.proofs.Common.{◌≡◌, ℕ, zero, suc, ◌+◌, ◌<◌, ◌≤◌, inl, inr, Bool, true, false, not, ◌||◌, ◌&&◌, List, [], ◌∷◌, ◌++◌, length, max, set, ◌^◌, append-nil, Option, Some, None, refl, sym, ap, ◌∙◌, subst, arith}
use Rattle.std.proofs.lemmas.Bool.{cases_lt}
use Rattle.std.proofs.lemmas.List.Elements.{All-nil}
use Rattle.group_trigger.proofs.ListLemmas.{slice_get-set_other}
use Rattle.std.proofs.lemmas.Nat.Bits.{bit_at_or, same_from_bits}
use Rattle.std.specs.Int.{bit_at}
use Rattle.std.specs.Int.Bits.{or_zero_l}
use Rattle.std.specs.Int.RustNames.{bit_or}
use Rattle.std.specs.List.{AllByRecursion, slice_get}
use Rattle.std.specs.Option.{is_some}
use Rattle.pcm_base.specs.declared.card.Card.{Ghosts}
use Rattle.pcm_base.specs.declared.config.Config.{Config}
use Rattle.pcm_base.specs.declared.ids.ClientId.{ClientId}
use Rattle.pcm_base.specs.declared.reply.Page.{Page}
use Rattle.pcm_base.specs.declared.sleeper.Sleeper.{Sleeper}
use Rattle.pcm_base.specs.declared.sleeper.Task.{Task}
use Rattle.pcm_base.specs.declared.sleeper.Task.TheVariants as task
use Rattle.pcm_base.specs.declared.state.State.{State}
use Rattle.pcm_base.specs.model.Acts.{drains}
use Rattle.pcm_base.specs.model.Events.{page, page_by}
use Rattle.pcm_base.specs.model.Sleep.{group_drains, is_among, mask_of, may_wait, sleepers_that, wake_members, woken_in}
use Rattle.pcm_base.specs.model.Stream.{Stream, Waiting, Member as ModelMember, avail}
use Rattle.pcm_base.specs.model.Transfer.{fits}
use Rattle.sleepers.specs.Clients.{AreApart}
use Rattle.sleepers.specs.Marks.{AreMarks, IsModelCheck, waiting}
use Rattle.sleepers.specs.Wake.{after_check, clients_of, may_wait_on, woken_sleepers}
use Rattle.pcm_stream.specs.declared.members.Member.{Member}
use Rattle.pcm_stream.specs.MembersStand.{AllStandFor, CallsFit, IsMember, IsTransferOn, MemberStandsFor, TaskFits}
use Rattle.pcm_stream.specs.StandsFor.{StandsFor}
use Rattle.pcm_group.specs.Waiting.{StreamsStandFor, calls_wait, checked_first, members_wait, woken_at, woken_first, woken_member}
use Rattle.pcm_stream.specs.declared.substream.Substream.{Substream}

-- ---- whether the group drains

-- one of the first k members drains
abbrev pub drains_first : ℕ → List ModelMember → Bool
drains_first zero xs = false
drains_first (suc k) [] = false
drains_first (suc k) (x ∷ xs) = drains x.stream || drains_first k xs

yes_or : (a b : Bool) → b ≡ true → (a || b) ≡ true
yes_or true b h = refl
yes_or false b h = h

pub drains_there : {C : Type 0} {g : Ghosts C} (ms : List (Member C g)) (i : ℕ) (m : Member C g) (xs : List ModelMember) → StreamsStandFor ms xs → slice_get ms i ≡ Some m → ((s : Stream) → StandsFor m.stream s → drains s ≡ true) → group_drains xs ≡ true
drains_there [] i m xs h at f = absurd (let no : ⊥ = cc in no)
drains_there (y ∷ ms) i m [] h at f = absurd h
drains_there {C = C} {g = g} (y ∷ ms) zero m (x ∷ xs) h at f =
    let e : y ≡ m = cc in
    ap (λ (b : Bool). b || group_drains xs) (f x.stream (subst (λ (z : Member C g). StandsFor z.stream x.stream) e h.0))
drains_there (y ∷ ms) (suc i) m (x ∷ xs) h at f = yes_or (drains x.stream) (group_drains xs) (drains_there ms i m xs h.1 at f)

neither : (a b : Bool) → (a || b) ≡ false → (a ≡ false) × (b ≡ false)
neither true b h = absurd (let no : ⊥ = cc in no)
neither false b h = (refl, h)

pub drains_next : {C : Type 0} {g : Ghosts C} (ms : List (Member C g)) (i : ℕ) (m : Member C g) (xs : List ModelMember) → StreamsStandFor ms xs → slice_get ms i ≡ Some m → ((s : Stream) → StandsFor m.stream s → drains s ≡ false)
    → drains_first i xs ≡ false → drains_first (suc i) xs ≡ false
drains_next [] i m xs h at f k = absurd (let no : ⊥ = cc in no)
drains_next (y ∷ ms) i m [] h at f k = absurd h
drains_next {C = C} {g = g} (y ∷ ms) zero m (x ∷ xs) h at f k =
    let e : y ≡ m = cc in
    ap (λ (b : Bool). b || false) (f x.stream (subst (λ (z : Member C g). StandsFor z.stream x.stream) e h.0))
drains_next (y ∷ ms) (suc i) m (x ∷ xs) h at f k =
    let p = neither (drains x.stream) (drains_first i xs) k in
    ap (λ (b : Bool). b || drains_first (suc i) xs) p.0 ∙ drains_next ms i m xs h.1 at f p.1

pub drains_all : {C : Type 0} {g : Ghosts C} (ms : List (Member C g)) (i : ℕ) (xs : List ModelMember) → StreamsStandFor ms xs → length ms ≤ i → drains_first i xs ≡ false → group_drains xs ≡ false
drains_all [] i [] h le k = refl
drains_all [] i (x ∷ xs) h le k = absurd h
drains_all (y ∷ ms) i [] h le k = absurd h
drains_all (y ∷ ms) zero (x ∷ xs) h le k = absurd (let no : ⊥ = omega (arith, le) in no)
drains_all (y ∷ ms) (suc i) (x ∷ xs) h le k =
    let p = neither (drains x.stream) (drains_first i xs) k in
    ap (λ (b : Bool). b || group_drains xs) p.0 ∙ drains_all ms i xs h.1 (omega (arith, le)) p.1

-- ---- one member

page_at : Option Config → Stream → Page
page_at o s = page_by o s

state-page_at : (o : Option Config) (s : Stream) → (page_at o s).state ≡ s.state
unfolding page_at
state-page_at None s = refl
state-page_at (Some c) s = refl

pub state-page : (s : Stream) → (page s).state ≡ s.state
unfolding page_at
state-page s = state-page_at s.setup.config s

avail-page_at : (o : Option Config) (c : Config) (s : Stream) → o ≡ Some c → (page_at o s).avail ≡ avail s
unfolding page_at
avail-page_at None c s h = absurd (let no : ⊥ = cc in no)
avail-page_at (Some d) c s h = refl

pub avail-page : (c : Config) (s : Stream) → s.setup.config ≡ Some c → (page s).avail ≡ avail s
unfolding page_at
avail-page c s h = avail-page_at s.setup.config c s h

-- where there is no configuration, nobody waits
unfit : (s : Stream) (t : Task) → s.setup.config ≡ None → TaskFits s t → ⊥
unfit s (task.Transfer x wanted) none h =
    let k : IsTransferOn s x = h in
    let no : fits x.layout None ≡ true = ap (λ (o : Option Config). fits x.layout o) (sym none) ∙ k.layout in
    absurd (let never : ⊥ = cc in never)
unfit s task.Drain none h = let no : false ≡ true = ap (λ (o : Option Config). is_some o) (sym none) ∙ h in absurd (let never : ⊥ = cc in never)

pub none_waits : (s : Stream) (ps : List Waiting) → s.setup.config ≡ None → CallsFit s ps → ps ≡ []
none_waits s [] none h = refl
none_waits s (p ∷ ps) none h = absurd (unfit s p.task none h.0)

-- the calls and marks after a check that is the model's
pub IsMember-checked : (g : Bool) (x : ModelMember) (sub : _) (old new : List Sleeper) (mask : ℕ) → IsMember sub old x → AreApart new → IsModelCheck g x.stream x.asleep old new mask → IsMember sub new (woken_member g x)
IsMember-checked g x sub old new mask h apart check = record {
  number = h.number;
  apart = apart;
  calls = check.calls ∙ h.calls;
  marks = subst (λ (ps : List Waiting). AreMarks (sleepers_that true g x.stream x.asleep ps) new) h.calls check.marks_are;
  fit = h.fit;
}

-- where nobody waits, a check does nothing
pub empty_check : (g : Bool) (s : Stream) (marks : List ClientId) (old new : List Sleeper) (mask : ℕ) (t : State) (a : ℕ) → waiting old ≡ [] → new ≡ after_check t a g old → mask ≡ mask_of (clients_of (woken_sleepers t a g old))
    → IsModelCheck g s marks old new mask
empty_check g s marks [] new mask t a none after woken = record {
  mask_is = woken;
  marks_are = subst (λ (ys : List Sleeper). AreMarks [] ys) (sym after) (All-nil (λ (y : Sleeper). is_among y.client [] ≡ y.asleep));
  calls = ap (λ (ys : List Sleeper). waiting ys) after;
}
empty_check g s marks (y ∷ ys) new mask t a none after woken = absurd (let no : ⊥ = cc in no)

-- each that is asleep waits
one_waits : (m a w rest : Bool) → m ≡ a → (a ≡ true → w ≡ true) → rest ≡ true → ((not m || w) && rest) ≡ true
one_waits true true w rest e f h = ap (λ (b : Bool). b && rest) (f refl) ∙ h
one_waits true false w rest e f h = absurd (let no : ⊥ = cc in no)
one_waits false a w rest e f h = h

pub waits_all : (g : Bool) (s : Stream) (marks : List ClientId) (ys : List Sleeper) → AllByRecursion (λ (y : Sleeper). is_among y.client marks ≡ y.asleep) ys → AllByRecursion (λ (y : Sleeper). y.asleep ≡ true → may_wait_on s.state (avail s) g y.task ≡ true) ys
    → calls_wait g s marks (waiting ys) ≡ true
waits_all g s marks [] h k = refl
waits_all g s marks (y ∷ ys) h k =
    one_waits (is_among y.client marks) y.asleep (may_wait g s y.task) (calls_wait g s marks (waiting ys)) h.0 (λ e. same_wait g s y.task ∙ k.0 e) (waits_all g s marks ys h.1 k.1)
  where
    same_wait : (g : Bool) (s : Stream) (t : Task) → may_wait g s t ≡ may_wait_on s.state (avail s) g t
    same_wait g s (task.Transfer x wanted) = refl
    same_wait g s task.Drain = refl

-- ---- all members

or_assoc : (a b c : ℕ) → bit_or a (bit_or b c) ≡ bit_or (bit_or a b) c
or_assoc a b c =
    same_from_bits _ _ (λ i.
    let left : bit_at (bit_or a (bit_or b c)) i ≡ max (bit_at a i) (max (bit_at b i) (bit_at c i)) =
    bit_at_or a (bit_or b c) i ∙ ap (max (bit_at a i)) (bit_at_or b c i) in
    let right : bit_at (bit_or (bit_or a b) c) i ≡ max (max (bit_at a i) (bit_at b i)) (bit_at c i) =
    bit_at_or (bit_or a b) c i ∙ ap (λ n. max n (bit_at c i)) (bit_at_or a b i) in
    omega arith)

mask_of-append : (cs ds : List ClientId) → mask_of (cs ++ ds) ≡ bit_or (mask_of cs) (mask_of ds)
mask_of-append [] ds = sym (or_zero_l (mask_of ds))
mask_of-append (c ∷ cs) ds = ap (bit_or (2 ^ c.0)) (mask_of-append cs ds) ∙ or_assoc (2 ^ c.0) (mask_of cs) (mask_of ds)

-- the check of one member more
pub check_next : {C : Type 0} {g : Ghosts C} (b : Bool) (ms : List (Member C g)) (i : ℕ) (m n : Member C g) (xs : List ModelMember) → slice_get ms i ≡ Some m → ((x : ModelMember) → MemberStandsFor m x → MemberStandsFor n (woken_member b x))
    → AllStandFor ms (checked_first i b xs) → AllStandFor (set ms i n) (checked_first (suc i) b xs)
check_next b [] i m n xs at f h = absurd (let no : ⊥ = cc in no)
check_next b (y ∷ ms) zero m n [] at f h = absurd h
check_next b (y ∷ ms) (suc i) m n [] at f h = absurd h
check_next {C = C} {g = g} b (y ∷ ms) zero m n (x ∷ xs) at f h = let e : y ≡ m = cc in (f x (subst (λ (z : Member C g). MemberStandsFor z x) e h.0), h.1)
check_next b (y ∷ ms) (suc i) m n (x ∷ xs) at f h = (h.0, check_next b ms i m n xs at f h.1)

pub woken_next : {C : Type 0} {g : Ghosts C} (b : Bool) (ms : List (Member C g)) (i : ℕ) (m : Member C g) (r : ℕ) (xs : List ModelMember) → slice_get ms i ≡ Some m → ((x : ModelMember) → MemberStandsFor m x → r ≡ mask_of (woken_at b x))
    → AllStandFor ms (checked_first i b xs) → bit_or (mask_of (woken_first i b xs)) r ≡ mask_of (woken_first (suc i) b xs)
woken_next b [] i m r xs at f h = absurd (let no : ⊥ = cc in no)
woken_next b (y ∷ ms) zero m r [] at f h = absurd h
woken_next b (y ∷ ms) (suc i) m r [] at f h = absurd h
woken_next {C = C} {g = g} b (y ∷ ms) zero m r (x ∷ xs) at f h =
    let e : y ≡ m = cc in
    or_zero_l r ∙ f x (subst (λ (z : Member C g). MemberStandsFor z x) e h.0) ∙ ap (λ (cs : List ClientId). mask_of cs) (sym (append-nil (woken_at b x)))
woken_next b (y ∷ ms) (suc i) m r (x ∷ xs) at f h =
    ap (λ (n : ℕ). bit_or n r) (mask_of-append (woken_at b x) (woken_first i b xs))
    ∙ sym (or_assoc (mask_of (woken_at b x)) (mask_of (woken_first i b xs)) r)
    ∙ ap (bit_or (mask_of (woken_at b x))) (woken_next b ms i m r xs at f h.1)
    ∙ sym (mask_of-append (woken_at b x) (woken_first (suc i) b xs))

pub checked_all : {C : Type 0} {g : Ghosts C} (b : Bool) (ms : List (Member C g)) (i : ℕ) (xs : List ModelMember) → AllStandFor ms xs → length ms ≤ i → checked_first i b xs ≡ wake_members b xs
checked_all b [] zero [] h le = refl
checked_all b [] (suc i) [] h le = refl
checked_all b [] i (x ∷ xs) h le = absurd h
checked_all b (y ∷ ms) i [] h le = absurd h
checked_all b (y ∷ ms) zero (x ∷ xs) h le = absurd (let no : ⊥ = omega (arith, le) in no)
checked_all b (y ∷ ms) (suc i) (x ∷ xs) h le = ap (λ (l : List ModelMember). woken_member b x ∷ l) (checked_all b ms i xs h.1 (omega (arith, le)))

pub woken_all : {C : Type 0} {g : Ghosts C} (b : Bool) (ms : List (Member C g)) (i : ℕ) (xs : List ModelMember) → AllStandFor ms xs → length ms ≤ i → woken_first i b xs ≡ woken_in b xs
woken_all b [] zero [] h le = refl
woken_all b [] (suc i) [] h le = refl
woken_all b [] i (x ∷ xs) h le = absurd h
woken_all b (y ∷ ms) i [] h le = absurd h
woken_all b (y ∷ ms) zero (x ∷ xs) h le = absurd (let no : ⊥ = omega (arith, le) in no)
woken_all b (y ∷ ms) (suc i) (x ∷ xs) h le = ap (λ (l : List ClientId). woken_at b x ++ l) (woken_all b ms i xs h.1 (omega (arith, le)))

pub streams_of : {C : Type 0} {g : Ghosts C} (ms : List (Member C g)) (xs : List ModelMember) → AllStandFor ms xs → StreamsStandFor ms xs
streams_of [] [] h = tt
streams_of [] (x ∷ xs) h = absurd h
streams_of (m ∷ ms) [] h = absurd h
streams_of (m ∷ ms) (x ∷ xs) h = (h.0.stream, streams_of ms xs h.1)

-- members whose substreams are the old ones
pub streams_kept : {C : Type 0} {g : Ghosts C} (ms : List (Member C g)) (i : ℕ) (m n : Member C g) (xs : List ModelMember) → slice_get ms i ≡ Some m → n.stream ≡ m.stream → StreamsStandFor (set ms i n) xs → StreamsStandFor ms xs
streams_kept [] i m n xs at same h = h
streams_kept (y ∷ ms) zero m n [] at same h = absurd h
streams_kept (y ∷ ms) (suc i) m n [] at same h = absurd h
streams_kept {C = C} {g = g} (y ∷ ms) zero m n (x ∷ xs) at same h =
    let e : m ≡ y = cc in
    (subst (λ (t : Substream C g). StandsFor t x.stream) (same ∙ ap (λ (z : Member C g). z.stream) e) h.0, h.1)
streams_kept (y ∷ ms) (suc i) m n (x ∷ xs) at same h = (h.0, streams_kept ms i m n xs at same h.1)

-- each member waits
pub all_waits : {C : Type 0} {g : Ghosts C} (b : Bool) (ms : List (Member C g)) (xs : List ModelMember) → AllStandFor ms xs
    → ((j : ℕ) (m : Member C g) → j < length ms → slice_get ms j ≡ Some m → (x : ModelMember) → MemberStandsFor m x → calls_wait b x.stream x.asleep x.stream.sleepers ≡ true) → members_wait b xs ≡ true
all_waits b [] [] h f = refl
all_waits b [] (x ∷ xs) h f = absurd h
all_waits b (m ∷ ms) [] h f = absurd h
all_waits b (m ∷ ms) (x ∷ xs) h f =
    ap (λ (c : Bool). c && members_wait b xs) (f 0 m (omega arith) refl x h.0) ∙ all_waits b ms xs h.1 (λ j n lt at y k. f (suc j) n (omega (arith, lt)) at y k)

pub set_same : {A : Type 0} (xs : List A) (i : ℕ) (x y : A) → slice_get xs i ≡ Some x → slice_get (set xs i y) i ≡ Some y
set_same [] i x y at = absurd (let no : ⊥ = cc in no)
set_same (z ∷ xs) zero x y at = refl
set_same (z ∷ xs) (suc i) x y at = set_same xs i x y at

-- the members checked so far may wait
pub waits_next : {C : Type 0} {g : Ghosts C} (b : Bool) (ms : List (Member C g)) (i j : ℕ) (m n k : Member C g) → slice_get ms i ≡ Some m → ((x : ModelMember) → MemberStandsFor n x → calls_wait b x.stream x.asleep x.stream.sleepers ≡ true)
    → ((h : ℕ) (l : Member C g) → h < i → slice_get ms h ≡ Some l → (x : ModelMember) → MemberStandsFor l x → calls_wait b x.stream x.asleep x.stream.sleepers ≡ true)
    → j < i + 1 → slice_get (set ms i n) j ≡ Some k → (x : ModelMember) → MemberStandsFor k x → calls_wait b x.stream x.asleep x.stream.sleepers ≡ true
waits_next {C = C} {g = g} b ms i j m n k at here before lt is x h = elim (cases_lt j i) [
  | inl below ↦ before j k below (sym (slice_get-set_other ms i j n (λ e. omega (arith, e, below))) ∙ is) x h
  | inr above ↦
      let same : i ≡ j = omega arith in
      let set_at : slice_get (set ms i n) i ≡ Some k = ap (λ (l : ℕ). slice_get (set ms i n) l) same ∙ is in
      let this : k ≡ n = (let both : Some k ≡ Some n = sym set_at ∙ set_same ms i m n at in cc) in
      here x (subst (λ (y : Member C g). MemberStandsFor y x) this h)
]
