-- An event on its own member: what it does not look at, and who calls.
use Rattle.std.proofs.Common.{◌≡◌, ℕ, zero, suc, Bool, true, false, cond, not, ◌||◌, ◌&&◌, nat_eq, List, [], ◌∷◌, length, Option, Some, None, refl, sym, ap, ◌∙◌, subst}
use Rattle.std.proofs.Math.Path.{ap₂}
use Rattle.std.proofs.lemmas.List.Elements.{recursion_from_All}
use Rattle.std.specs.List.{AllByRecursion, slice_get}
use Rattle.std.specs.Option.{ForSome}
use Rattle.pcm_base.specs.declared.call.Call.{Call}
use Rattle.pcm_base.specs.declared.call.Call.TheVariants as call
use Rattle.pcm_base.specs.declared.card.Card.{Ghosts}
use Rattle.pcm_base.specs.declared.ids.ClientId.{ClientId}
use Rattle.std.specs.Option.{is_some}
use Rattle.pcm_base.specs.declared.ids.SubId.{SubId}
use Rattle.pcm_base.specs.declared.reply.Reply.{Reply}
use Rattle.pcm_base.specs.declared.votes.Acted.{Acted}
use Rattle.pcm_base.specs.model.Events.{event}
use Rattle.pcm_base.specs.model.Program.{Answer, Program}
use Rattle.pcm_base.specs.model.Replay.{Distinct, is_member, layout_of, reading_length}
use Rattle.pcm_laws.proofs.Decomposition.{left_of, right_of}
use Rattle.pcm_group.specs.Transfers.{bytes_with}
use Rattle.pcm_base.specs.model.Stream.{Stream, Member as ModelMember}
use Rattle.sleepers.specs.Clients.{has_client}
use Rattle.pcm_stream.specs.declared.members.Member.{Member}
use Rattle.pcm_stream.specs.Members.{all_differ, numbers_of}
use Rattle.pcm_stream.specs.MembersStand.{AllStandFor}
use Rattle.pcm_group.specs.Built.{is_act_call, is_own_call, is_waiting_call, own_frames}
use Rattle.pcm_group.specs.Bytes.{bytes_left}
use Rattle.pcm_group.specs.Carried.{IsCarriedBy}
use Rattle.pcm_group.specs.Lent.{is_lent_call, is_reading}
use Rattle.pcm_group.specs.Ended.{IsEndedBy, RunsTo}
use Rattle.pcm_group.specs.Turn.{caller_of, frames_moved, is_card_event, is_group_call, may_want_memory}
use Rattle.pcm_group.specs.Waiting.{IsFreeFor, calls_of, is_free, is_free_but, is_free_for, is_its_own}
use Rattle.pcm_group.proofs.AsleepLemmas.{nobody_free}
use Rattle.pcm_group.proofs.BeginLemmas.{none_moved, run_alike}
use Rattle.pcm_group.proofs.GoingLemmas.{free_short, free_there}
use Rattle.pcm_group.proofs.PlaceLemmas.{distinct_of, is_member-at, other_number}

-- the calls that wait for nothing and are lent nothing look at no bytes
pub io_unused : (e : Call) (c : ClientId) (linked : Bool) (io : List ℕ) (s : Stream) → (is_own_call e || is_act_call e) ≡ true → event e c linked io s ≡ event e c linked [] s
io_unused call.OpenSub c linked io s h = refl
io_unused call.CloseSub c linked io s h = refl
io_unused call.HwFree c linked io s h = refl
io_unused call.PageNow c linked io s h = refl
io_unused call.Poll c linked io s h = refl
io_unused call.Prepare c linked io s h = refl
io_unused call.Start c linked io s h = refl
io_unused call.DropNow c linked io s h = refl
io_unused call.PausePush c linked io s h = refl
io_unused call.PauseRelease c linked io s h = refl
io_unused call.Suspend c linked io s h = refl
io_unused call.Resume c linked io s h = refl
io_unused call.Xrun c linked io s h = refl
io_unused call.Hwsync c linked io s h = refl
io_unused call.Delay c linked io s h = refl
io_unused call.Status c linked io s h = refl
io_unused call.Irq c linked io s h = refl
io_unused call.Unplug c linked io s h = refl
io_unused call.Map c linked io s h = refl
io_unused call.Unmap c linked io s h = refl
io_unused (call.HwParams g) c linked io s h = refl
io_unused (call.SwParams w) c linked io s h = refl
io_unused (call.MoveBy n) c linked io s h = refl
io_unused (call.FailAt i) c linked io s h = refl
io_unused (call.Rewind n) c linked io s h = refl
io_unused (call.Forward n) c linked io s h = refl
io_unused (call.SyncPtr p) c linked io s h = refl
io_unused (call.Drain m) c linked io s h = absurd (let no : ⊥ = cc in no)
io_unused (call.Write w m) c linked io s h = absurd (let no : ⊥ = cc in no)
io_unused (call.Read w m n) c linked io s h = absurd (let no : ⊥ = cc in no)
io_unused (call.Store o) c linked io s h = absurd (let no : ⊥ = cc in no)
io_unused (call.Load o n) c linked io s h = absurd (let no : ⊥ = cc in no)
io_unused (call.Link j) c linked io s h = absurd (let no : ⊥ = cc in no)
io_unused call.Unlink c linked io s h = absurd (let no : ⊥ = cc in no)
io_unused call.Go c linked io s h = absurd (let no : ⊥ = cc in no)
io_unused call.Give c linked io s h = absurd (let no : ⊥ = cc in no)

-- ---- who calls

-- the caller of an event that is no call which may wait has no call in progress
pub caller_free : {C : Type 0} {g : Ghosts C} (e : Call) (i : ℕ) (o : Option ClientId) (ms : List (Member C g)) (xs : List ModelMember) → AllStandFor ms xs → is_waiting_call e ≡ false → ForSome o (λ c. is_free_for e i c (calls_of ms) ≡ true)
    → is_free (caller_of o) (calls_of ms) ≡ true
caller_free e i None ms xs h idle free = nobody_free ms xs h
caller_free e i (Some c) ms xs h idle free = free_short e i c (calls_of ms) idle (free c refl)

-- nor has that of an event of a member on which no call is in progress
pub caller_free_there : {C : Type 0} {g : Ghosts C} (e : Call) (i : ℕ) (o : Option ClientId) (ms : List (Member C g)) (m : Member C g) (xs : List ModelMember) → AllStandFor ms xs → slice_get ms i ≡ Some m → ((c : ClientId) → has_client c m.sleepers ≡ false)
    → ForSome o (λ c. is_free_for e i c (calls_of ms) ≡ true) → is_free (caller_of o) (calls_of ms) ≡ true
caller_free_there e i None ms m xs h at none free = nobody_free ms xs h
caller_free_there e i (Some c) ms m xs h at none free = free_there e i c ms m at (free c refl) (none c)

all_free : {C : Type 0} {g : Ghosts C} (c : ClientId) (ms : List (Member C g)) → AllByRecursion (λ m. false ≡ false → has_client c m.sleepers ≡ false) ms → is_free c (calls_of ms) ≡ true
all_free c [] h = refl
all_free c (m ∷ ms) h = ap₂ (λ a b. not a && b) (h.0 refl) (all_free c ms h.1)

-- none of these members is the one that the call names
absent_free : {C : Type 0} {g : Ghosts C} (k : SubId) (c : ClientId) (ms : List (Member C g)) → is_member k (numbers_of ms) ≡ false → AllByRecursion (λ m. nat_eq m.sub.0 k.0 ≡ false → has_client c m.sleepers ≡ false) ms → is_free c (calls_of ms) ≡ true
absent_free k c [] absent h = refl
absent_free k c (m ∷ ms) absent h =
    ap₂ (λ a b. not a && b) (h.0 (left_of (nat_eq m.sub.0 k.0) (is_member k (numbers_of ms)) absent)) (absent_free k c ms (right_of (nat_eq m.sub.0 k.0) (is_member k (numbers_of ms)) absent) h.1)

others_free : {C : Type 0} {g : Ghosts C} (k : SubId) (i : ℕ) (c : ClientId) (ms : List (Member C g)) → Distinct (numbers_of ms) → slice_get (numbers_of ms) i ≡ Some k
    → AllByRecursion (λ m. nat_eq m.sub.0 k.0 ≡ false → has_client c m.sleepers ≡ false) ms → is_free_but i c (calls_of ms) ≡ true
others_free k i c [] d number h = refl
others_free k zero c (m ∷ ms) d number h =
    let e : m.sub ≡ k = cc in
    absent_free k c ms (ap (λ (j : SubId). is_member j (numbers_of ms)) (sym e) ∙ d.0) h.1
others_free k (suc i) c (m ∷ ms) d number h =
    ap₂ (λ a b. not a && b) (h.0 (other_number m.sub k (numbers_of ms) d.0 (is_member-at (numbers_of ms) i k number))) (others_free k i c ms d.1 number h.1)

free_by : {C : Type 0} {g : Ghosts C} (e : Call) (k : SubId) (i : ℕ) (c : ClientId) (ms : List (Member C g)) → Distinct (numbers_of ms) → slice_get (numbers_of ms) i ≡ Some k
    → AllByRecursion (λ m. is_its_own e k m.sub ≡ false → has_client c m.sleepers ≡ false) ms → is_free_for e i c (calls_of ms) ≡ true
free_by call.Go k i c ms d number h = others_free k i c ms d number h
free_by _ k i c ms d number h = all_free c ms h

-- who has no call but the one that goes on, by the place of its member
pub client_free : {C : Type 0} {g : Ghosts C} (e : Call) (k : SubId) (i : ℕ) (o : Option ClientId) (ms : List (Member C g)) → all_differ (numbers_of ms) ≡ true → slice_get (numbers_of ms) i ≡ Some k → ForSome o (λ c. IsFreeFor e k c ms)
    → ForSome o (λ c. is_free_for e i c (calls_of ms) ≡ true)
client_free e k i o ms differ number free = λ c is. free_by e k i c ms (distinct_of (numbers_of ms) differ) number (recursion_from_All _ ms (free c is))

-- ---- the frames and the bytes of an event

short_moves : (e : Call) (s : Stream) → 0 ≡ frames_moved e (own_frames e s)
short_moves (call.MoveBy n) s = refl
short_moves _ s = refl

pub short_moved : (e : Call) (s : Stream) → 0 ≡ frames_moved e (own_frames e s)
short_moved e s = short_moves e s

pub none_are_moved : (e : Call) → 0 ≡ frames_moved e 0
none_are_moved (call.MoveBy n) = refl
none_are_moved _ = refl

pub waiting_moves : (e : Call) (n : ℕ) → is_waiting_call e ≡ true → n ≡ frames_moved e n
waiting_moves (call.MoveBy m) n h = absurd (let no : ⊥ = cc in no)
waiting_moves call.Give n h = absurd (let no : ⊥ = cc in no)
waiting_moves _ n h = refl

pub waiting_is_called : (e : Call) → is_waiting_call e ≡ true → is_card_event e ≡ true → ⊥
waiting_is_called (call.Drain m) h k = let no : ⊥ = cc in no
waiting_is_called (call.Write w m) h k = let no : ⊥ = cc in no
waiting_is_called (call.Read w m n) h k = let no : ⊥ = cc in no
waiting_is_called call.Go h k = let no : ⊥ = cc in no
waiting_is_called _ h k = let no : ⊥ = cc in no

-- a call of one group that does not wait and is lent nothing
pub short_call : (e : Call) → is_group_call e ≡ true → is_waiting_call e ≡ false → is_lent_call e ≡ false → (is_own_call e || is_act_call e) ≡ true
short_call (call.Link j) h k m = absurd (let no : ⊥ = cc in no)
short_call call.Unlink h k m = absurd (let no : ⊥ = cc in no)
short_call (call.Drain w) h k m = absurd (let no : ⊥ = cc in no)
short_call (call.Write w v) h k m = absurd (let no : ⊥ = cc in no)
short_call (call.Read w v n) h k m = absurd (let no : ⊥ = cc in no)
short_call call.Go h k m = absurd (let no : ⊥ = cc in no)
short_call (call.Store o) h k m = absurd (let no : ⊥ = cc in no)
short_call (call.Load o n) h k m = absurd (let no : ⊥ = cc in no)
short_call call.Give h k m = absurd (let no : ⊥ = cc in no)
short_call _ h k m = refl

-- a call that wants memory reads no bytes
pub wanting_reads_none : (e : Call) → may_want_memory e ≡ true → is_reading e ≡ false
wanting_reads_none (call.Load o n) h = absurd (let no : ⊥ = cc in no)
wanting_reads_none _ h = refl

-- what waits is lent nothing
pub waiting_unlent : (e : Call) → is_waiting_call e ≡ true → is_lent_call e ≡ false
waiting_unlent (call.Store o) h = absurd (let no : ⊥ = cc in no)
waiting_unlent (call.Load o n) h = absurd (let no : ⊥ = cc in no)
waiting_unlent call.Give h = absurd (let no : ⊥ = cc in no)
waiting_unlent _ h = refl

pub reads_none : (e : Call) (c : ClientId) (s : Stream) → (is_own_call e || is_act_call e) ≡ true → is_some (reading_length e c s) ≡ false
reads_none call.Go c s h = absurd (let no : ⊥ = cc in no)
reads_none (call.Read w m n) c s h = absurd (let no : ⊥ = cc in no)
reads_none (call.Load o n) c s h = absurd (let no : ⊥ = cc in no)
reads_none _ c s h = refl

pub short_bytes : (e : Call) (c : ClientId) (s : Stream) (b : Answer) (io : List ℕ) → (is_own_call e || is_act_call e) ≡ true → io ≡ bytes_left e c s b io
short_bytes e c s b io h = sym (ap (λ (r : Bool). cond r (bytes_with false (layout_of e c s) b.first b.frames s io) io) (reads_none e c s h))

pub none_left : (e : Call) (c : ClientId) (s : Stream) (b : Answer) (io : List ℕ) → length b.frames ≡ 0 → io ≡ bytes_left e c s b io
none_left e c s b io none = by (is_some (reading_length e c s))
  where
    by : (r : Bool) → io ≡ cond r (bytes_with false (layout_of e c s) b.first b.frames s io) io
    by true = none_moved false (layout_of e c s) b.first b.frames s io none
    by false = refl

pub quiet_left : {C : Type 0} {g : Ghosts C} (d : ClientId) (tells : List Bool) (p : Program) (k : SubId) (xs : List ModelMember) (new : List Acted) (r : Reply) (f : ℕ) (ms : List (Member C g)) (e : Call) (c : ClientId) (s : Stream) (io : List ℕ) (b : Answer) (ys : List ModelMember)
    → IsEndedBy d tells p k xs [] new r f 0 ms → RunsTo tells p k xs new b ys → io ≡ bytes_left e c s b io
quiet_left d tells p k xs new r f ms e c s io b ys h runs =
    let same : b ≡ h.answer = run_alike tells p k xs h.made b h.answer ys h.left (subst (λ (ds : List Acted). RunsTo tells p k xs ds b ys) h.acts runs) h.runs in
    none_left e c s b io (ap (λ (a : Answer). length a.frames) same ∙ sym h.moved)

pub IsCarriedBy-at : {C : Type 0} {g : Ghosts C} (e : Call) (c : ClientId) (tells : List Bool) (p q : Program) (k : SubId) (xs : List ModelMember) (new : List Acted) (r : Reply) (f n : ℕ) (ms : List (Member C g)) → p ≡ q
    → IsCarriedBy e c tells q k xs new r f n ms → IsCarriedBy e c tells p k xs new r f n ms
IsCarriedBy-at e c tells p q k xs new r f n ms is h = subst (λ (x : Program). IsCarriedBy e c tells x k xs new r f n ms) (sym is) h
