-- Who may make a call on a group, and whom its step leaves asleep.
use Rattle.std.proofs.Common.{◌≡◌, ℕ, false, List, slice_get, refl, sym, ap, ◌∙◌}
use Rattle.std.specs.Prelude.{All}
use Rattle.std.specs.Option.{ForSome}
use Rattle.std.specs.declared.option.Option.{Option}
use Rattle.std.specs.declared.option.Option.TheVariants.{Some, None}
use Rattle.pcm_base.specs.declared.call.Call.{Call}
use Rattle.pcm_base.specs.declared.call.Call.TheVariants as call
use Rattle.pcm_base.specs.declared.call.Event.{Event}
use Rattle.pcm_base.specs.declared.card.Card.{Ghosts}
use Rattle.pcm_base.specs.declared.ids.ClientId.{ClientId}
use Rattle.pcm_base.specs.declared.ids.SubId.{SubId}
use Rattle.pcm_base.specs.model.Events.{waiting_of}
use Rattle.pcm_base.specs.model.Group.{stream_of}
use Rattle.pcm_base.specs.model.Replay.{Distinct, is_member}
use Rattle.pcm_base.specs.model.Sleep.{group_drains}
use Rattle.pcm_base.specs.model.Stream.{Stream, Waiting, Member as ModelMember}
use Rattle.pcm_base.specs.model.World.{is_go, nobody}
use Rattle.pcm_laws.specs.Waiting.{EachMayWait, MayEnter, StepsLeaveWaiting}
use Rattle.sleepers.specs.Clients.{has_client}
use Rattle.pcm_group.specs.Turn.{caller_of}
use Rattle.pcm_group.specs.Waiting.{IsFreeFor, is_its_own}
use Rattle.room_book.specs.Laws.{step_of}
use Rattle.room_book.specs.Logs.{client_of}
use Rattle.room_lock.proofs.MemberLemmas.{all_at, all_distinct, is_among, nobody_waits, none_waits, numbers_are, stands_at}
use Rattle.pcm_stream.specs.declared.members.Member.{Member}
use Rattle.pcm_stream.specs.Members.{numbers_of}
use Rattle.pcm_stream.specs.MembersStand.{AllStandFor}

pub caller_is : (o : Option ClientId) → caller_of o ≡ client_of o
caller_is None = refl
caller_is (Some c) = refl

not_its_own : (e : Call) (k j : SubId) → is_go e ≡ false → is_its_own e k j ≡ false
not_its_own call.Go k j h = absurd (let no : ⊥ = cc in no)
not_its_own _ k j h = refl

some_holds : {A : Type 0} (a : A) (P : A → Type 0) → ForSome (Some a) P → P a
some_holds a P h = h a refl

-- who may make a call on a group may enter the event's own stream
may_enter : {C : Type 0} {g : Ghosts C} (e : Call) (k : SubId) (o : Option ClientId) (ms : List (Member C g)) (xs : List ModelMember) (i : ℕ) (m : Member C g) → Distinct (numbers_of ms) → AllStandFor ms xs
    → slice_get ms i ≡ Some m → slice_get (numbers_of ms) i ≡ Some k → ForSome o (λ c. IsFreeFor e k c ms) → MayEnter e (client_of o) (stream_of k xs)
may_enter {C} {g} e k (Some c) ms xs i m d h at is free go =
    let st = stands_at ms xs i m k d h at is in
    let every : All (λ (x : Member C g). is_its_own e k x.sub ≡ false → has_client c x.sleepers ≡ false) ms = some_holds c (λ (d : ClientId). IsFreeFor e k d ms) free in
    let none = all_at (λ (x : Member C g). is_its_own e k x.sub ≡ false → has_client c x.sleepers ≡ false) ms i m every at (not_its_own e k m.sub go) in
    sym (ap (λ (s : Stream). waiting_of c s.sleepers) st.stream) ∙ sym (ap (λ (l : List Waiting). waiting_of c l) st.stands.member.calls) ∙ none_waits c m.sleepers none
may_enter e k None ms xs i m d h at is free go =
    let st = stands_at ms xs i m k d h at is in
    sym (ap (λ (s : Stream). waiting_of nobody s.sleepers) st.stream) ∙ sym (ap (λ (l : List Waiting). waiting_of nobody l) st.stands.member.calls) ∙ nobody_waits m.sleepers st.stands.member.apart

-- who is left asleep by a step may wait
pub asleep_after : {C : Type 0} {g : Ghosts C} (laws : StepsLeaveWaiting) (e : Event) (io : List ℕ) (ms : List (Member C g)) (xs : List ModelMember) (i : ℕ) (m : Member C g) → Distinct (numbers_of ms) → AllStandFor ms xs
    → slice_get ms i ≡ Some m → slice_get (numbers_of ms) i ≡ Some e.sub → ForSome e.client (λ c. IsFreeFor e.call e.sub c ms)
    → EachMayWait (group_drains (step_of e io xs).members) (step_of e io xs).members
asleep_after laws e io ms xs i m d h at is free =
    let js = numbers_are ms xs h in
    laws e.call (client_of e.client) e.sub io xs (ap (is_member e.sub) js ∙ is_among (numbers_of ms) i e.sub is) (may_enter e.call e.sub e.client ms xs i m d h at is free) (all_distinct ms xs h)
