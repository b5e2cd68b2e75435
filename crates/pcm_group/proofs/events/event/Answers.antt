use Rattle.std.proofs.Common.{◌≡◌, ℕ, nat_lt, Bool, true, false, not, ◌&&◌, List, [], length, Option, Some, refl, sym, ◌∙◌, ap, subst}
use Rattle.pcm_base.specs.declared.call.Call.{Call}
use Rattle.pcm_base.specs.declared.ids.ClientId.{ClientId}
use Rattle.pcm_base.specs.declared.ids.SubId.{SubId}
use Rattle.pcm_base.specs.declared.card.Card.{Ghosts}
use Rattle.pcm_stream.specs.declared.members.Member.{Member}
use Rattle.std.specs.List.{slice_get}
use Rattle.std.specs.Option.{ForSome}
use Rattle.pcm_base.specs.declared.reply.Reply.{Reply}
use Rattle.pcm_base.specs.declared.reply.Reply.TheVariants as reply
use Rattle.pcm_base.specs.declared.state.Errno.TheVariants as errno
use Rattle.pcm_base.specs.declared.state.State.{State}
use Rattle.pcm_base.specs.declared.votes.Acted.{Acted}
use Rattle.pcm_base.specs.model.Events.{event, opens, program}
use Rattle.pcm_base.specs.model.Group.{stream_of}
use Rattle.pcm_base.specs.model.Program.{Program, fails}
use Rattle.pcm_base.specs.model.Stream.{Stream, Member as ModelMember}
use Rattle.pcm_base.specs.model.Words.{is_closed}
use Rattle.pcm_stream.specs.Members.{members_of}
use Rattle.pcm_group.specs.Lent.{Loads}
use Rattle.pcm_group.specs.Ended.{IsAt, IsEndedBy, RunsTo}
use Rattle.pcm_group.specs.Turn.{caller, caller_of}
use Rattle.pcm_group.specs.Waiting.{calls_of, is_free, is_free_for}
use Rattle.pcm_group.proofs.GoingLemmas.{closed_free}
use Rattle.pcm_group.proofs.PlaceLemmas.{IsThere, there}
use Rattle.pcm_group.proofs.AsleepLemmas.{IsEndedBy-of}
use Rattle.pcm_group.proofs.CarryLemmas.{IsEndedBy-told}
use Rattle.pcm_group.proofs.EndedLemmas.{IsEnded-says, else-is, stands-there, then-is}
use Rattle.pcm_group.proofs.EventLemmas.{IsCarriedBy-at, caller_free_there, none_are_moved, quiet_left}
use Rattle.pcm_group.proofs.CarriedLemmas.{refusal_leaves}
use Rattle.pcm_group.proofs.FaultLemmas.{KeepsCards-same}
use Rattle.pcm_group.proofs.events.event.Goals as goal

-- an event that a closed stream refuses
abbrev shut : Call → Stream → Bool
shut e s = is_closed s.state && not (opens e)

refuses : (e : Call) (cl : ClientId) (linked : Bool) (io : List ℕ) (s : Stream) → shut e s ≡ true → program e cl linked io s ≡ fails errno.Enxio s
refuses e cl linked io s h = then-is (shut e s) (fails errno.Enxio s) (event e cl linked io s) h

goes_on : (e : Call) (cl : ClientId) (linked : Bool) (io : List ℕ) (s : Stream) → shut e s ≡ false → program e cl linked io s ≡ event e cl linked io s
goes_on e cl linked io s h = else-is (shut e s) (fails errno.Enxio s) (event e cl linked io s) h

-- nobody has a call on it
shut_free : {C : Type 0} {g : Ghosts C} (e : Call) (i : ℕ) (o : Option ClientId) (ms : List (Member C g)) (m : Member C g) (k : SubId) (tells : List Bool) (xs : List ModelMember) → IsAt ms i k tells xs → slice_get ms i ≡ Some m → shut e (stream_of k xs) ≡ true
    → ForSome o (λ c. is_free_for e i c (calls_of ms) ≡ true) → is_free (caller_of o) (calls_of ms) ≡ true
shut_free e i o ms m k tells xs h at test free =
    let r : IsThere m k xs = there ms i m k xs h.stands h.distinct h.number at in
    let closed : is_closed r.member.stream.state ≡ true = ap (λ (s : Stream). is_closed s.state) r.stream ∙ first (is_closed (stream_of k xs).state) (not (opens e)) test in
    caller_free_there e i o ms m xs h.stands at (λ c. closed_free c m r.member r.stands closed) free
  where
    first : (a b : Bool) → (a && b) ≡ true → a ≡ true
    first true b q = refl
    first false b q = absurd (let no : ⊥ = cc in no)

pub returns-then-is_shut-clause-done : goal.returns-then-is_shut-clause-done
returns-then-is_shut-clause-done g c = λ k tells xs h long n.
    let ev = c.args.event.now in
    let s = stream_of k xs in
    let ms = members_of c.args.members.now in
    let linked = nat_lt 1 (length xs) in
    let io = c.args.io.now in
    let sh = stands-there ms c.args.place c.at.result.now k tells xs h c.at.ensures in
    let test : shut ev.call s ≡ true = ap (λ (t : State). is_closed t && not (opens ev.call)) (sym (c.state-state.ensures s sh)) ∙ sym c.is_shut.ensures ∙ c.if-is_shut.true in
    let p = program ev.call (caller ev) linked io s in
    let e : Reply = reply.Err errno.Enxio in
    let q = c.said.result in
    let ended : IsEndedBy (caller ev) tells p k xs [] [] q.reply q.first 0 ms = IsEndedBy-told (caller ev) tells p (fails errno.Enxio s) k xs [] [] q.reply e q.first 0 0 0 ms (refuses ev.call (caller ev) linked io s test) c.said.ensures.reply c.said.ensures.first refl
    (IsEndedBy-of (caller ev) tells (fails errno.Enxio s) k xs [] [] e 0 0 ms (λ a. let no : ⊥ = cc in no) (shut_free ev.call c.args.place ev.client ms c.at.result.now k tells xs h c.at.ensures test c.requires.free) (IsEnded-says tells k xs [] e ms c.args.place h)) in
    record {
      frames = 0;
      ends = subst (λ (l : List Acted). IsEndedBy (caller ev) tells p k xs [] l q.reply q.first 0 ms) (sym c.requires.none) ended;
      moved = c.said.ensures.moved ∙ none_are_moved ev.call;
    }

pub returns-then-is_shut-clause-transferred : goal.returns-then-is_shut-clause-transferred
returns-then-is_shut-clause-transferred g c = λ k tells xs b ys h long unlent runs.
    let ev = c.args.event.now in
    let s = stream_of k xs in
    let ms = members_of c.args.members.now in
    let linked = nat_lt 1 (length xs) in
    let io = c.args.io.now in
    let sh = stands-there ms c.args.place c.at.result.now k tells xs h c.at.ensures in
    let test : shut ev.call s ≡ true = ap (λ (t : State). is_closed t && not (opens ev.call)) (sym (c.state-state.ensures s sh)) ∙ sym c.is_shut.ensures ∙ c.if-is_shut.true in
    let p = program ev.call (caller ev) linked io s in
    let e : Reply = reply.Err errno.Enxio in
    let ended : IsEndedBy (caller ev) tells p k xs [] [] e 0 0 ms = IsEndedBy-told (caller ev) tells p (fails errno.Enxio s) k xs [] [] e e 0 0 0 0 ms (refuses ev.call (caller ev) linked io s test) refl refl refl
    (IsEndedBy-of (caller ev) tells (fails errno.Enxio s) k xs [] [] e 0 0 ms (λ a. let no : ⊥ = cc in no) (shut_free ev.call c.args.place ev.client ms c.at.result.now k tells xs h c.at.ensures test c.requires.free) (IsEnded-says tells k xs [] e ms c.args.place h)) in
    quiet_left (caller ev) tells p k xs [] e 0 ms ev.call (caller ev) s io b ys ended (subst (λ (ds : List Acted). RunsTo tells p k xs ds b ys) c.requires.none runs)

pub returns-clause-done : goal.returns-clause-done
returns-clause-done g c = λ k tells xs h long n.
    let ev = c.args.event.now in
    let s = stream_of k xs in
    let ms = members_of c.args.members.now in
    let linked = nat_lt 1 (length xs) in
    let io = c.args.io.now in
    let sh = stands-there ms c.args.place c.at.result.now k tells xs h c.at.ensures in
    let test : shut ev.call s ≡ false = ap (λ (t : State). is_closed t && not (opens ev.call)) (sym (c.state-state.ensures s sh)) ∙ sym c.is_shut.ensures ∙ c.if-is_shut.false in
    let q = c.open_event.result in
    IsCarriedBy-at ev.call (caller ev) tells (program ev.call (caller ev) linked io s) (event ev.call (caller ev) linked io s) k xs c.open_event.new.acts q.reply q.first q.moved (members_of c.open_event.new.members)
    (goes_on ev.call (caller ev) linked io s test) (c.open_event.ensures.done k tells xs h long n)

pub returns-clause-transferred : goal.returns-clause-transferred
returns-clause-transferred g c = λ k tells xs b ys h long unlent runs.
    let ev = c.args.event.now in
    let s = stream_of k xs in
    let ms = members_of c.args.members.now in
    let linked = nat_lt 1 (length xs) in
    let io = c.args.io.now in
    let sh = stands-there ms c.args.place c.at.result.now k tells xs h c.at.ensures in
    let test : shut ev.call s ≡ false = ap (λ (t : State). is_closed t && not (opens ev.call)) (sym (c.state-state.ensures s sh)) ∙ sym c.is_shut.ensures ∙ c.if-is_shut.false in
    c.open_event.ensures.transferred k tells xs b ys h long unlent (subst (λ (p : Program). RunsTo tells p k xs c.open_event.new.acts b ys) (goes_on ev.call (caller ev) linked io s test) runs)

pub returns-then-is_shut-clause-loaded : goal.returns-then-is_shut-clause-loaded
returns-then-is_shut-clause-loaded g c = λ k tells xs h.
    let ev = c.args.event.now in
    subst (λ (r : Reply). Loads ev.call (stream_of k xs) r c.args.io.now c.args.io.now) (sym c.said.ensures.reply) (refusal_leaves ev.call (stream_of k xs) errno.Enxio c.args.io.now)

refused_told : (r : Reply) → r ≡ reply.Err errno.Enxio → r ≡ reply.Memory → ⊥
refused_told r e h = let no : reply.Err errno.Enxio ≡ reply.Memory = sym e ∙ h in cc

pub returns-then-is_shut-clause-wants : goal.returns-then-is_shut-clause-wants
returns-then-is_shut-clause-wants g c e = absurd (refused_told c.said.result.reply c.said.ensures.reply e)

pub returns-then-is_shut-clause-still : goal.returns-then-is_shut-clause-still
returns-then-is_shut-clause-still g c e = (c.said.ensures.first, c.said.ensures.moved)

pub returns-then-is_shut-clause-cards : goal.returns-then-is_shut-clause-cards
returns-then-is_shut-clause-cards g c = KeepsCards-same c.args.acts.now (members_of c.args.members.now)

pub returns-clause-loaded : goal.returns-clause-loaded
returns-clause-loaded g c = c.open_event.ensures.loaded
