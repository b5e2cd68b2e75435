use Rattle.std.proofs.Common.{◌≡◌, ℕ, Bool, true, false, ◌||◌, nat_lt, [], length, set, refl, sym, ◌∙◌, ap, subst}
use Rattle.pcm_base.specs.declared.call.Call.{Call}
use Rattle.pcm_base.specs.declared.call.Call.TheVariants as call
use Rattle.pcm_base.specs.model.Events.{event}
use Rattle.pcm_base.specs.model.Group.{stream_of}
use Rattle.pcm_base.specs.model.Stream.{Stream}
use Rattle.pcm_stream.specs.declared.members.Member.{Member}
use Rattle.pcm_stream.specs.Members.{members_of}
use Rattle.group_trigger.proofs.VoteLemmas.{AllStandFor-length}
use Rattle.pcm_group.specs.Built.{is_act_call, is_own_call, own_frames}
use Rattle.pcm_group.specs.Ended.{IsEnded, IsOwnEnd}
use Rattle.pcm_group.proofs.EndedLemmas.{IsEnded-own}
use Rattle.pcm_group.proofs.PlaceLemmas.{IsThere, calls-fixed, numbers-fixed, set_stands, there}
use Rattle.pcm_group.proofs.FaultLemmas.{KeepsCards-set, map-at}
use Rattle.pcm_group.proofs.events.short_event.Goals as goal

act_frames : (e : Call) (s : Stream) → is_act_call e ≡ true → own_frames e s ≡ 0
act_frames (call.MoveBy n) s h = absurd (let no : ⊥ = cc in no)
act_frames _ s h = refl

acts_then : (a b : Bool) → (a || b) ≡ true → a ≡ false → b ≡ true
acts_then true b h e = absurd (let no : ⊥ = cc in no)
acts_then false b h e = h

pub returns-then-is_own-clause-done : goal.returns-then-is_own-clause-done
returns-then-is_own-clause-done g c = λ client k tells xs h n.
    let ms = members_of c.args.members.now in
    let m = c.at_mut.result.now in
    let new = c.own_event.new.member in
    let next : Member g.row.C.Denot g.C.Card = record m { stream = new.stream } in
    let r : IsThere m k xs = there ms c.args.place m k xs h.stands h.distinct h.number c.at_mut.ensures.value in
    let s = stream_of k xs in
    let linked : nat_lt 1 c.len-linked.result ≡ nat_lt 1 (length xs) = ap (λ (i : ℕ). nat_lt 1 i) (c.len-linked.ensures.value ∙ AllStandFor-length ms xs h.stands) in
    let own = subst (λ (t : Stream). IsOwnEnd t (event c.args.call client (nat_lt 1 c.len-linked.result) [] t) c.own_event.result 0 (own_frames c.args.call t) new.stream) r.stream (c.own_event.ensures.done client r.member r.stands n) in
    let own' = subst (λ (b : Bool). IsOwnEnd s (event c.args.call client b [] s) c.own_event.result 0 (own_frames c.args.call s) new.stream) linked own in
    let same : next ≡ new = (λ i. record { sub = sym c.own_event.ensures.sub i; stream = new.stream; sleepers = sym c.own_event.ensures.sleepers i }) in
    subst (λ (y : Member g.row.C.Denot g.C.Card). IsEnded tells (event c.args.call client (nat_lt 1 (length xs)) [] s) k xs c.args.acts.now c.args.acts.now c.own_event.result 0 (own_frames c.args.call s) (set ms c.args.place y)) same
    (IsEnded-own tells (event c.args.call client (nat_lt 1 (length xs)) [] s) k xs c.args.acts.now c.own_event.result 0 (own_frames c.args.call s) ms c.args.place m new.stream h c.at_mut.ensures.value own')

pub returns-then-is_own-clause-memory : goal.returns-then-is_own-clause-memory
returns-then-is_own-clause-memory g c = λ xs h e.
    set_stands (members_of c.args.members.now) c.args.place c.at_mut.result.now c.own_event.new.member xs h c.at_mut.ensures.value (λ x k. c.own_event.ensures.memory x k e)

pub returns-then-is_own-clause-wants : goal.returns-then-is_own-clause-wants
returns-then-is_own-clause-wants g c = c.own_event.ensures.wants

pub returns-then-is_own-clause-numbers : goal.returns-then-is_own-clause-numbers
returns-then-is_own-clause-numbers g c =
    map-at (λ (y : Member g.row.C.Denot g.C.Card). y.sub) (members_of c.args.members.now) c.args.place c.at_mut.result.now c.own_event.new.member c.at_mut.ensures.value c.own_event.ensures.sub

pub returns-then-is_own-clause-calls : goal.returns-then-is_own-clause-calls
returns-then-is_own-clause-calls g c =
    map-at (λ (y : Member g.row.C.Denot g.C.Card). y.sleepers) (members_of c.args.members.now) c.args.place c.at_mut.result.now c.own_event.new.member c.at_mut.ensures.value c.own_event.ensures.sleepers

pub returns-else-is_own-clause-done : goal.returns-else-is_own-clause-done
returns-else-is_own-clause-done g c = λ client k tells xs h n.
    let s = stream_of k xs in
    let acts : is_act_call c.args.call ≡ true = acts_then (is_own_call c.args.call) (is_act_call c.args.call) c.requires.call (sym c.is_own.ensures ∙ c.if-is_own.false) in
    subst (λ (i : ℕ). IsEnded tells (event c.args.call client (nat_lt 1 (length xs)) [] s) k xs c.args.acts.now c.act_event.new.acts c.act_event.result 0 i (members_of c.act_event.new.members)) (sym (act_frames c.args.call s acts))
    (c.act_event.ensures.done client (nat_lt 1 (length xs)) k tells xs h)

pub returns-else-is_own-clause-numbers : goal.returns-else-is_own-clause-numbers
returns-else-is_own-clause-numbers g c = numbers-fixed (members_of c.args.members.now) (members_of c.act_event.new.members) c.act_event.ensures.fixed

pub returns-else-is_own-clause-calls : goal.returns-else-is_own-clause-calls
returns-else-is_own-clause-calls g c = calls-fixed (members_of c.args.members.now) (members_of c.act_event.new.members) c.act_event.ensures.fixed

pub returns-then-is_own-clause-cards : goal.returns-then-is_own-clause-cards
returns-then-is_own-clause-cards g c =
    KeepsCards-set c.args.acts.now (members_of c.args.members.now) c.args.place c.at_mut.result.now c.own_event.new.member c.at_mut.ensures.value c.own_event.ensures.keeps.tells c.own_event.ensures.keeps.count
