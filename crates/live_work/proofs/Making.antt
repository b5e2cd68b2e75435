-- A call of a worker, from what the floor tells of its pass.
use Rattle.std.proofs.Common.{◌≡◌, ℕ, true, false, List, [], Some, None, refl, sym, ap, ◌∙◌, subst}
use Rattle.std.specs.Option.{ForSome}
use Rattle.std.specs.declared.option.Option.{Option}
use Rattle.pcm_base.specs.declared.call.Call.{Call}
use Rattle.pcm_base.specs.declared.call.Event.{Event}
use Rattle.pcm_base.specs.declared.config.CardModel.{CardModel}
use Rattle.pcm_base.specs.declared.ids.ClientId.{ClientId}
use Rattle.pcm_base.specs.declared.ids.SubId.{SubId}
use Rattle.pcm_base.specs.declared.reply.Reply.{Reply}
use Rattle.pcm_base.specs.declared.reply.Reply.TheVariants as reply
use Rattle.pcm_base.specs.declared.state.Dir.{Dir}
use Rattle.pcm_group.specs.Turn.{is_group_call}
use Rattle.room_parts.specs.Passes.{PassView, asleep_on, client_of}
use Rattle.room_parts.specs.declared.pass.Caller.TheVariants.{Client}
use Rattle.room_lock.specs.declared.answer.Answer.{Answer}
use Rattle.live_floor.specs.Passes.{IsGoOf}
use Rattle.live_work.specs.Calls.{IsMadeIfDone, call_by}

pub some_is : {A : Type 0} (x y : A) → Some x ≡ Some y → x ≡ y
some_is x y e = cc

-- a pass is busy on no substream but that of its last call
pub asleep_is : (k : SubId) (r : Reply) → ForSome (asleep_on k r) (λ j. j ≡ k)
asleep_is k reply.Ok x e = absurd (cc)
asleep_is k (reply.Frames n) x e = absurd (cc)
asleep_is k (reply.Moved n) x e = absurd (cc)
asleep_is k (reply.Delay n) x e = absurd (cc)
asleep_is k (reply.Ptrs page) x e = absurd (cc)
asleep_is k (reply.Poll ready) x e = absurd (cc)
asleep_is k reply.Asleep x e = sym (some_is k x e)
asleep_is k (reply.Err errno) x e = absurd (cc)
asleep_is k (reply.Late n) x e = absurd (cc)
asleep_is k reply.Idle x e = absurd (cc)
asleep_is k (reply.Limit n) x e = absurd (cc)
asleep_is k (reply.Busy client) x e = absurd (cc)
asleep_is k reply.Memory x e = absurd (cc)

pub busy_on : (k : SubId) (r : Reply) (busy : Option SubId) → busy ≡ asleep_on k r → ForSome busy (λ j. j ≡ k)
busy_on k r busy is x at = asleep_is k r x (sym is ∙ at)

-- a call that is no group's is begun only where none is in progress
pub idle_before : (busy : Option SubId) (e : Event) → ForSome busy (λ k. IsGoOf k e) → is_group_call e.call ≡ false → busy ≡ None
idle_before None e b f = refl
idle_before (Some k) e b f =
    let go : is_group_call e.call ≡ true = ap is_group_call (b k refl).0 in
    absurd (cc)

-- the event of a link or an unlink is that of its pass
pub event_is : (p : PassView) (client : ClientId) (e : Event) (c : Call) → p.caller ≡ Client client → e.client ≡ Some client → e.call ≡ c → call_by p e.sub c ≡ e
event_is p client e c caller by is =
    let named : client_of p.caller ≡ e.client = ap client_of caller ∙ sym by in
    λ i. record { client = named i; sub = e.sub; call = sym is i }

-- it is handed no bytes
pub is_made_by : (cards : List (CardModel × Dir)) (long_max : ℕ) (a : Answer) (e e2 : Event) (io : List ℕ) (p q : PassView) → e ≡ e2 → io ≡ [] → IsMadeIfDone cards long_max a e [] p q → IsMadeIfDone cards long_max a e2 io p q
is_made_by cards long_max a e e2 io p q same none m =
    subst (λ (bytes : List ℕ). IsMadeIfDone cards long_max a e2 bytes p q) (sym none) (subst (λ (z : Event). IsMadeIfDone cards long_max a z [] p q) same m)
