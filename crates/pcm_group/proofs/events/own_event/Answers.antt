use Rattle.std.proofs.Common.{◌≡◌, Bool, true, false, not, List, [], length, refl, sym, ◌∙◌, ap, subst, arith}
use Rattle.pcm_base.specs.model.Stream.{Stream}
use Rattle.std.proofs.Common.{◌∷◌, ◌↔◌, IsTrue, nat_lt}
use Rattle.std.proofs.lemmas.Bool.Decides.{nat_tests}
use Rattle.pcm_base.specs.declared.call.Call.{Call}
use Rattle.pcm_base.specs.declared.call.Call.TheVariants as call
use Rattle.pcm_base.specs.declared.card.Card.{Ghosts}
use Rattle.pcm_base.specs.declared.ids.ClientId.{ClientId}
use Rattle.pcm_base.specs.declared.reply.Reply.{Reply}
use Rattle.pcm_base.specs.declared.sleeper.Sleeper.{Sleeper}
use Rattle.pcm_base.specs.model.Events.{event, is_busy}
use Rattle.pcm_base.specs.model.Stream.{Waiting, Member as ModelMember}
use Rattle.pcm_stream.specs.declared.substream.Substream.{Substream}
use Rattle.sleepers.specs.Marks.{waiting}
use Rattle.pcm_group.specs.Built.{own_frames}
use Rattle.pcm_group.specs.Ended.{IsOwnEnd}
use Rattle.pcm_group.proofs.events.own_event.Goals as goal

-- the event of this call
at_call : {C : Type 0} {g : Ghosts C} (e d : Call) (c : ClientId) (linked : Bool) (s : Stream) (r : Reply) (sub : Substream C g) → e ≡ d
    → IsOwnEnd s (event d c linked [] s) r 0 (own_frames d s) sub → IsOwnEnd s (event e c linked [] s) r 0 (own_frames e s) sub
at_call e d c linked s r sub same h = subst (λ (x : Call). IsOwnEnd s (event x c linked [] s) r 0 (own_frames x s) sub) (sym same) h

-- calls are in progress exactly where the list is not empty
busy_as : (ps : List Sleeper) (b : Bool) → (IsTrue b ↔ (ps ≡ [])) → not b ≡ nat_lt 0 (length (waiting ps))
busy_as [] b h = ap not (h.1 refl)
busy_as (p ∷ ps) true h = let no : (p ∷ ps) ≡ [] = h.0 refl in absurd (let never : ⊥ = cc in never)
busy_as (p ∷ ps) false h = let is : nat_lt 0 (length (waiting (p ∷ ps))) ≡ true = grind (arith, nat_tests) in sym is

busy_of : (ps : List Sleeper) (b : Bool) (x : ModelMember) → waiting ps ≡ x.stream.sleepers → (IsTrue b ↔ (ps ≡ [])) → not b ≡ is_busy x.stream
busy_of ps b x same h = busy_as ps b h ∙ ap (λ (ws : List Waiting). nat_lt 0 (length ws)) same

pub returns-in-OpenSub-clause-done : goal.returns-in-OpenSub-clause-done
returns-in-OpenSub-clause-done g c = λ client x h n.
    at_call c.args.call call.OpenSub client c.args.linked x.stream c.open.result c.open.new.stream c.in-OpenSub.is (c.open.ensures.done client c.args.linked x.stream h.stream)

pub returns-in-CloseSub-clause-done : goal.returns-in-CloseSub-clause-done
returns-in-CloseSub-clause-done g c = λ client x h n.
    at_call c.args.call call.CloseSub client c.args.linked x.stream c.close.result c.close.new.stream c.in-CloseSub.is (c.close.ensures.done client x.stream h.stream (busy_of _ c.is_empty-busy.result x h.member.calls c.is_empty-busy.ensures))

pub returns-in-HwParams-clause-done : goal.returns-in-HwParams-clause-done
returns-in-HwParams-clause-done g c = λ client x h n.
    at_call c.args.call (call.HwParams c.in-HwParams.config) client c.args.linked x.stream c.hw_params.result c.hw_params.new.stream c.in-HwParams.is (c.hw_params.ensures.done client c.args.linked x.stream h.stream (busy_of _ c.is_empty-busy.result x h.member.calls c.is_empty-busy.ensures) n)

pub returns-in-HwFree-clause-done : goal.returns-in-HwFree-clause-done
returns-in-HwFree-clause-done g c = λ client x h n.
    at_call c.args.call call.HwFree client c.args.linked x.stream c.hw_free.result c.hw_free.new.stream c.in-HwFree.is (c.hw_free.ensures.done client c.args.linked x.stream h.stream (busy_of _ c.is_empty-busy.result x h.member.calls c.is_empty-busy.ensures))

pub returns-in-SwParams-clause-done : goal.returns-in-SwParams-clause-done
returns-in-SwParams-clause-done g c = λ client x h n.
    at_call c.args.call (call.SwParams c.in-SwParams.sw) client c.args.linked x.stream c.sw_params.result c.sw_params.new.stream c.in-SwParams.is (c.sw_params.ensures.done client c.args.linked x.stream h.stream)

pub returns-in-MoveBy-clause-done : goal.returns-in-MoveBy-clause-done
returns-in-MoveBy-clause-done g c = λ client x h n.
    at_call c.args.call (call.MoveBy c.in-MoveBy.n) client c.args.linked x.stream c.move_by.result c.move_by.new.stream c.in-MoveBy.is (c.move_by.ensures.done client c.args.linked x.stream h.stream n)

pub returns-in-FailAt-clause-done : goal.returns-in-FailAt-clause-done
returns-in-FailAt-clause-done g c = λ client x h n.
    at_call c.args.call (call.FailAt c.in-FailAt.k) client c.args.linked x.stream c.fail_at.result c.fail_at.new.stream c.in-FailAt.is (c.fail_at.ensures.done client c.args.linked x.stream h.stream)

pub returns-in-SyncPtr-clause-done : goal.returns-in-SyncPtr-clause-done
returns-in-SyncPtr-clause-done g c = λ client x h n.
    at_call c.args.call (call.SyncPtr c.in-SyncPtr.p) client c.args.linked x.stream c.sync_ptr.result c.sync_ptr.new.stream c.in-SyncPtr.is (c.sync_ptr.ensures.done client c.args.linked x.stream h.stream)

pub returns-in-Map-clause-done : goal.returns-in-Map-clause-done
returns-in-Map-clause-done g c = λ client x h n.
    at_call c.args.call call.Map client c.args.linked x.stream c.map.result c.map.new.stream c.in-Map.is (c.map.ensures.done client c.args.linked x.stream h.stream)

pub returns-in-Unmap-clause-done : goal.returns-in-Unmap-clause-done
returns-in-Unmap-clause-done g c = λ client x h n.
    at_call c.args.call call.Unmap client c.args.linked x.stream c.unmap.result c.unmap.new.stream c.in-Unmap.is (c.unmap.ensures.done client c.args.linked x.stream h.stream)
