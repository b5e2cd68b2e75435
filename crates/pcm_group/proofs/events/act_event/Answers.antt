use Rattle.std.proofs.Common.{◌≡◌, Bool, List, [], sym, subst}
use Rattle.pcm_base.specs.model.Group.{stream_of}
use Rattle.pcm_stream.specs.Members.{members_of}
use Rattle.pcm_base.specs.declared.call.Call.{Call}
use Rattle.pcm_base.specs.declared.call.Call.TheVariants as call
use Rattle.pcm_base.specs.declared.card.Card.{Ghosts}
use Rattle.pcm_base.specs.declared.ids.ClientId.{ClientId}
use Rattle.pcm_base.specs.declared.ids.SubId.{SubId}
use Rattle.pcm_base.specs.declared.reply.Reply.{Reply}
use Rattle.pcm_base.specs.declared.votes.Acted.{Acted}
use Rattle.pcm_base.specs.model.Events.{event}
use Rattle.pcm_base.specs.model.Stream.{Member as ModelMember}
use Rattle.pcm_stream.specs.declared.members.Member.{Member}
use Rattle.pcm_group.specs.Ended.{IsEnded}
use Rattle.pcm_group.proofs.events.act_event.Goals as goal

-- the event of this call
at_call : {C : Type 0} {g : Ghosts C} (tells : List Bool) (e d : Call) (c : ClientId) (linked : Bool) (k : SubId) (xs : List ModelMember) (old new : List Acted) (r : Reply) (ms : List (Member C g)) → e ≡ d
    → IsEnded tells (event d c linked [] (stream_of k xs)) k xs old new r 0 0 ms → IsEnded tells (event e c linked [] (stream_of k xs)) k xs old new r 0 0 ms
at_call tells e d c linked k xs old new r ms same h = subst (λ (x : Call). IsEnded tells (event x c linked [] (stream_of k xs)) k xs old new r 0 0 ms) (sym same) h

pub returns-in-Prepare-clause-done : goal.returns-in-Prepare-clause-done
returns-in-Prepare-clause-done g c = λ client linked k tells xs h.
    at_call tells c.args.call call.Prepare client linked k xs c.args.acts.now c.prepare.new.acts c.prepare.result (members_of c.prepare.new.members) c.in-Prepare.is (c.prepare.ensures.done client linked k tells xs h)

pub returns-in-DropNow-clause-done : goal.returns-in-DropNow-clause-done
returns-in-DropNow-clause-done g c = λ client linked k tells xs h.
    at_call tells c.args.call call.DropNow client linked k xs c.args.acts.now c.drop_now.new.acts c.drop_now.result (members_of c.drop_now.new.members) c.in-DropNow.is (c.drop_now.ensures.done client linked k tells xs h)

pub returns-in-Xrun-clause-done : goal.returns-in-Xrun-clause-done
returns-in-Xrun-clause-done g c = λ client linked k tells xs h.
    at_call tells c.args.call call.Xrun client linked k xs c.args.acts.now c.xrun.new.acts c.xrun.result (members_of c.xrun.new.members) c.in-Xrun.is (c.xrun.ensures.done client linked k tells xs h)

pub returns-in-Hwsync-clause-done : goal.returns-in-Hwsync-clause-done
returns-in-Hwsync-clause-done g c = λ client linked k tells xs h.
    at_call tells c.args.call call.Hwsync client linked k xs c.args.acts.now c.hwsync.new.acts c.hwsync.result (members_of c.hwsync.new.members) c.in-Hwsync.is (c.hwsync.ensures.done client linked k tells xs h)

pub returns-in-Delay-clause-done : goal.returns-in-Delay-clause-done
returns-in-Delay-clause-done g c = λ client linked k tells xs h.
    at_call tells c.args.call call.Delay client linked k xs c.args.acts.now c.delay.new.acts c.delay.result (members_of c.delay.new.members) c.in-Delay.is (c.delay.ensures.done client linked k tells xs h)

pub returns-in-Status-clause-done : goal.returns-in-Status-clause-done
returns-in-Status-clause-done g c = λ client linked k tells xs h.
    at_call tells c.args.call call.Status client linked k xs c.args.acts.now c.status.new.acts c.status.result (members_of c.status.new.members) c.in-Status.is (c.status.ensures.done client linked k tells xs h)

pub returns-in-Irq-clause-done : goal.returns-in-Irq-clause-done
returns-in-Irq-clause-done g c = λ client linked k tells xs h.
    at_call tells c.args.call call.Irq client linked k xs c.args.acts.now c.irq.new.acts c.irq.result (members_of c.irq.new.members) c.in-Irq.is (c.irq.ensures.done client linked k tells xs h)

pub returns-in-Unplug-clause-done : goal.returns-in-Unplug-clause-done
returns-in-Unplug-clause-done g c = λ client linked k tells xs h.
    at_call tells c.args.call call.Unplug client linked k xs c.args.acts.now c.unplug.new.acts c.unplug.result (members_of c.unplug.new.members) c.in-Unplug.is (c.unplug.ensures.done client linked k tells xs h)

pub returns-in-Rewind-clause-done : goal.returns-in-Rewind-clause-done
returns-in-Rewind-clause-done g c = λ client linked k tells xs h.
    at_call tells c.args.call (call.Rewind c.in-Rewind.n) client linked k xs c.args.acts.now c.rewind.new.acts c.rewind.result (members_of c.rewind.new.members) c.in-Rewind.is (c.rewind.ensures.done client linked k tells xs h)

pub returns-in-Forward-clause-done : goal.returns-in-Forward-clause-done
returns-in-Forward-clause-done g c = λ client linked k tells xs h.
    at_call tells c.args.call (call.Forward c.in-Forward.n) client linked k xs c.args.acts.now c.forward.new.acts c.forward.result (members_of c.forward.new.members) c.in-Forward.is (c.forward.ensures.done client linked k tells xs h)
