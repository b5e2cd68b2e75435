use Rattle.std.proofs.Common.{◌≡◌, ◌≢◌, true, cond, nat_eq, List, length, sym, ◌∙◌, ap, subst}
use Rattle.pcm_base.specs.declared.act.Act.TheVariants as act
use Rattle.pcm_base.specs.declared.reply.Reply.{Reply}
use Rattle.pcm_base.specs.declared.reply.Reply.TheVariants as reply
use Rattle.pcm_base.specs.declared.sleeper.Task.TheVariants as task
use Rattle.pcm_base.specs.declared.sleeper.Xfer.{Xfer}
use Rattle.pcm_base.specs.declared.state.State.TheVariants as state
use Rattle.pcm_base.specs.model.Acts.{members_after}
use Rattle.pcm_base.specs.model.Frame.{Frame}
use Rattle.pcm_base.specs.model.Group.{stream_of}
use Rattle.pcm_base.specs.model.Program.{Makes}
use Rattle.pcm_base.specs.model.Stream.{Waiting}
use Rattle.pcm_base.specs.model.Transfer.{frames_or, sleeping, tells as telling, waiting_for}
use Rattle.pcm_stream.specs.Members.{members_of}
use Rattle.pcm_stream.specs.MembersStand.{TaskFits}
use Rattle.xfer_loop.specs.Loop.{IsOnTheWay, after_stuck}
use Rattle.pcm_group.specs.Transfers.{IsWait}
use Rattle.pcm_group.specs.Waiting.{calls_of, is_free}
use Rattle.pcm_group.proofs.AsleepLemmas.{IsEndedBy-of, free_at}
use Rattle.pcm_group.proofs.CarryLemmas.{IsEnded-telling, IsEndedBy-told, IsEndedBy-telling_asleep, first_now, frames_now}
use Rattle.pcm_group.proofs.EndedLemmas.{IsEnded-then}
use Rattle.pcm_group.proofs.PlaceLemmas.{calls-fixed, numbers-fixed}
use Rattle.pcm_group.proofs.FaultLemmas.{KeepsCards-same}
use Rattle.pcm_group.proofs.transfer.end.Goals as goal

-- the call as the model keeps it
kept_as : (x z : Xfer) (fs : List Frame) → IsOnTheWay x z fs → x.layout ≡ z.layout → z ≡ record x { rest = z.rest; moved = z.moved }
kept_as x z fs h e = λ i. record { writing = sym h.writing i; layout = sym e i; mode = sym h.mode i; rest = z.rest; moved = z.moved }

pub fall_asleep-requires-clause-free : goal.fall_asleep-requires-clause-free
fall_asleep-requires-clause-free g c = λ m at. free_at c.args.client (members_of c.args.members.now) c.args.place m at c.requires.free

pub returns-in-Wait-clause-done : goal.returns-in-Wait-clause-done
returns-in-Wait-clause-done g c = λ k tells xs x fs h way same layout waits.
    let z = c.args.xfer in
    let s = stream_of k xs in
    let ms = members_of c.fall_asleep.new.members in
    let old = c.args.acts.now in
    let n = c.in-Wait.wanted in
    let fits : TaskFits s (task.Transfer z n) = waits (subst IsWait (sym c.in-Wait.is) tt) in
    let p : Waiting = record { client = c.args.client; task = task.Transfer z n } in
    let as_kept : p ≡ waiting_for c.args.client x z.rest z.moved n = ap (λ (y : Xfer). let q : Waiting = record { client = c.args.client; task = task.Transfer y n } in q) (kept_as x z fs way layout) in
    let is : after_stuck c.args.client x z fs s c.args.halt ≡ telling reply.Asleep x fs (sleeping p s) =
    ap (after_stuck c.args.client x z fs s) c.in-Wait.is ∙ sym (ap (λ (q : Waiting). telling reply.Asleep x fs (sleeping q s)) as_kept) in
    IsEndedBy-told c.args.client tells _ (telling reply.Asleep x fs (sleeping p s)) k xs old old c.ended_with.result.reply reply.Asleep c.ended_with.result.first (cond (nat_eq (length fs) 0) 0 x.moved) c.ended_with.result.moved (length fs) ms
    is c.ended_with.ensures.reply (c.ended_with.ensures.first ∙ first_now x z fs c.args.before way same) (c.ended_with.ensures.moved ∙ frames_now x z fs c.args.before way same)
    (IsEndedBy-telling_asleep c.args.client tells (sleeping p s) k xs old x fs ms (c.fall_asleep.ensures.asleep k tells xs h fits))

pub returns-in-Drained-clause-done : goal.returns-in-Drained-clause-done
returns-in-Drained-clause-done g c = λ k tells xs x fs h way same layout waits.
    let z = c.args.xfer in
    let s = stream_of k xs in
    let ns = members_of c.make.new.members in
    let r : Reply = reply.Frames z.moved in
    let made = c.make.ensures.made c.args.place k tells xs h in
    let ys = members_after made.acted xs in
    let first = cond (nat_eq (length fs) 0) 0 x.moved in
    let free : is_free c.args.client (calls_of ns) ≡ true = ap (is_free c.args.client) (calls-fixed (members_of c.args.members.now) ns c.make.ensures.fixed) ∙ c.requires.free in
    IsEndedBy-told c.args.client tells _ (Makes (act.Stop state.Setup) s (λ o. telling r x fs)) k xs c.args.acts.now c.make.new.acts c.ended_with-in-Drained.result.reply r c.ended_with-in-Drained.result.first first c.ended_with-in-Drained.result.moved (length fs) ns
    (ap (after_stuck c.args.client x z fs s) c.in-Drained.is) c.ended_with-in-Drained.ensures.reply (c.ended_with-in-Drained.ensures.first ∙ first_now x z fs c.args.before way same) (c.ended_with-in-Drained.ensures.moved ∙ frames_now x z fs c.args.before way same)
    (IsEndedBy-of c.args.client tells _ k xs c.args.acts.now c.make.new.acts r first (length fs) ns (λ e. let never_is : ⊥ = cc in never_is) free
    (IsEnded-then tells (act.Stop state.Setup) (λ o. telling r x fs) c.args.place k xs c.args.acts.now c.make.new.acts c.make.new.acts _ ns ns r first (length fs) h.distinct made
    (IsEnded-telling tells k ys c.make.new.acts r x fs ns c.args.place made.now)))

pub returns-in-Refuse-clause-done : goal.returns-in-Refuse-clause-done
returns-in-Refuse-clause-done g c = λ k tells xs x fs h way same layout waits.
    let z = c.args.xfer in
    let s = stream_of k xs in
    let ms = members_of c.args.members.now in
    let old = c.args.acts.now in
    let r : Reply = frames_or z.moved c.in-Refuse.e in
    let first = cond (nat_eq (length fs) 0) 0 x.moved in
    IsEndedBy-told c.args.client tells _ (telling r x fs s) k xs old old c.ended_with-in-Refuse.result.reply r c.ended_with-in-Refuse.result.first first c.ended_with-in-Refuse.result.moved (length fs) ms
    (ap (after_stuck c.args.client x z fs s) c.in-Refuse.is) (c.ended_with-in-Refuse.ensures.reply ∙ c.moved_or.ensures.answer) (c.ended_with-in-Refuse.ensures.first ∙ first_now x z fs c.args.before way same) (c.ended_with-in-Refuse.ensures.moved ∙ frames_now x z fs c.args.before way same)
    (IsEndedBy-of c.args.client tells _ k xs old old r first (length fs) ms (subst (λ (q : Reply). q ≢ reply.Asleep) c.moved_or.ensures.answer c.moved_or.ensures.awake) c.requires.free (IsEnded-telling tells k xs old r x fs ms c.args.place h))

pub returns-in-Moved-clause-done : goal.returns-in-Moved-clause-done
returns-in-Moved-clause-done g c = λ k tells xs x fs h way same layout waits.
    let z = c.args.xfer in
    let s = stream_of k xs in
    let ms = members_of c.args.members.now in
    let old = c.args.acts.now in
    let r : Reply = reply.Frames z.moved in
    let first = cond (nat_eq (length fs) 0) 0 x.moved in
    IsEndedBy-told c.args.client tells _ (telling r x fs s) k xs old old c.ended_with-in-Moved.result.reply r c.ended_with-in-Moved.result.first first c.ended_with-in-Moved.result.moved (length fs) ms
    (ap (after_stuck c.args.client x z fs s) c.in-Moved.is) (c.ended_with-in-Moved.ensures.reply) (c.ended_with-in-Moved.ensures.first ∙ first_now x z fs c.args.before way same) (c.ended_with-in-Moved.ensures.moved ∙ frames_now x z fs c.args.before way same)
    (IsEndedBy-of c.args.client tells _ k xs old old r first (length fs) ms (λ e. let never_is : ⊥ = cc in never_is) c.requires.free (IsEnded-telling tells k xs old r x fs ms c.args.place h))

pub returns-in-WantsStart-clause-done : goal.returns-in-WantsStart-clause-done
returns-in-WantsStart-clause-done g c = λ k tells xs x fs h way same layout waits.
    let z = c.args.xfer in
    let s = stream_of k xs in
    let ms = members_of c.args.members.now in
    let old = c.args.acts.now in
    let r : Reply = reply.Frames z.moved in
    let first = cond (nat_eq (length fs) 0) 0 x.moved in
    IsEndedBy-told c.args.client tells _ (telling r x fs s) k xs old old c.ended_with-in-WantsStart.result.reply r c.ended_with-in-WantsStart.result.first first c.ended_with-in-WantsStart.result.moved (length fs) ms
    (ap (after_stuck c.args.client x z fs s) c.in-WantsStart.is) (c.ended_with-in-WantsStart.ensures.reply) (c.ended_with-in-WantsStart.ensures.first ∙ first_now x z fs c.args.before way same) (c.ended_with-in-WantsStart.ensures.moved ∙ frames_now x z fs c.args.before way same)
    (IsEndedBy-of c.args.client tells _ k xs old old r first (length fs) ms (λ e. let never_is : ⊥ = cc in never_is) c.requires.free (IsEnded-telling tells k xs old r x fs ms c.args.place h))

pub returns-in-Drained-clause-numbers : goal.returns-in-Drained-clause-numbers
returns-in-Drained-clause-numbers g c = numbers-fixed (members_of c.args.members.now) (members_of c.make.new.members) c.make.ensures.fixed

pub returns-in-Wait-clause-cards : goal.returns-in-Wait-clause-cards
returns-in-Wait-clause-cards g c = c.fall_asleep.ensures.cards c.args.acts.now

pub returns-in-Drained-clause-cards : goal.returns-in-Drained-clause-cards
returns-in-Drained-clause-cards g c = c.make.ensures.cards

pub returns-in-Refuse-clause-cards : goal.returns-in-Refuse-clause-cards
returns-in-Refuse-clause-cards g c = KeepsCards-same c.args.acts.now (members_of c.args.members.now)

pub returns-in-Moved-clause-cards : goal.returns-in-Moved-clause-cards
returns-in-Moved-clause-cards g c = KeepsCards-same c.args.acts.now (members_of c.args.members.now)

pub returns-in-WantsStart-clause-cards : goal.returns-in-WantsStart-clause-cards
returns-in-WantsStart-clause-cards g c = KeepsCards-same c.args.acts.now (members_of c.args.members.now)
