use Rattle.std.proofs.Common.{◌≡◌, true, false, nat_eq, length, sym, ap, ◌∙◌}
use Rattle.pcm_base.specs.declared.reply.Reply.{Reply}
use Rattle.pcm_base.specs.declared.reply.Reply.TheVariants as reply
use Rattle.pcm_base.specs.declared.state.Errno.TheVariants as errno
use Rattle.pcm_base.specs.declared.state.State.{State}
use Rattle.pcm_base.specs.declared.act.Act.TheVariants as act
use Rattle.pcm_base.specs.model.Events.{go, go_drain, left_by}
use Rattle.pcm_base.specs.model.Group.{stream_of}
use Rattle.pcm_base.specs.model.Program.{Makes, fails, says}
use Rattle.pcm_stream.specs.Members.{members_of}
use Rattle.pcm_base.specs.model.Acts.{members_after}
use Rattle.pcm_base.specs.model.Words.{is_disconnected, is_suspended}
use Rattle.std.proofs.Common.{cond}
use Rattle.pcm_group.specs.Waiting.{is_free_but}
use Rattle.pcm_group.proofs.AsleepLemmas.{IsEndedBy-at, IsEndedBy-then}
use Rattle.pcm_group.proofs.EndedLemmas.{stands-there}
use Rattle.pcm_group.proofs.FaultLemmas.{KeepsCards-then}
use Rattle.pcm_group.proofs.GoingLemmas.{drain_ends, drain_waits, goes_gone, goes_watched}
use Rattle.pcm_group.proofs.PlaceLemmas.{calls-fixed, numbers-fixed}
use Rattle.pcm_group.proofs.go.go_drain.Goals as goal

pub returns-then-not-is_empty-clause-cards : goal.returns-then-not-is_empty-clause-cards
returns-then-not-is_empty-clause-cards g c = c.stay.ensures.cards c.args.acts.now

-- ---- the card is gone

pub returns-then-is_gone-clause-done : goal.returns-then-is_gone-clause-done
returns-then-is_gone-clause-done g c = λ k tells xs h is.
    let cl = c.args.client in
    let io = c.args.io.now in
    let s = stream_of k xs in
    let q = c.finish.result in
    let sh = stands-there (members_of c.args.members.now) c.args.place c.at.result.now k tells xs h c.at.ensures in
    let none : nat_eq (length io) 0 ≡ true = sym c.is_empty.ensures ∙ c.if-not-is_empty.false in
    let gone : is_disconnected s.state ≡ true = ap is_disconnected (sym (c.state.ensures s sh)) ∙ sym c.is_gone.ensures ∙ c.if-is_gone.true in
    IsEndedBy-at cl tells (go cl io s) (fails errno.Ebadfd (left_by cl s)) k xs c.args.acts.now c.args.acts.now q.reply q.first q.moved (members_of c.finish.new.members) (goes_gone cl io s is none gone) (c.finish.ensures.done k tells xs c.args.acts.now h)

pub returns-then-is_gone-clause-cards : goal.returns-then-is_gone-clause-cards
returns-then-is_gone-clause-cards g c = c.finish.ensures.cards c.args.acts.now

-- ---- the group is watched

pub finish-requires-in-Ok-clause-free : goal.finish-requires-in-Ok-clause-free
finish-requires-in-Ok-clause-free g c = ap (is_free_but c.args.place c.args.client) (calls-fixed (members_of c.args.members.now) (members_of c.make.new.members) c.make.ensures.fixed) ∙ c.requires.free

pub returns-in-Ok-clause-done : goal.returns-in-Ok-clause-done
returns-in-Ok-clause-done g c = λ k tells xs h is.
    let cl = c.args.client in
    let io = c.args.io.now in
    let s = stream_of k xs in
    let old = c.args.acts.now in
    let new = c.make.new.acts in
    let ns = members_of c.make.new.members in
    let ms = members_of c.finish-in-Ok.new.members in
    let q = c.finish-in-Ok.result in
    let sh = stands-there (members_of c.args.members.now) c.args.place c.at.result.now k tells xs h c.at.ensures in
    let none : nat_eq (length io) 0 ≡ true = sym c.is_empty.ensures ∙ c.if-not-is_empty.false in
    let here : is_disconnected s.state ≡ false = ap is_disconnected (sym (c.state.ensures s sh)) ∙ sym c.is_gone.ensures ∙ c.if-is_gone.false in
    let made = c.in-Ok.ensures.made c.args.place k tells xs h in
    let ys = members_after made.acted xs in
    let t = stream_of k ys in
    let sh' = stands-there ns c.args.place c.at-in-Ok.result.now k tells ys made.now c.at-in-Ok.ensures in
    let r = c.drained.result in
    let told : r ≡ cond (is_suspended t.state) (reply.Err errno.Estrpipe) reply.Ok = c.drained.ensures.answer ∙ ap (λ (u : State). cond (is_suspended u) (reply.Err errno.Estrpipe) reply.Ok) (c.state-state.ensures t sh') in
    let ends : go_drain cl made.acted.outcome t ≡ says r (left_by cl t) = drain_ends cl made.acted.outcome t made.answer ∙ ap (λ (v : Reply). says v (left_by cl t)) (sym told) in
    IsEndedBy-at cl tells (go cl io s) (Makes act.Watch s (go_drain cl)) k xs old new q.reply q.first q.moved ms (goes_watched cl io s is none here)
    (IsEndedBy-then cl tells act.Watch (go_drain cl) c.args.place k xs old new new _ ns ms q.reply q.first q.moved h.distinct made
    (IsEndedBy-at cl tells (go_drain cl made.acted.outcome t) (says r (left_by cl t)) k ys new new q.reply q.first q.moved ms ends (c.finish-in-Ok.ensures.done k tells ys new made.now)))

pub returns-in-Ok-clause-numbers : goal.returns-in-Ok-clause-numbers
returns-in-Ok-clause-numbers g c = c.finish-in-Ok.ensures.numbers ∙ numbers-fixed (members_of c.args.members.now) (members_of c.make.new.members) c.make.ensures.fixed

pub returns-in-Ok-clause-cards : goal.returns-in-Ok-clause-cards
returns-in-Ok-clause-cards g c =
    let new = c.make.new.acts in
    KeepsCards-then c.args.acts.now new new (members_of c.args.members.now) (members_of c.make.new.members) (members_of c.finish-in-Ok.new.members) c.make.ensures.cards (c.finish-in-Ok.ensures.cards new)

pub returns-in-Err-clause-done : goal.returns-in-Err-clause-done
returns-in-Err-clause-done g c = λ k tells xs h is.
    let cl = c.args.client in
    let io = c.args.io.now in
    let s = stream_of k xs in
    let old = c.args.acts.now in
    let new = c.make.new.acts in
    let ns = members_of c.make.new.members in
    let ms = members_of c.stay-in-Err.new.members in
    let q = c.stay-in-Err.result in
    let sh = stands-there (members_of c.args.members.now) c.args.place c.at.result.now k tells xs h c.at.ensures in
    let none : nat_eq (length io) 0 ≡ true = sym c.is_empty.ensures ∙ c.if-not-is_empty.false in
    let here : is_disconnected s.state ≡ false = ap is_disconnected (sym (c.state.ensures s sh)) ∙ sym c.is_gone.ensures ∙ c.if-is_gone.false in
    let made = c.in-Err.ensures.made c.args.place k tells xs h in
    let ys = members_after made.acted xs in
    let t = stream_of k ys in
    IsEndedBy-at cl tells (go cl io s) (Makes act.Watch s (go_drain cl)) k xs old new q.reply q.first q.moved ms (goes_watched cl io s is none here)
    (IsEndedBy-then cl tells act.Watch (go_drain cl) c.args.place k xs old new new _ ns ms q.reply q.first q.moved h.distinct made
    (IsEndedBy-at cl tells (go_drain cl made.acted.outcome t) (says reply.Asleep t) k ys new new q.reply q.first q.moved ms (drain_waits cl made.acted.outcome t _ made.answer) (c.stay-in-Err.ensures.done k tells ys new made.now)))

pub returns-in-Err-clause-numbers : goal.returns-in-Err-clause-numbers
returns-in-Err-clause-numbers g c = c.stay-in-Err.ensures.numbers ∙ numbers-fixed (members_of c.args.members.now) (members_of c.make.new.members) c.make.ensures.fixed

pub returns-in-Err-clause-cards : goal.returns-in-Err-clause-cards
returns-in-Err-clause-cards g c =
    let new = c.make.new.acts in
    KeepsCards-then c.args.acts.now new new (members_of c.args.members.now) (members_of c.make.new.members) (members_of c.stay-in-Err.new.members) c.make.ensures.cards (c.stay-in-Err.ensures.cards new)
