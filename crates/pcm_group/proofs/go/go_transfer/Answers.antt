use Rattle.std.proofs.Common.{◌≡◌, true, false, sym, ap, ◌∙◌, subst}
use Rattle.pcm_base.specs.declared.reply.Reply.{Reply}
use Rattle.pcm_base.specs.declared.reply.Reply.TheVariants as reply
use Rattle.pcm_base.specs.declared.sleeper.Task.TheVariants as task
use Rattle.pcm_base.specs.declared.state.Errno.TheVariants as errno
use Rattle.pcm_base.specs.model.Events.{go, go_on, left_by}
use Rattle.pcm_base.specs.model.Group.{stream_of}
use Rattle.pcm_base.specs.model.Program.{Program, fails, says}
use Rattle.pcm_stream.specs.Members.{members_of}
use Rattle.pcm_group.specs.declared.go.Fate.TheVariants as fate
use Rattle.pcm_group.specs.Ended.{RunsTo}
use Rattle.pcm_group.proofs.AsleepLemmas.{IsEndedBy-at}
use Rattle.pcm_group.proofs.BeginLemmas.{quiet_bytes}
use Rattle.pcm_group.proofs.EndedLemmas.{stands-there}
use Rattle.pcm_group.proofs.GoingLemmas.{goes_other, goes_to, sized, transfer_fits, transfer_left}
use Rattle.pcm_group.proofs.SizeLemmas.{AreBytesOf-at}
use Rattle.pcm_group.proofs.go.go_transfer.Goals as goal

-- ---- other bytes than the call's

pub returns-then-not-has_bytes-clause-done : goal.returns-then-not-has_bytes-clause-done
returns-then-not-has_bytes-clause-done g c = λ k tells xs h fit is.
    let cl = c.args.client in
    let x = c.args.xfer in
    let io = c.args.io.now in
    let s = stream_of k xs in
    let q = c.stay.result in
    let sh = stands-there (members_of c.args.members.now) c.args.place c.at.result.now k tells xs h c.at.ensures in
    let other = goes_other cl io s (task.Transfer x c.args.wanted) is (sized x io s c.has_bytes.result false fit.layout (c.has_bytes.ensures.model s sh) c.if-not-has_bytes.true) in
    IsEndedBy-at cl tells (go cl io s) (fails errno.Einval s) k xs c.args.acts.now c.args.acts.now q.reply q.first q.moved (members_of c.stay.new.members) other (c.stay.ensures.done k tells xs c.args.acts.now h)

pub returns-then-not-has_bytes-clause-bytes : goal.returns-then-not-has_bytes-clause-bytes
returns-then-not-has_bytes-clause-bytes g c = λ k tells xs b ys h fit is runs.
    let cl = c.args.client in
    let x = c.args.xfer in
    let io = c.args.io.now in
    let s = stream_of k xs in
    let q = c.stay.result in
    quiet_bytes cl tells (go cl io s) k xs c.args.acts.now c.args.acts.now q.reply q.first q.moved (members_of c.stay.new.members) x.writing x.layout s io b ys (returns-then-not-has_bytes-clause-done g c k tells xs h fit is) c.stay.ensures.moved c.requires.none runs
    ∙ transfer_left cl x c.args.wanted s b io is

pub returns-then-not-has_bytes-clause-cards : goal.returns-then-not-has_bytes-clause-cards
returns-then-not-has_bytes-clause-cards g c = c.stay.ensures.cards c.args.acts.now

-- ---- the call waits

pub returns-in-Waits-clause-done : goal.returns-in-Waits-clause-done
returns-in-Waits-clause-done g c = λ k tells xs h fit is.
    let cl = c.args.client in
    let x = c.args.xfer in
    let io = c.args.io.now in
    let s = stream_of k xs in
    let q = c.stay-in-Waits.result in
    let sh = stands-there (members_of c.args.members.now) c.args.place c.at.result.now k tells xs h c.at.ensures in
    let sh' = stands-there (members_of c.args.members.now) c.args.place c.at-2.result.now k tells xs h c.at-2.ensures in
    let size = sized x io s c.has_bytes.result true fit.layout (c.has_bytes.ensures.model s sh) c.if-not-has_bytes.false in
    let comes = goes_to cl x c.args.wanted io s c.becomes.result fate.Waits is size (c.becomes.ensures cl x io s sh') c.in-Waits.is in
    IsEndedBy-at cl tells (go cl io s) (says reply.Asleep s) k xs c.args.acts.now c.args.acts.now q.reply q.first q.moved (members_of c.stay-in-Waits.new.members) comes (c.stay-in-Waits.ensures.done k tells xs c.args.acts.now h)

pub returns-in-Waits-clause-bytes : goal.returns-in-Waits-clause-bytes
returns-in-Waits-clause-bytes g c = λ k tells xs b ys h fit is runs.
    let cl = c.args.client in
    let x = c.args.xfer in
    let io = c.args.io.now in
    let s = stream_of k xs in
    let q = c.stay-in-Waits.result in
    quiet_bytes cl tells (go cl io s) k xs c.args.acts.now c.args.acts.now q.reply q.first q.moved (members_of c.stay-in-Waits.new.members) x.writing x.layout s io b ys (returns-in-Waits-clause-done g c k tells xs h fit is) c.stay-in-Waits.ensures.moved c.requires.none runs
    ∙ transfer_left cl x c.args.wanted s b io is

pub returns-in-Waits-clause-cards : goal.returns-in-Waits-clause-cards
returns-in-Waits-clause-cards g c = c.stay-in-Waits.ensures.cards c.args.acts.now

-- ---- it ends

pub returns-in-Ends-clause-done : goal.returns-in-Ends-clause-done
returns-in-Ends-clause-done g c = λ k tells xs h fit is.
    let cl = c.args.client in
    let x = c.args.xfer in
    let io = c.args.io.now in
    let s = stream_of k xs in
    let q = c.finish.result in
    let sh = stands-there (members_of c.args.members.now) c.args.place c.at.result.now k tells xs h c.at.ensures in
    let sh' = stands-there (members_of c.args.members.now) c.args.place c.at-2.result.now k tells xs h c.at-2.ensures in
    let size = sized x io s c.has_bytes.result true fit.layout (c.has_bytes.ensures.model s sh) c.if-not-has_bytes.false in
    let comes = goes_to cl x c.args.wanted io s c.becomes.result (fate.Ends c.in-Ends.e) is size (c.becomes.ensures cl x io s sh') c.in-Ends.is in
    let told : go cl io s ≡ says c.moved_or.result (left_by cl s) = comes ∙ ap (λ (r : Reply). says r (left_by cl s)) (sym c.moved_or.ensures.answer) in
    IsEndedBy-at cl tells (go cl io s) (says c.moved_or.result (left_by cl s)) k xs c.args.acts.now c.args.acts.now q.reply q.first q.moved (members_of c.finish.new.members) told (c.finish.ensures.done k tells xs c.args.acts.now h)

pub returns-in-Ends-clause-bytes : goal.returns-in-Ends-clause-bytes
returns-in-Ends-clause-bytes g c = λ k tells xs b ys h fit is runs.
    let cl = c.args.client in
    let x = c.args.xfer in
    let io = c.args.io.now in
    let s = stream_of k xs in
    let q = c.finish.result in
    quiet_bytes cl tells (go cl io s) k xs c.args.acts.now c.args.acts.now q.reply q.first q.moved (members_of c.finish.new.members) x.writing x.layout s io b ys (returns-in-Ends-clause-done g c k tells xs h fit is) c.finish.ensures.moved c.requires.none runs
    ∙ transfer_left cl x c.args.wanted s b io is

pub returns-in-Ends-clause-cards : goal.returns-in-Ends-clause-cards
returns-in-Ends-clause-cards g c = c.finish.ensures.cards c.args.acts.now

-- ---- it goes on

pub go_on-requires-clause-bytes : goal.go_on-requires-clause-bytes
go_on-requires-clause-bytes g c = AreBytesOf-at (members_of c.args.members.now) c.args.place c.at.result.now c.args.xfer c.args.io.now c.at.ensures (c.has_bytes.ensures.sizes c.if-not-has_bytes.false)

pub returns-in-GoesOn-clause-done : goal.returns-in-GoesOn-clause-done
returns-in-GoesOn-clause-done g c = λ k tells xs h fit is.
    let cl = c.args.client in
    let x = c.args.xfer in
    let io = c.args.io.now in
    let s = stream_of k xs in
    let q = c.go_on.result in
    let sh = stands-there (members_of c.args.members.now) c.args.place c.at.result.now k tells xs h c.at.ensures in
    let sh' = stands-there (members_of c.args.members.now) c.args.place c.at-2.result.now k tells xs h c.at-2.ensures in
    let size = sized x io s c.has_bytes.result true fit.layout (c.has_bytes.ensures.model s sh) c.if-not-has_bytes.false in
    let comes = goes_to cl x c.args.wanted io s c.becomes.result fate.GoesOn is size (c.becomes.ensures cl x io s sh') c.in-GoesOn.is in
    IsEndedBy-at cl tells (go cl io s) (go_on cl x io (left_by cl s)) k xs c.args.acts.now c.go_on.new.acts q.reply q.first q.moved (members_of c.go_on.new.members) comes (c.go_on.ensures.done k tells xs h (transfer_fits s x fit))

pub returns-in-GoesOn-clause-bytes : goal.returns-in-GoesOn-clause-bytes
returns-in-GoesOn-clause-bytes g c = λ k tells xs b ys h fit is runs.
    let cl = c.args.client in
    let x = c.args.xfer in
    let io = c.args.io.now in
    let s = stream_of k xs in
    let sh = stands-there (members_of c.args.members.now) c.args.place c.at.result.now k tells xs h c.at.ensures in
    let sh' = stands-there (members_of c.args.members.now) c.args.place c.at-2.result.now k tells xs h c.at-2.ensures in
    let size = sized x io s c.has_bytes.result true fit.layout (c.has_bytes.ensures.model s sh) c.if-not-has_bytes.false in
    let comes = goes_to cl x c.args.wanted io s c.becomes.result fate.GoesOn is size (c.becomes.ensures cl x io s sh') c.in-GoesOn.is in
    c.go_on.ensures.bytes k tells xs b ys h (subst (λ (p : Program). RunsTo tells p k xs c.go_on.new.acts b ys) comes runs) ∙ transfer_left cl x c.args.wanted s b io is
