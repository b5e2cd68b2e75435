use Rattle.std.proofs.Common.{◌≡◌, true, ◌∙◌, ap}
use Rattle.pcm_base.specs.declared.act.Act.TheVariants as act
use Rattle.pcm_base.specs.declared.call.Mode.{Mode}
use Rattle.pcm_base.specs.declared.call.Mode.TheVariants as mode
use Rattle.pcm_base.specs.declared.reply.Reply.TheVariants as reply
use Rattle.pcm_base.specs.declared.sleeper.Task.TheVariants as task
use Rattle.pcm_base.specs.declared.state.Errno.TheVariants as errno
use Rattle.pcm_base.specs.model.Acts.{members_after}
use Rattle.pcm_base.specs.model.Events.{watch}
use Rattle.pcm_base.specs.model.Group.{stream_of}
use Rattle.pcm_base.specs.model.Program.{fails, says}
use Rattle.pcm_base.specs.model.Stream.{Waiting}
use Rattle.pcm_base.specs.model.Transfer.{sleeping}
use Rattle.pcm_stream.specs.Members.{members_of}
use Rattle.pcm_group.specs.Waiting.{calls_of, is_free}
use Rattle.pcm_group.proofs.AsleepLemmas.{IsEndedBy-asleep, IsEndedBy-at, IsEndedBy-done, IsEndedBy-of, IsEndedBy-then, drained, free_at, set_up_after, watch_done, watch_waits}
use Rattle.pcm_group.proofs.EndedLemmas.{IsEnded-at, IsEnded-done, IsEnded-not_done, IsEnded-says, IsEnded-then}
use Rattle.pcm_group.proofs.PlaceLemmas.{calls-fixed, numbers-fixed}
use Rattle.pcm_group.proofs.FaultLemmas.{KeepsCards-then}
use Rattle.pcm_group.proofs.events.drain_now.Goals as goal

pub returns-in-Err-clause-done : goal.returns-in-Err-clause-done
returns-in-Err-clause-done g c = λ k tells xs h set_up.
    let made = c.in-Err.ensures.made c.args.place k tells xs h in
    let ms = members_of c.make.new.members in
    let free : is_free c.args.client (calls_of ms) ≡ true = ap (is_free c.args.client) (calls-fixed (members_of c.args.members.now) ms c.make.ensures.fixed) ∙ c.requires.free in
    IsEndedBy-of c.args.client tells _ k xs c.args.acts.now c.make.new.acts (reply.Err c.in-Err.e) 0 0 ms (λ e. let no : ⊥ = cc in no) free
    (IsEnded-not_done tells act.Drain (drained c.args.client c.args.mode) c.args.place k xs c.args.acts.now c.make.new.acts _ c.in-Err.e ms h.distinct made made.answer)

pub fall_asleep-requires-clause-free : goal.fall_asleep-requires-clause-free
fall_asleep-requires-clause-free g c = λ m at.
    let ms = members_of c.make-in-Block.new.members in
    let same = calls-fixed (members_of c.args.members.now) ms (c.make-in-Block.ensures.fixed ∙ c.make.ensures.fixed) in
    free_at c.args.client ms c.args.place m at (ap (is_free c.args.client) same ∙ c.requires.free)

pub returns-in-NonBlock-clause-done : goal.returns-in-NonBlock-clause-done
returns-in-NonBlock-clause-done g c = λ k tells xs h set_up.
    let made = c.in_default.ensures.made c.args.place k tells xs h in
    let ms = members_of c.make.new.members in
    let ys = members_after made.acted xs in
    let free : is_free c.args.client (calls_of ms) ≡ true = ap (is_free c.args.client) (calls-fixed (members_of c.args.members.now) ms c.make.ensures.fixed) ∙ c.requires.free in
    IsEndedBy-of c.args.client tells _ k xs c.args.acts.now c.make.new.acts (reply.Err errno.Eagain) 0 0 ms (λ e. let no : ⊥ = cc in no) free
    (IsEnded-done tells act.Drain (drained c.args.client c.args.mode) c.args.place k xs c.args.acts.now c.make.new.acts c.make.new.acts _ ms ms (reply.Err errno.Eagain) 0 0 h.distinct made made.answer
    (IsEnded-at tells (drained c.args.client c.args.mode (stream_of k ys)) (fails errno.Eagain (stream_of k ys)) k ys c.make.new.acts c.make.new.acts (reply.Err errno.Eagain) 0 0 ms
    (ap (λ (w : Mode). drained c.args.client w (stream_of k ys)) c.in-NonBlock.is) (IsEnded-says tells k ys c.make.new.acts (reply.Err errno.Eagain) ms c.args.place made.now)))

pub returns-in-Ok-clause-done : goal.returns-in-Ok-clause-done
returns-in-Ok-clause-done g c = λ k tells xs h set_up.
    let made = c.in_default.ensures.made c.args.place k tells xs h in
    let ys = members_after made.acted xs in
    let watched = c.in-Ok.ensures.made c.args.place k tells ys made.now in
    let zs = members_after watched.acted ys in
    let t = stream_of k ys in
    let ms = members_of c.make.new.members in
    let ns = members_of c.make-in-Block.new.members in
    let free : is_free c.args.client (calls_of ns) ≡ true = ap (is_free c.args.client) (calls-fixed (members_of c.args.members.now) ns (c.make-in-Block.ensures.fixed ∙ c.make.ensures.fixed)) ∙ c.requires.free in
    IsEndedBy-of c.args.client tells _ k xs c.args.acts.now c.make-in-Block.new.acts reply.Ok 0 0 ns (λ e. let no : ⊥ = cc in no) free
    (IsEnded-done tells act.Drain (drained c.args.client c.args.mode) c.args.place k xs c.args.acts.now c.make.new.acts c.make-in-Block.new.acts _ ms ns reply.Ok 0 0 h.distinct made made.answer
    (IsEnded-at tells (drained c.args.client c.args.mode t) (drained c.args.client mode.Block t) k ys c.make.new.acts c.make-in-Block.new.acts reply.Ok 0 0 ns (ap (λ (w : Mode). drained c.args.client w t) c.in-Block.is)
    (IsEnded-then tells act.Watch (watch c.args.client t) c.args.place k ys c.make.new.acts c.make-in-Block.new.acts c.make-in-Block.new.acts _ ns ns reply.Ok 0 0 made.now.distinct watched
    (IsEnded-at tells (watch c.args.client t watched.acted.outcome (stream_of k zs)) (says reply.Ok (stream_of k zs)) k zs c.make-in-Block.new.acts c.make-in-Block.new.acts reply.Ok 0 0 ns (watch_done c.args.client t watched.acted.outcome (stream_of k zs) watched.answer)
    (IsEnded-says tells k zs c.make-in-Block.new.acts reply.Ok ns c.args.place watched.now)))))

pub returns-in-Err-make-clause-done : goal.returns-in-Err-make-clause-done
returns-in-Err-make-clause-done g c = λ k tells xs h set_up.
    let made = c.in_default.ensures.made c.args.place k tells xs h in
    let ys = members_after made.acted xs in
    let watched = c.in-Err-make.ensures.made c.args.place k tells ys made.now in
    let zs = members_after watched.acted ys in
    let t = stream_of k ys in
    let p : Waiting = record { client = c.args.client; task = task.Drain } in
    let ms = members_of c.make.new.members in
    let ns = members_of c.make-in-Block.new.members in
    let os = members_of c.fall_asleep.new.members in
    let acts = c.make-in-Block.new.acts in
    let fits = set_up_after watched.acted k ys (set_up_after made.acted k xs set_up) in
    IsEndedBy-done c.args.client tells act.Drain (drained c.args.client c.args.mode) c.args.place k xs c.args.acts.now c.make.new.acts acts _ ms os reply.Asleep 0 0 h.distinct made made.answer
    (IsEndedBy-at c.args.client tells (drained c.args.client c.args.mode t) (drained c.args.client mode.Block t) k ys c.make.new.acts acts reply.Asleep 0 0 os (ap (λ (w : Mode). drained c.args.client w t) c.in-Block.is)
    (IsEndedBy-then c.args.client tells act.Watch (watch c.args.client t) c.args.place k ys c.make.new.acts acts acts _ ns os reply.Asleep 0 0 made.now.distinct watched
    (IsEndedBy-at c.args.client tells (watch c.args.client t watched.acted.outcome (stream_of k zs)) (says reply.Asleep (sleeping p (stream_of k zs))) k zs acts acts reply.Asleep 0 0 os (watch_waits c.args.client t watched.acted.outcome (stream_of k zs) _ watched.answer)
    (IsEndedBy-asleep c.args.client tells (sleeping p (stream_of k zs)) k zs acts os (c.fall_asleep.ensures.asleep k tells zs watched.now fits)))))

pub returns-in-Err-clause-numbers : goal.returns-in-Err-clause-numbers
returns-in-Err-clause-numbers g c = numbers-fixed (members_of c.args.members.now) (members_of c.make.new.members) c.make.ensures.fixed

pub returns-in-NonBlock-clause-numbers : goal.returns-in-NonBlock-clause-numbers
returns-in-NonBlock-clause-numbers g c = numbers-fixed (members_of c.args.members.now) (members_of c.make.new.members) c.make.ensures.fixed

pub returns-in-Ok-clause-numbers : goal.returns-in-Ok-clause-numbers
returns-in-Ok-clause-numbers g c = numbers-fixed (members_of c.args.members.now) (members_of c.make-in-Block.new.members) (c.make-in-Block.ensures.fixed ∙ c.make.ensures.fixed)

pub returns-in-Err-make-clause-numbers : goal.returns-in-Err-make-clause-numbers
returns-in-Err-make-clause-numbers g c = c.fall_asleep.ensures.numbers ∙ numbers-fixed (members_of c.args.members.now) (members_of c.make-in-Block.new.members) (c.make-in-Block.ensures.fixed ∙ c.make.ensures.fixed)

pub returns-in-Ok-clause-cards : goal.returns-in-Ok-clause-cards
returns-in-Ok-clause-cards g c =
    KeepsCards-then c.args.acts.now c.make.new.acts c.make-in-Block.new.acts (members_of c.args.members.now) (members_of c.make.new.members) (members_of c.make-in-Block.new.members)
    c.make.ensures.cards c.make-in-Block.ensures.cards

pub returns-in-Err-make-clause-cards : goal.returns-in-Err-make-clause-cards
returns-in-Err-make-clause-cards g c =
    let ms = members_of c.args.members.now in
    let ns = members_of c.make-in-Block.new.members in
    let new = c.make-in-Block.new.acts in
    KeepsCards-then c.args.acts.now new new ms ns (members_of c.fall_asleep.new.members)
    (KeepsCards-then c.args.acts.now c.make.new.acts new ms (members_of c.make.new.members) ns c.make.ensures.cards c.make-in-Block.ensures.cards) (c.fall_asleep.ensures.cards new)
