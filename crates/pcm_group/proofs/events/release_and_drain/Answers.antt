use Rattle.std.proofs.Common.{◌≡◌, true, ◌∙◌, ap}
use Rattle.pcm_base.specs.declared.act.Act.TheVariants as act
use Rattle.pcm_base.specs.declared.reply.Reply.TheVariants as reply
use Rattle.pcm_base.specs.model.Acts.{members_after}
use Rattle.pcm_base.specs.model.Events.{drain_now}
use Rattle.pcm_stream.specs.Members.{members_of}
use Rattle.pcm_group.specs.Waiting.{calls_of, is_free}
use Rattle.pcm_group.proofs.AsleepLemmas.{IsEndedBy-done, IsEndedBy-of, set_up_after}
use Rattle.pcm_group.proofs.EndedLemmas.{IsEnded-not_done}
use Rattle.pcm_group.proofs.PlaceLemmas.{calls-fixed, numbers-fixed}
use Rattle.pcm_group.proofs.FaultLemmas.{KeepsCards-then}
use Rattle.pcm_group.proofs.events.release_and_drain.Goals as goal

pub drain_now-requires-clause-free : goal.drain_now-requires-clause-free
drain_now-requires-clause-free g c =
    ap (is_free c.args.client) (calls-fixed (members_of c.args.members.now) (members_of c.make.new.members) c.make.ensures.fixed) ∙ c.requires.free

pub returns-in-Ok-clause-done : goal.returns-in-Ok-clause-done
returns-in-Ok-clause-done g c = λ k tells xs h set_up.
    let made = c.in-Ok.ensures.made c.args.place k tells xs h in
    let ys = members_after made.acted xs in
    IsEndedBy-done c.args.client tells act.Release (drain_now c.args.client c.args.mode) c.args.place k xs c.args.acts.now c.make.new.acts c.drain_now.new.acts _ (members_of c.make.new.members) (members_of c.drain_now.new.members) c.drain_now.result 0 0 h.distinct made made.answer
    (c.drain_now.ensures.done k tells ys made.now (set_up_after made.acted k xs set_up))

pub returns-in-Err-clause-done : goal.returns-in-Err-clause-done
returns-in-Err-clause-done g c = λ k tells xs h set_up.
    let made = c.in-Err.ensures.made c.args.place k tells xs h in
    let ms = members_of c.make.new.members in
    let free : is_free c.args.client (calls_of ms) ≡ true = ap (is_free c.args.client) (calls-fixed (members_of c.args.members.now) ms c.make.ensures.fixed) ∙ c.requires.free in
    IsEndedBy-of c.args.client tells _ k xs c.args.acts.now c.make.new.acts (reply.Err c.in-Err.e) 0 0 ms (λ e. let no : ⊥ = cc in no) free
    (IsEnded-not_done tells act.Release (drain_now c.args.client c.args.mode) c.args.place k xs c.args.acts.now c.make.new.acts _ c.in-Err.e ms h.distinct made made.answer)

pub returns-in-Ok-clause-numbers : goal.returns-in-Ok-clause-numbers
returns-in-Ok-clause-numbers g c = c.drain_now.ensures.numbers ∙ numbers-fixed (members_of c.args.members.now) (members_of c.make.new.members) c.make.ensures.fixed

pub returns-in-Err-clause-numbers : goal.returns-in-Err-clause-numbers
returns-in-Err-clause-numbers g c = numbers-fixed (members_of c.args.members.now) (members_of c.make.new.members) c.make.ensures.fixed

pub returns-in-Ok-clause-cards : goal.returns-in-Ok-clause-cards
returns-in-Ok-clause-cards g c =
    KeepsCards-then c.args.acts.now c.make.new.acts c.drain_now.new.acts (members_of c.args.members.now) (members_of c.make.new.members) (members_of c.drain_now.new.members)
    c.make.ensures.cards c.drain_now.ensures.cards
