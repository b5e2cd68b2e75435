use Rattle.std.proofs.Common.{true, refl}
use Rattle.pcm_base.specs.declared.reply.Reply.{Reply}
use Rattle.pcm_base.specs.declared.reply.Reply.TheVariants as reply
use Rattle.pcm_base.specs.model.Group.{stream_of}
use Rattle.pcm_base.specs.model.Transfer.{is_whole, misfit, write}
use Rattle.pcm_stream.specs.Members.{members_of}
use Rattle.pcm_group.proofs.AsleepLemmas.{IsEndedBy-of}
use Rattle.pcm_group.proofs.CarryLemmas.{IsEndedBy-told}
use Rattle.pcm_group.proofs.EndedLemmas.{IsEnded-refused, stands-there}
use Rattle.pcm_group.proofs.FaultLemmas.{KeepsCards-same}
use Rattle.pcm_group.proofs.write_read.write.Goals as goal

pub returns-in-Ok-clause-done : goal.returns-in-Ok-clause-done
returns-in-Ok-clause-done g c = λ k tells xs h.
    let s = stream_of k xs in
    c.write_frames.ensures.done k tells xs h (c.in-Ok.ensures.fits s (stands-there (members_of c.args.members.now) c.args.place c.at.result.now k tells xs h c.at.ensures))

pub returns-in-Ok-clause-bytes : goal.returns-in-Ok-clause-bytes
returns-in-Ok-clause-bytes g c = λ k tells xs b ys h runs.
    let s = stream_of k xs in
    c.write_frames.ensures.bytes k tells xs b ys h (c.in-Ok.ensures.fits s (stands-there (members_of c.args.members.now) c.args.place c.at.result.now k tells xs h c.at.ensures)) runs

pub returns-in-Err-clause-done : goal.returns-in-Err-clause-done
returns-in-Err-clause-done g c = λ k tells xs h.
    let cl = c.args.client in
    let s = stream_of k xs in
    let ms = members_of c.args.members.now in
    let old = c.args.acts.now in
    let r : Reply = reply.Err c.in-Err.e in
    let p = write cl c.args.layout c.args.mode c.args.io.now s in
    let refused = c.in-Err.ensures.fits s (stands-there ms c.args.place c.at.result.now k tells xs h c.at.ensures) (is_whole s c.args.io.now) in
    IsEndedBy-told cl tells p p k xs old old c.said.result.reply r c.said.result.first 0 c.said.result.moved 0 ms refl c.said.ensures.reply c.said.ensures.first c.said.ensures.moved
    (IsEndedBy-of cl tells p k xs old old r 0 0 ms (λ e. let no : ⊥ = cc in no) c.requires.free
    (IsEnded-refused tells (misfit s true c.args.layout (is_whole s c.args.io.now)) _ c.in-Err.e k xs old ms c.args.place h refused))

pub returns-in-Err-clause-cards : goal.returns-in-Err-clause-cards
returns-in-Err-clause-cards g c = KeepsCards-same c.args.acts.now (members_of c.args.members.now)
