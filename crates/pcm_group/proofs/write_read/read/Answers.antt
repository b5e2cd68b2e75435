use Rattle.std.proofs.Common.{false, nat_le, refl}
use Rattle.pcm_base.specs.declared.reply.Reply.{Reply}
use Rattle.pcm_base.specs.declared.reply.Reply.TheVariants as reply
use Rattle.pcm_base.specs.model.Group.{stream_of}
use Rattle.pcm_base.specs.model.Transfer.{misfit, read}
use Rattle.pcm_stream.specs.Members.{members_of}
use Rattle.pcm_group.proofs.AsleepLemmas.{IsEndedBy-of}
use Rattle.pcm_group.proofs.BeginLemmas.{quiet_bytes}
use Rattle.pcm_group.proofs.CarryLemmas.{IsEndedBy-told}
use Rattle.pcm_group.proofs.EndedLemmas.{IsEnded-refused, stands-there}
use Rattle.pcm_group.proofs.FaultLemmas.{KeepsCards-same}
use Rattle.pcm_group.proofs.write_read.read.Goals as goal

pub returns-in-Ok-clause-done : goal.returns-in-Ok-clause-done
returns-in-Ok-clause-done g c = λ k tells xs h long.
    let s = stream_of k xs in
    c.read_frames.ensures.done k tells xs c.in-Ok.field-0 h (c.in-Ok.ensures.fits s (stands-there (members_of c.args.members.now) c.args.place c.at.result.now k tells xs h c.at.ensures)) long

pub returns-in-Ok-clause-bytes : goal.returns-in-Ok-clause-bytes
returns-in-Ok-clause-bytes g c = λ k tells xs b ys h long runs.
    let s = stream_of k xs in
    c.read_frames.ensures.bytes k tells xs c.in-Ok.field-0 b ys h (c.in-Ok.ensures.fits s (stands-there (members_of c.args.members.now) c.args.place c.at.result.now k tells xs h c.at.ensures)) long runs

pub returns-in-Err-clause-done : goal.returns-in-Err-clause-done
returns-in-Err-clause-done g c = λ k tells xs h long.
    let cl = c.args.client in
    let s = stream_of k xs in
    let ms = members_of c.args.members.now in
    let old = c.args.acts.now in
    let r : Reply = reply.Err c.in-Err.e in
    let p = read cl c.args.layout c.args.mode c.args.n s in
    let refused = c.in-Err.ensures.fits s (stands-there ms c.args.place c.at.result.now k tells xs h c.at.ensures) (nat_le c.args.n 1048576) in
    IsEndedBy-told cl tells p p k xs old old c.said.result.reply r c.said.result.first 0 c.said.result.moved 0 ms refl c.said.ensures.reply c.said.ensures.first c.said.ensures.moved
    (IsEndedBy-of cl tells p k xs old old r 0 0 ms (λ e. let no : ⊥ = cc in no) c.requires.free
    (IsEnded-refused tells (misfit s false c.args.layout (nat_le c.args.n 1048576)) _ c.in-Err.e k xs old ms c.args.place h refused))

pub returns-in-Err-clause-bytes : goal.returns-in-Err-clause-bytes
returns-in-Err-clause-bytes g c = λ k tells xs b ys h long runs.
    quiet_bytes c.args.client tells (read c.args.client c.args.layout c.args.mode c.args.n (stream_of k xs)) k xs c.args.acts.now c.args.acts.now c.said.result.reply c.said.result.first c.said.result.moved (members_of c.args.members.now) false c.args.layout (stream_of k xs) c.args.io.now b ys
    (returns-in-Err-clause-done g c k tells xs h long) c.said.ensures.moved c.requires.none runs

pub returns-in-Err-clause-cards : goal.returns-in-Err-clause-cards
returns-in-Err-clause-cards g c = KeepsCards-same c.args.acts.now (members_of c.args.members.now)
