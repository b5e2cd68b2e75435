use Rattle.std.proofs.Common.{length, refl}
use Rattle.pcm_base.specs.declared.call.Call.TheVariants as call
use Rattle.pcm_base.specs.declared.reply.Reply.TheVariants as reply
use Rattle.pcm_base.specs.model.Events.{event, hands}
use Rattle.pcm_base.specs.model.Transfer.{frames_in}
use Rattle.pcm_stream.specs.Buffer.{with_to_give}
use Rattle.pcm_group.specs.Lent.{give_refusal}
use Rattle.pcm_group.proofs.EndedLemmas.{IsOwnEnd-at, allowed-is, keeps-same}
use Rattle.pcm_group.proofs.mapped.give.Goals as goal

pub returns-in-Ok-clause-done : goal.returns-in-Ok-clause-done
returns-in-Ok-clause-done g c client linked s h n =
    let io = c.args.frames.now in
    let t = with_to_give (frames_in s io) s in
    IsOwnEnd-at s (event call.Give client linked io s) (hands reply.Ok (frames_in s io) t) reply.Ok 0 (length (frames_in s io)) c.give.new.self
    (allowed-is (give_refusal io s) s (hands reply.Ok (frames_in s io) t) (c.in_default.ensures.answer s h))
    (refl, refl, refl, keeps-same s t refl refl refl, c.in-Ok.ensures.given s h)
