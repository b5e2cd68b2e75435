use Rattle.std.proofs.Common.{◌≡◌, Bool, true, false, [], Result, Ok, Err, OnOk, IfErr, MatchResult, refl, ap, ◌∙◌}
use Rattle.pcm_base.specs.declared.card.Card.{Ghosts}
use Rattle.pcm_base.specs.declared.call.Call.TheVariants as call
use Rattle.pcm_base.specs.declared.ids.ClientId.{ClientId}
use Rattle.pcm_base.specs.declared.reply.Reply.{Reply}
use Rattle.pcm_base.specs.declared.reply.Reply.TheVariants as reply
use Rattle.pcm_base.specs.declared.state.Errno.{Errno}
use Rattle.pcm_base.specs.declared.state.Errno.TheVariants as errno
use Rattle.pcm_base.specs.declared.state.State.TheVariants as state
use Rattle.pcm_base.specs.model.Events.{event}
use Rattle.pcm_base.specs.model.Program.{fails, says}
use Rattle.pcm_base.specs.model.Stream.{Stream}
use Rattle.pcm_base.specs.model.Words.{is_closed}
use Rattle.pcm_stream.specs.declared.substream.Substream.{Substream}
use Rattle.pcm_stream.specs.StandsFor.{StandsFor}
use Rattle.pcm_group.specs.Ended.{IsOwnEnd}
use Rattle.pcm_group.proofs.EndedLemmas.{IsOwnEnd-at, else-is, keeps-itself, keeps-same, then-is}
use Rattle.pcm_group.proofs.OwnLemmas.{Own-says}
use Rattle.pcm_group.proofs.own.open.Goals as goal

-- a closed substream is opened, and another is busy
opens_as : {C : Type 0} {g : Ghosts C} (c : ClientId) (linked : Bool) (s : Stream) (r : Result (Unit {0}) Errno) (q : Reply) (sub : Substream C g)
    → OnOk r ((is_closed s.state ≡ true) × StandsFor sub (record s { state = state.Opened }))
    → IfErr r (λ e. (e ≡ errno.Ebusy) × (is_closed s.state ≡ false) × StandsFor sub s)
    → MatchResult r (λ _. q ≡ reply.Ok) (λ e. q ≡ reply.Err e)
    → IsOwnEnd s (event call.OpenSub c linked [] s) q 0 0 sub
opens_as c linked s (Ok u) q sub ok busy told =
    let t : Stream = record s { state = state.Opened } in
    IsOwnEnd-at s (event call.OpenSub c linked [] s) (says reply.Ok t) q 0 0 sub (then-is (is_closed s.state) (says reply.Ok t) (fails errno.Ebusy s) ok.0)
    (Own-says s t reply.Ok q sub told (keeps-same s t refl refl refl) ok.1)
opens_as c linked s (Err e) q sub ok busy told =
    let t : Stream = record s { state = state.Opened } in
    IsOwnEnd-at s (event call.OpenSub c linked [] s) (fails errno.Ebusy s) q 0 0 sub (else-is (is_closed s.state) (says reply.Ok t) (fails errno.Ebusy s) busy.1)
    (Own-says s s (reply.Err errno.Ebusy) q sub (told ∙ ap reply.Err busy.0) (keeps-itself s) busy.2)

pub returns-clause-done : goal.returns-clause-done
returns-clause-done g c client linked s h = opens_as client linked s c.open_sub.result c.answer.result _ (c.open_sub.ensures.ok s h) (c.open_sub.ensures.busy s h) c.answer.ensures.done
