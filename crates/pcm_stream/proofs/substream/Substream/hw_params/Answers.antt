use Rattle.std.proofs.Common.{◌≡◌, ℕ, true, None, Err, ◌∙◌, ap, subst}
use Rattle.pcm_base.specs.declared.call.CallKind.TheVariants as kind
use Rattle.pcm_base.specs.declared.config.CardModel.{CardModel}
use Rattle.pcm_base.specs.declared.state.Errno.{Errno}
use Rattle.pcm_base.specs.model.Allowed.{accepts, shape_of}
use Rattle.pcm_stream.specs.SetUp.{hw_refusal}
use Rattle.pcm_stream.specs.declared.substream.HwRefusal.TheVariants as refusal
use Rattle.pcm_stream.proofs.CardLemmas.{allowed-unmapped}
use Rattle.pcm_stream.proofs.substream.Substream.hw_params.Goals as goal

pub returns-in-Ok-new-clause-ok : goal.returns-in-Ok-new-clause-ok
returns-in-Ok-new-clause-ok g c s h =
    let allowed : hw_refusal c.args.busy s ≡ None = c.in_default.ensures s h in
    let model : c.model.result.now ≡ s.model = c.model.ensures.value ∙ h.shows.model in
    let accepted : accepts s.model s.long_max c.args.config.now ≡ true =
    subst (λ (m : CardModel). accepts m s.long_max c.args.config.now ≡ true) model
    (subst (λ (n : ℕ). accepts c.model.result.now n c.args.config.now ≡ true) h.shows.long_max c.in-Ok.ensures.ok) in
    let shape : c.in-Ok.shape ≡ shape_of c.args.config.now s.long_max = c.in-Ok.ensures.shape ∙ ap (shape_of c.args.config.now) h.shows.long_max in
    (allowed, accepted, c.take_up.ensures.model s c.args.config.now h accepted shape (allowed-unmapped kind.HwParams c.args.busy s allowed) c.in-Ok-new.ensures)

pub returns-in-Err-check-clause-einval : goal.returns-in-Err-check-clause-einval
returns-in-Err-check-clause-einval g c s h allowed unfit =
    (ap (λ (e : Errno). Err (refusal.Errno e)) c.in-Err-check.ensures.einval, c.free.ensures.model s h (allowed-unmapped kind.HwParams c.args.busy s allowed))
