use Rattle.std.proofs.Common.{◌≡◌, [], false, refl}
use Rattle.pcm_base.specs.declared.reply.Reply.TheVariants as reply
use Rattle.pcm_base.specs.declared.state.State.TheVariants.{Setup}
use Rattle.pcm_base.specs.model.Events.{setup_of}
use Rattle.play_record.specs.Stages.{device_at, long_max, opened_with}
use Rattle.play_record.proofs.PlayEvents.{plain}
use Rattle.play_record.proofs.SetupEvents.{goes-hw_params}
use Rattle.play_record.proofs.device.set_up.Goals as goal

pub returns-in-Ok-clause-ok : goal.returns-in-Ok-clause-ok
returns-in-Ok-clause-ok g c = λ d puts at.
    let config = c.args.config.now in
    (c.step.ensures.goes (opened_with d puts) (device_at d (setup_of config long_max) Setup false 0 0 0 [] [] []) (plain reply.Ok) at
    (goes-hw_params (record { 0 = 0 }) [] d config puts c.requires.accepted) refl (λ e. absurd (cc))).1
