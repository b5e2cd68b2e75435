use Rattle.std.proofs.Common.{ℕ, ◌*◌, sym, subst, arith}
use Rattle.pcm_base.specs.Shape.{IsSoundShape}
use Rattle.hw_params.proofs.Checks.{sound-of}
use Rattle.hw_params.proofs.accept.check.Goals as goal

pub returns-clause-sound : goal.returns-clause-sound
returns-clause-sound c =
    let d = c.args.config.now in
    let boundary = c.boundary_of.result in
    let sound = sound-of c.args.model.now d c.args.long_max boundary c.requires.channels c.requires.long_max (c.allows.ensures.0 c.if-not-allows.false) c.if-buffer-long_max.false
    (record { doublings = c.boundary_of.ensures.doublings; room = c.boundary_of.ensures.room (omega arith); greatest = c.boundary_of.ensures.greatest }) in
    subst (λ (width : ℕ). IsSoundShape (record { frame_bytes = width * d.channels; channels = d.channels; period = d.period; periods = d.periods; buffer = d.period * d.periods; boundary = boundary }))
    (sym c.width.ensures.is) sound
