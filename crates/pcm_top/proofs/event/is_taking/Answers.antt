use Rattle.std.proofs.Common.{◌∙◌, ◌&&◌, ap, sym}
use Rattle.pcm_base.specs.declared.call.Call.{Call}
use Rattle.pcm_base.specs.model.Words.{is_playback}
use Rattle.pcm_base.specs.model.World.{stream_in}
use Rattle.pcm_world.specs.Shown.{is_movement}
use Rattle.pcm_top.proofs.SessionLemmas.{plays-undeclared}
use Rattle.pcm_top.proofs.event.is_taking.Goals as goal

pub returns-in-None : goal.returns-in-None
returns-in-None c = λ w is.
    let k = c.args.event.now.sub in
    sym (ap (λ (e : Call). is_movement e && is_playback (stream_in k w).dir) c.in-MoveBy.is ∙ plays-undeclared k w (sym (c.in-None.ensures.none w is)))
