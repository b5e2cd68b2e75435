use Rattle.std.proofs.Common.{◌≡◌, ◌*◌, ◌%◌, sym, ◌∙◌}
use Rattle.std.proofs.Math.Nat.{mul-mod_left}
use Rattle.pcm_base.specs.declared.config.Shape.{Shape}
use Rattle.pcm_stream.proofs.StreamLemmas.{for_some}
use Rattle.pcm_stream.proofs.runtime.Runtime.receive.Goals as goal

pub give_front-requires-clause-whole : goal.give_front-requires-clause-whole
give_front-requires-clause-whole g c x is =
    let w = c.args.self.now.shape.frame_bytes in
    for_some (λ (y : Shape). c.args.count * w % y.frame_bytes ≡ 0) c.args.self.now.shape (mul-mod_left c.args.count w) x (sym c.requires.set_up ∙ is)
