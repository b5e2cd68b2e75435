use Rattle.std.proofs.Common.{rules}
use Rattle.live_top.proofs.Given.{all_given}
use Rattle.live_top.proofs.workers.work_all.Goals as goal

pub returns : goal.returns
returns g c = all_given _ _ _ (λ x r k. search rules) c.args.jobs c.map_vec.result c.map_vec.ensures.len c.map_vec.ensures.each
