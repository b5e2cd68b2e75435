use Rattle.hw_params.proofs.MaskLaws.{in-accesses}
use Rattle.hw_params.proofs.masks.accesses_in.Goals as goal

pub returns : goal.returns
returns c = in-accesses c.args.mask
