use Rattle.pcm_laws.proofs.Shapes.{IsSoundShape-shape_of}
use Rattle.pcm_laws.proofs.pointer.shapes.Goals as goal

pub returns : goal.returns
returns c = IsSoundShape-shape_of
