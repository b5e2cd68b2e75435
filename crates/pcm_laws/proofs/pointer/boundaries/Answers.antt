use Rattle.pcm_laws.proofs.Shapes.{boundary_of-again}
use Rattle.pcm_laws.proofs.Sizes.{boundary_of-times, boundary_of-whole, boundary_of-room, boundary_of-most}
use Rattle.pcm_laws.proofs.pointer.boundaries.Goals as goal

pub returns-clause-doubled : goal.returns-clause-doubled
returns-clause-doubled c = boundary_of-times

pub returns-clause-whole : goal.returns-clause-whole
returns-clause-whole c = boundary_of-whole

pub returns-clause-two : goal.returns-clause-two
returns-clause-two c = boundary_of-room

pub returns-clause-one_more : goal.returns-clause-one_more
returns-clause-one_more c = boundary_of-most

pub returns-clause-own : goal.returns-clause-own
returns-clause-own c = boundary_of-again
