use Rattle.std.proofs.Common.{◌++◌, take, arith}
use Rattle.std.proofs.lemmas.Grind.{common_steps}
use Rattle.pcm_io.proofs.Taken.{consumes_more}
use Rattle.pcm_io.proofs.reading.read_to_limit.Goals as goal

-- what was read stands in `bytes` and in the piece for which there was no memory
pub returns-in_default-extend_from_slice-clause-lost :
    goal.returns-in_default-extend_from_slice-clause-lost
returns-in_default-extend_from_slice-clause-lost g c =
    let read = c.pieces.bytes.items in
    let more = take c.in-Ok.count c.read.new.into in
    (read ++ more, grind (arith, common_steps), consumes_more _ _ _ read more c.pieces.invariant.bytes c.in-Ok.ensures.bytes.0)
