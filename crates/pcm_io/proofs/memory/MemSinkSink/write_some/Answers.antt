use Rattle.std.proofs.Common.{inl, inr, arith}
use Rattle.std.proofs.lemmas.Grind.{common_steps}
use Rattle.pcm_io.proofs.memory.MemSinkSink.write_some.Goals as goal
use Rattle.pcm_io.proofs.memory.MemSinkSink.write_some.Goals.{then-contains-via-then-contains, then-contains-via-else-contains+then-is_err}

-- the call is listed, or the bytes had to grow
pub returns-then-contains-clause-grows : goal.returns-then-contains-clause-grows
returns-then-contains-clause-grows c = elim c.then-contains.branch [
  | then-contains-via-then-contains w ↦ inl (grind (arith, common_steps))
  | then-contains-via-else-contains+then-is_err w ↦ inr (grind (arith, common_steps))
]
