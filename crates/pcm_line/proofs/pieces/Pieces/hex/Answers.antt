use Rattle.std.proofs.Common.{arith, Some, None}
use Rattle.pcm_line.proofs.HexFront.{front_rest}
use Rattle.pcm_line.proofs.pieces.Pieces.hex.Goals as goal

pub returns-in_default-2 : goal.returns-in_default-2
returns-in_default-2 c = front_rest c.args.self.now.at c.args.self.now.rest.now None c.in-len1-up.len_at_least (rw c.in_default-2.is at c.in_ok-bytes.ensures)

pub overflow_sub-self : goal.overflow_sub-self
overflow_sub-self c = (front_rest c.args.self.now.at c.args.self.now.rest.now (Some (c.in-Some.bytes.items, c.in-Some.rest.now)) c.in-len1-up.len_at_least (rw c.in-Some.is at c.in_ok-bytes.ensures)).1

pub invariant_of-self : goal.invariant_of-self
invariant_of-self c =
    let g = front_rest c.args.self.now.at c.args.self.now.rest.now (Some (c.in-Some.bytes.items, c.in-Some.rest.now)) c.in-len1-up.len_at_least (rw c.in-Some.is at c.in_ok-bytes.ensures) in
    omega (arith, g.1)

pub returns : goal.returns
returns c =
    let g = front_rest c.args.self.now.at c.args.self.now.rest.now (Some (c.in-Some.bytes.items, c.in-Some.rest.now)) c.in-len1-up.len_at_least (rw c.in-Some.is at c.in_ok-bytes.ensures) in
    rw c.of.ensures g.0
