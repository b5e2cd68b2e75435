use Rattle.std.proofs.Common.{◌≤◌, length, arith}
use Rattle.pcm_text.proofs.LengthLemmas.{short-errno}
use Rattle.pcm_text.proofs.reply.write_errno_before.Goals as goal

pub write_before-name-requires-clause-room : goal.write_before-name-requires-clause-room
write_before-name-requires-clause-room c =
    let name : length c.errno_name.result.now ≤ 8 = rw c.errno_name.ensures (short-errno c.args.errno) in
    omega (arith, name, c.as_bytes.ensures.len, c.requires.room, c.write_counted_before-number.ensures.start)

pub write_before-requires-clause-room : goal.write_before-requires-clause-room
write_before-requires-clause-room c =
    let name : length c.errno_name.result.now ≤ 8 = rw c.errno_name.ensures (short-errno c.args.errno) in
    omega (arith, name, c.as_bytes.ensures.len, c.requires.room, c.write_counted_before-number.ensures.start, c.write_before-name.ensures.start)

pub returns-clause-start : goal.returns-clause-start
returns-clause-start c =
    let name : length c.errno_name.result.now ≤ 8 = rw c.errno_name.ensures (short-errno c.args.errno) in
    omega (arith, name, c.as_bytes.ensures.len, c.write_counted_before-number.ensures.start, c.write_before-name.ensures.start, c.write_before.ensures.start)
