use Rattle.std.proofs.Common.{rules, append_assoc}
use Rattle.pcm_text.proofs.fault.bad_line_text.Goals as goal

pub returns : goal.returns
returns c = search (rules, append_assoc)
