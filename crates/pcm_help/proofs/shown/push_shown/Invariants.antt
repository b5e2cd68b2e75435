use Rattle.std.proofs.Common.{◌≡◌, ◌++◌, take}
use Rattle.pcm_help.specs.Shown.{shown}
use Rattle.pcm_help.proofs.shown.push_shown.Given as goal

abbrev pub invariant-bytes : goal.invariant-bytes
invariant-bytes l = l.text.items ≡ l.fn.text.items ++ shown (take l.byte-index l.bytes)
