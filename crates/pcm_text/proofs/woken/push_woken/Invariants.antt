use Rattle.std.proofs.Common.{◌≡◌, ◌++◌}
use Rattle.pcm_text.proofs.WokenLemmas.{texts_below}
use Rattle.pcm_text.proofs.woken.push_woken.Given as goal

abbrev pub invariant-clients : goal.invariant-clients
invariant-clients l = l.text.items ≡ l.initial.text.items ++ texts_below l.woken l.client
