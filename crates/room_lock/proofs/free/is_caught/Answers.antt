use Rattle.std.proofs.Common.{sym, ◌∙◌}
use Rattle.room_lock.proofs.MemberLemmas.{no_client, none_some}
use Rattle.room_lock.proofs.free.is_caught.Goals as goal

pub returns : goal.returns
returns c = λ none own. no_client c.args.client c.args.member.now.sleepers (sym c.task.ensures ∙ none_some c.task.result (sym c.is_some.ensures ∙ none))
