use Rattle.std.proofs.Common.{ap, ◌∙◌}
use Rattle.pcm_stream.specs.Members.{members_of}
use Rattle.pcm_group.proofs.EndedLemmas.{stands-there}
use Rattle.pcm_group.proofs.events.card_runs.Goals as goal

pub returns : goal.returns
returns g c k tells xs h = c.runs.ensures ∙ ap (λ f. f.runs) c.card.ensures.card ∙ (stands-there (members_of c.args.members.now) c.args.place c.at.result.now k tells xs h c.at.ensures).runs
