use Rattle.floor_rule.proofs.RollLemmas.{roll_is_whole}
use Rattle.floor_rule.proofs.laws.rolls.Goals as goal

pub returns : goal.returns
returns c = roll_is_whole
