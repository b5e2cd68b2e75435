use Rattle.floor_rule.proofs.TellingLemmas.{calls_stand_once, own_entries_are_calls}
use Rattle.floor_rule.proofs.laws.entries.Goals as goal

pub returns-clause-once : goal.returns-clause-once
returns-clause-once c = calls_stand_once

pub returns-clause-own : goal.returns-clause-own
returns-clause-own c = own_entries_are_calls
