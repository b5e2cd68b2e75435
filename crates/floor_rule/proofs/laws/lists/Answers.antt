use Rattle.floor_rule.proofs.TellingLemmas.{both_of_them, log_goes_on, longest_has_all, some_of_them, standing_stays, stands_in_log, telling_goes_on, whole_log_is_longest}
use Rattle.floor_rule.proofs.laws.lists.Goals as goal

pub returns-clause-whole : goal.returns-clause-whole
returns-clause-whole c = whole_log_is_longest

pub returns-clause-some : goal.returns-clause-some
returns-clause-some c = some_of_them

pub returns-clause-both : goal.returns-clause-both
returns-clause-both c = both_of_them

pub returns-clause-grown : goal.returns-clause-grown
returns-clause-grown c = log_goes_on

pub returns-clause-onward : goal.returns-clause-onward
returns-clause-onward c = telling_goes_on

pub returns-clause-longest : goal.returns-clause-longest
returns-clause-longest c = longest_has_all

pub returns-clause-standing : goal.returns-clause-standing
returns-clause-standing c = standing_stays

pub returns-clause-in_log : goal.returns-clause-in_log
returns-clause-in_log c = stands_in_log
