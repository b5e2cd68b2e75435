use Rattle.hw_params.proofs.Checks.{tested, passed}
use Rattle.hw_params.proofs.accept.allowed_is_the_test.Goals as goal

pub returns-clause-tested : goal.returns-clause-tested
returns-clause-tested c = tested

pub returns-clause-passed : goal.returns-clause-passed
returns-clause-passed c = passed
