use Rattle.std.proofs.Common.{refl}
use Rattle.std.specs.Fmt.{digits}
use Rattle.info_and_init.proofs.info.laws.worked_answers.Goals as goal

pub returns-clause-cost : goal.returns-clause-cost
unfolding digits
returns-clause-cost c = refl
