use Rattle.std.proofs.Common.{refl}
use Rattle.std.specs.Fmt.{digits}
use Rattle.mirror_remote.proofs.laws.worked_checks.Goals as goal

pub returns-clause-unknown : goal.returns-clause-unknown
unfolding digits
returns-clause-unknown c = refl

pub returns-clause-unsent : goal.returns-clause-unsent
unfolding digits
returns-clause-unsent c = refl
