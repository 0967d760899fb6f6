use Rattle.std.proofs.Common.{refl}
use Rattle.std.specs.Fmt.{digits}
use Rattle.special_bin.proofs.laws.audit_laws.worked_findings.Goals as goal

pub returns-clause-wrong : goal.returns-clause-wrong
unfolding digits
returns-clause-wrong c = refl
