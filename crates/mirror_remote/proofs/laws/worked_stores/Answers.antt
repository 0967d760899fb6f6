use Rattle.std.proofs.Common.{refl}
use Rattle.std.specs.Fmt.{digits}
use Rattle.mirror_remote.proofs.laws.worked_stores.Goals as goal

pub returns-clause-ended : goal.returns-clause-ended
unfolding digits
returns-clause-ended c = refl

pub returns-clause-text : goal.returns-clause-text
unfolding digits
returns-clause-text c = refl

pub returns-clause-unsupported : goal.returns-clause-unsupported
unfolding digits
returns-clause-unsupported c = refl
