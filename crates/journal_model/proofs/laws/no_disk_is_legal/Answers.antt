use Rattle.std.proofs.Common.{refl}
use Rattle.std.specs.Fmt.{digits}
use Rattle.journal_model.proofs.laws.no_disk_is_legal.Goals as goal

pub returns-clause-printed : goal.returns-clause-printed
unfolding digits
returns-clause-printed c = refl
