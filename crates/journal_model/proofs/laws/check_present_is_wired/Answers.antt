use Rattle.std.proofs.Common.{refl}
use Rattle.std.specs.Fmt.{digits}
use Rattle.journal_model.proofs.laws.check_present_is_wired.Goals as goal

pub returns-clause-printed : goal.returns-clause-printed
unfolding digits
returns-clause-printed c = refl

pub returns-clause-foul : goal.returns-clause-foul
unfolding digits
returns-clause-foul c = refl
