use Rattle.std.proofs.Common.{refl}
use Rattle.audit_command.proofs.Taking.{took_nothing}
use Rattle.audit_command.proofs.intake.Intake.new.Goals as goal

pub returns : goal.returns
returns c = λ limits. took_nothing limits _ refl refl refl c.new.ensures
