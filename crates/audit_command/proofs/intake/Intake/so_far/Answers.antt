use Rattle.audit_command.proofs.Cutting.{taken_so_far}
use Rattle.audit_command.proofs.intake.Intake.so_far.Goals as goal

pub returns : goal.returns
returns c = λ limits bytes t. taken_so_far limits bytes c.args.self _ t c.so_far.ensures.comes c.so_far.ensures.bad
