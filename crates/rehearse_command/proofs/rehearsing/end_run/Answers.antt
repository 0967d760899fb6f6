use Rattle.rehearse_command.proofs.Running.{answered_as, ends_as}
use Rattle.rehearse_command.proofs.rehearsing.end_run.Goals as goal

pub finish-requires-clause-answered : goal.finish-requires-clause-answered
finish-requires-clause-answered c = answered_as c.args.core.opening c.args.core.journal c.args.ran c.in-Ok.field-0 c.in-Ok.is c.requires.ran

pub returns-in-Ok : goal.returns-in-Ok
returns-in-Ok c =
    ends_as c.args.core.opening c.args.core.journal c.finish.result.journal.entries c.finish.result.answers.items c.finish.result.end c.args.ran c.in-Ok.field-0 c.finish.ensures.journal c.in-Ok.is c.requires.ran c.finish.ensures.finds
