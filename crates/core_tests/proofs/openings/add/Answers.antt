use Rattle.std.proofs.Common.{All, subst, sym}
use Rattle.task_text.specs.TaskLines.{IsTask}
use Rattle.core_tests.proofs.Adding.{one_more}
use Rattle.core_tests.proofs.openings.add.Goals as goal

pub returns-in_ok-push-in-Ok-clause-fit : goal.returns-in_ok-push-in-Ok-clause-fit
returns-in_ok-push-in-Ok-clause-fit c =
    subst (All IsTask) (sym c.in_ok-push-in-Ok.ensures.items) (one_more c.args.list.now.items c.in-Ok.task c.args.line.now c.requires.fit c.in-Ok.ensures.reading)
