use Rattle.std.proofs.Common.{◌∙◌}
use Rattle.journal_look.proofs.InWay.{busy_for}
use Rattle.journal_look.proofs.tasks.has_busy_task.Goals as goal

pub returns-in-Some : goal.returns-in-Some
returns-in-Some c = c.has_held_task.ensures ∙ busy_for c.args.journal.now.entries c.in-Some.held.now c.args.child c.in-Some.ensures
