use Rattle.std.proofs.Common.{◌∙◌}
use Rattle.journal_look.proofs.Opening.{task_open_here}
use Rattle.journal_look.proofs.jobs.has_open_job.Goals as goal

pub returns : goal.returns
returns c past are = c.has_task.ensures ∙ task_open_here past c.args.jobs.now c.args.task are
