use Rattle.task_text.proofs.Spelled.{read_back, at_most_one, spelled, no_fault}
use Rattle.task_text.proofs.line.read_task.Goals as goal

pub returns-clause-back : goal.returns-clause-back
returns-clause-back c = λ task spells. read_back c.args.line.now task c.read_parts.result c.read_parts.ensures spells

pub returns-clause-at_most_one : goal.returns-clause-at_most_one
returns-clause-at_most_one c = at_most_one c.args.line.now

pub returns-clause-right : goal.returns-clause-right
returns-clause-right c = (spelled c.args.line.now, λ some. no_fault c.args.line.now some.0 some.1)
