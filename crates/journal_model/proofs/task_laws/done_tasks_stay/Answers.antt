use Rattle.journal_model.proofs.Working.{part_stays}
use Rattle.journal_model.proofs.Standing.{task_stands}
use Rattle.journal_model.proofs.task_laws.done_tasks_stay.Goals as goal

pub returns : goal.returns
returns c = record { untouched = λ o start rest first whole t over. task_stands o start rest first whole t over.0 over.1 over.2; same = part_stays }
