use Rattle.journal_model.proofs.Working.{tasks_kept, claimed_once, idle_shut}
use Rattle.journal_model.proofs.task_laws.tasks_are_their_claimers.Goals as goal

pub returns : goal.returns
returns c = record { once = claimed_once; own = λ o journal l. (tasks_kept o journal l).own; shut = idle_shut }
