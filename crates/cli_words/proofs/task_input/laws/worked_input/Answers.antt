use Rattle.std.proofs.Common.{[], ◌∷◌, refl}
use Rattle.std.specs.Prelude.{All, codes}
use Rattle.std.proofs.lemmas.List.Elements.{All-nil, All-push}
use Rattle.task_text.specs.TaskLines.{IsTask}
use Rattle.task_text.specs.declared.task.Task.{Task}
use Rattle.task_text.specs.declared.task.Work.TheVariants.{Check, Drop}
use Rattle.cli_words.specs.TaskInput.Inputs.{AreTasks}
use Rattle.cli_words.specs.TaskInput.Rows.{drop_a, check_b, tasks}
use Rattle.cli_words.proofs.task_input.laws.worked_input.Goals as goal

a : Task
a = record { work = Drop; key = codes "WORM--a"; file = []; name = []; onto = [] }

b : Task
b = record { work = Check; key = codes "WORM--b"; file = []; name = []; onto = [] }

each : All IsTask tasks
unfolding a b
each = All-push IsTask (a ∷ []) b (All-push IsTask [] a (All-nil IsTask) (record { key_class = refl; file_class = refl; name_class = refl; onto_class = refl; apart = refl })) (record { key_class = refl; file_class = refl; name_class = refl; onto_class = refl; apart = refl })

are : AreTasks tasks (drop_a ∷ check_b ∷ [])
are = record { whole = refl; each = each }

pub returns-clause-right : goal.returns-clause-right
returns-clause-right c = (refl, are)

pub returns-clause-unended : goal.returns-clause-unended
returns-clause-unended c = (refl, are)
