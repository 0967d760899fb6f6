-- What a task of its work may note.
use Rattle.std.proofs.Common.{◌≡◌, refl, true, Some}
use Rattle.journal_model.specs.Legality.{may_note as can_note}
use Rattle.task_text.specs.declared.task.Task.{Task}
use Rattle.task_text.specs.declared.task.Work.{Work}
use Rattle.task_text.specs.declared.task.Work.TheVariants.{Store, Drop}
use Rattle.task_model.specs.Ran.{may_note}

-- the journal lets a task note as its work does
pub notes_as_its_work : (task : Task) → may_note task.work ≡ true → can_note (Some task) ≡ true
notes_as_its_work task h = by_work task.work h
  where
    by_work : (work : Work) → may_note work ≡ true → can_note (Some record { work = work; key = task.key; file = task.file; name = task.name; onto = task.onto }) ≡ true
    by_work Store h = refl
    by_work Drop h = refl
    by_work _ h = cc
