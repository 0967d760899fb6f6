-- What follows from a run.
use Rattle.std.specs.Prelude.{ℕ, ◌≡◌, Bool, true, false, List, [], ◌∷◌, Some}
use Rattle.ann_key.specs.Keys.{Parts, key_reading}
use Rattle.ann_digest.specs.Fits.{FitsKey}
use Rattle.ann_outside.specs.declared.file_desk.Call.{Call}
use Rattle.journal_model.specs.declared.answer.Answer.TheVariants.{Got}
use Rattle.task_text.specs.declared.task.Task.{Task}
use Rattle.task_text.specs.declared.task.Work.{Work}
use Rattle.task_text.specs.declared.task.Work.TheVariants.{Get, XGet}
use Rattle.task_model.specs.Askers.{Asking, Noting}
use Rattle.task_model.specs.declared.setup.Setup.{Setup}
use Rattle.task_model.specs.declared.turn.TaskTurn.{TaskTurn}
use Rattle.task_model.specs.Layouts.{sizes_tried}
use Rattle.task_model.specs.Gets.{checked}
use Rattle.task_model.specs.Runs.{TaskRun}

-- the task gets content, in a layout or under a name
abbrev pub is_get : Work → Bool
is_get Get = true
is_get XGet = true
is_get _ = false

-- the chunk sizes of the layouts that it tries: under a name the plain one alone
abbrev pub sizes_got : Work → Parts → List (ℕ × ℕ) → List ℕ
sizes_got XGet key layouts = 0 ∷ []
sizes_got work key layouts = sizes_tried key layouts

-- the task gets, and all that was read of part and of the fetched files, in their order, fits the key
pub record IsGot (task : Task) (t : TaskTurn) (setup : Setup) (layouts : List (ℕ × ℕ)) (asked : List Asking) (calls : List Call) (key : Parts) : Type 0 where
  pub work : is_get task.work ≡ true
  pub fits : FitsKey key (checked setup t task.file (sizes_got task.work key layouts) asked calls)

-- Got is answered by a get alone, in a layout or under a name, and only where what was read fits the key.
abbrev pub GotNeedsFit : Type 0
GotNeedsFit =
    (task : Task) (t : TaskTurn) (setup : Setup) (layouts : List (ℕ × ℕ)) (asked : List Asking) (calls : List Call) (noted : List Noting) (key : Parts)
    → key_reading task.key ≡ Some key → TaskRun task t setup layouts asked calls noted Got → IsGot task t setup layouts asked calls key
