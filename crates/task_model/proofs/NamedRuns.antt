-- A run depends on the names of its task only where it is one of an export.
use Rattle.std.proofs.Common.{◌≡◌, ℕ, false, List, []}
use Rattle.std.specs.Prelude.{Option, Some, None, IfSome}
use Rattle.ann_key.specs.Keys.{Parts, key_reading}
use Rattle.task_text.specs.Works.{has_name}
use Rattle.task_text.specs.declared.task.Task.{Task}
use Rattle.task_text.specs.declared.task.Work.{Work}
use Rattle.task_text.specs.declared.task.Work.TheVariants as W
use Rattle.ann_outside.specs.declared.file_desk.Call.{Call}
use Rattle.journal_model.specs.declared.answer.Answer.{Answer}
use Rattle.task_model.specs.Askers.{Asking, Noting}
use Rattle.task_model.specs.declared.setup.Setup.{Setup}
use Rattle.task_model.specs.declared.turn.TaskTurn.{TaskTurn}
use Rattle.task_model.specs.Runs.{RunOf, TaskRun}

-- the task without its names
abbrev pub nameless : Task → Task
nameless task = record { work = task.work; key = task.key; file = task.file; name = []; onto = [] }

module _ (t : TaskTurn) (setup : Setup) (key : Parts) (layouts : List (ℕ × ℕ)) (asked : List Asking) (calls : List Call) (noted : List Noting) (answer : Answer) where
  run_named : (work : Work) (text file name onto : List ℕ) → has_name work ≡ false
      → RunOf setup t (record { work = work; key = text; file = file; name = []; onto = [] }) key layouts asked calls noted answer
      → RunOf setup t (record { work = work; key = text; file = file; name = name; onto = onto }) key layouts asked calls noted answer
  run_named W.Store text file name onto h r = record {
    asked_till_stop = r.asked_till_stop;
    calls_till_stop = r.calls_till_stop;
    found = r.found;
    work = r.work;
    answered = r.answered;
  }
  run_named W.Get text file name onto h r = record {
    asked_till_stop = r.asked_till_stop;
    calls_till_stop = r.calls_till_stop;
    found = r.found;
    work = r.work;
    answered = r.answered;
  }
  run_named W.Check text file name onto h r = record {
    asked_till_stop = r.asked_till_stop;
    calls_till_stop = r.calls_till_stop;
    found = r.found;
    work = r.work;
    answered = r.answered;
  }
  run_named W.Drop text file name onto h r = record {
    asked_till_stop = r.asked_till_stop;
    calls_till_stop = r.calls_till_stop;
    found = r.found;
    work = r.work;
    answered = r.answered;
  }
  run_named _ text file name onto h r = absurd cc

-- a run of the task without its names is one of the task, where it has no name by its work
pub with_names : (task : Task) (t : TaskTurn) (setup : Setup) (layouts : List (ℕ × ℕ)) (asked : List Asking) (calls : List Call) (noted : List Noting) (answer : Answer)
    → has_name task.work ≡ false → TaskRun (nameless task) t setup layouts asked calls noted answer → TaskRun task t setup layouts asked calls noted answer
with_names task t setup layouts asked calls noted answer plain h = by_key (key_reading task.key) h
  where
    by_key : (o : Option Parts) → IfSome o (λ key. RunOf setup t (nameless task) key layouts asked calls noted answer)
        → IfSome o (λ key. RunOf setup t task key layouts asked calls noted answer)
    by_key None h = h
    by_key (Some key) h = run_named t setup key layouts asked calls noted answer task.work task.key task.file task.name task.onto plain h
