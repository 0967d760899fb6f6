-- A run of a task as a journal has it.
use Rattle.std.specs.Prelude.{ℕ, ◌≡◌, not, Bool, true, List, Some}
use Rattle.std.specs.List.{list_any}
use Rattle.task_text.specs.declared.task.Task.{Task}
use Rattle.journal_model.specs.declared.entry.Entry.{Entry}
use Rattle.journal_model.specs.declared.opening.Opening.{Opening}
use Rattle.journal_model.specs.Legality.{job_for, task_of, turn_of_task}
use Rattle.journal_model.specs.Journal.{each_of, is_open}
use Rattle.journal_model.specs.Notes.{AreCurrentAt}
use Rattle.ann_outside.specs.declared.file_desk.Call.{Call}
use Rattle.task_model.specs.declared.setup.Setup.{Setup}
use Rattle.task_model.specs.Askings.{TaskStretch, run_turn, run_askings, run_notings}
use Rattle.task_model.specs.Runs.{TaskRun}

-- no job that the run asked is open in the journal
abbrev pub is_shut : {journal : List Entry} → {t : ℕ} → TaskStretch journal t → Bool
is_shut {journal} {t} run = not (list_any (λ (job : ℕ × ℕ). is_open journal job.0 job.1) (each_of (job_for t) run.within))

-- The journal has a run of turn k of task t by this number: from its claim to its answer, or to the entry that it is to be run again,
-- the task asked and noted what Task run says of it, where the remote was known to have the key in these layouts when it was claimed;
-- these were its desk's calls, and each request has its verdict.
pub record JournalRun (o : Opening) (setup : Setup) (calls : List Call) (number t k : ℕ) (journal : List Entry) : Type 0 where
  pub task : Task
  pub is : task_of o t ≡ Some task
  pub run : TaskStretch journal t
  pub by_it : run.by ≡ number
  pub turn : turn_of_task run.past t ≡ k
  pub layouts : List (ℕ × ℕ)
  pub known : AreCurrentAt o run.past task.key layouts
  pub ran : TaskRun task (run_turn run) setup layouts (run_askings run) calls (run_notings run) run.answer
  pub shut : is_shut run ≡ true

-- the same, where the calls of each number for each turn of a task are told
abbrev pub HasJournalRun : Opening → Setup → (ℕ → ℕ → ℕ → List Call) → ℕ → ℕ → ℕ → List Entry → Type 0
HasJournalRun o setup calls number t k journal = JournalRun o setup (calls number t k) number t k journal
