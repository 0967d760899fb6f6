-- What a task asked, did at its desk and noted, and how it is answered.
use Rattle.std.specs.Prelude.{ℕ, ◌≡◌, ◌==◌, ◌&&◌, not, Bool, true, List, [], IfSome, is_some}
use Rattle.std.specs.Bool.{MatchBool}
use Rattle.ann_key.specs.Keys.{Parts, key_reading}
use Rattle.task_text.specs.declared.task.Work.{Work}
use Rattle.task_text.specs.declared.task.Work.TheVariants.{Store, Get, Check, Drop}
use Rattle.task_text.specs.declared.task.Task.{Task}
use Rattle.ann_outside.specs.declared.file_desk.Call.{Call}
use Rattle.task_model.specs.Askers.{Asking, Noting}
use Rattle.journal_model.specs.declared.answer.Answer.{Answer}
use Rattle.task_model.specs.declared.setup.Setup.{Setup}
use Rattle.task_model.specs.declared.turn.TaskTurn.{TaskTurn}
use Rattle.task_model.specs.Stops.{asking_stop, call_stop, is_stop_last, stops_of, AnsweredBy}
use Rattle.task_model.specs.Names.{part_of}
use Rattle.task_model.specs.Layouts.{sizes_tried, layouts_tried}
use Rattle.task_model.specs.Discipline.{are_found}
use Rattle.task_model.specs.TaskCalls.{StoreCalls, GetCalls}
use Rattle.task_model.specs.Checks.{CheckAsks, CheckAnswers}
use Rattle.task_model.specs.Drops.{DropAsks, DropAnswers}
use Rattle.task_model.specs.Stores.{PlainStoreAsks, PlainStoreAnswers, ChunkStoreAsks, ChunkStoreAnswers}
use Rattle.task_model.specs.Gets.{GetAsks, GetAnswers}
use Rattle.task_model.specs.Exports.{ExportAsks, ExportAnswers}

-- ---- by the work

-- content is stored in chunks where a chunk size is set and the key says the content's size
abbrev pub is_chunked : Setup → Parts → Bool
is_chunked setup key = not (setup.chunk == 0) && is_some key.size

abbrev pub WorkAsks : Setup → TaskTurn → Task → Parts → List (ℕ × ℕ) → Work → List Asking → List Call → List Noting → Type 0
WorkAsks setup t task key layouts Store asked calls noted =
    StoreCalls setup t task.file asked calls
    × MatchBool (is_chunked setup key) (ChunkStoreAsks setup t key task.file asked calls noted)
    (PlainStoreAsks key task.file asked calls × (noted ≡ []))
WorkAsks setup t task key layouts Get asked calls noted =
    GetCalls setup t task.file asked calls × GetAsks setup t key (sizes_tried key layouts) task.file asked calls × (noted ≡ [])
WorkAsks setup t task key layouts Check asked calls noted = CheckAsks (layouts_tried key layouts) asked × (calls ≡ []) × (noted ≡ [])
WorkAsks setup t task key layouts Drop asked calls noted = DropAsks key (sizes_tried key layouts) asked noted × (calls ≡ [])
WorkAsks setup t task key layouts work asked calls noted = ExportAsks setup t task key work asked calls noted

abbrev pub WorkAnswers : Setup → TaskTurn → Task → Parts → List (ℕ × ℕ) → Work → List Asking → List Call → List Noting → Answer → Type 0
WorkAnswers setup t task key layouts Store asked calls noted answer =
    MatchBool (is_chunked setup key) (ChunkStoreAnswers setup t key task.file asked calls noted answer) (PlainStoreAnswers key task.file asked calls answer)
WorkAnswers setup t task key layouts Get asked calls noted answer = GetAnswers setup t key (sizes_tried key layouts) task.file asked calls answer
WorkAnswers setup t task key layouts Check asked calls noted answer = CheckAnswers (layouts_tried key layouts) asked answer
WorkAnswers setup t task key layouts Drop asked calls noted answer = DropAnswers key (sizes_tried key layouts) asked answer
WorkAnswers setup t task key layouts work asked calls noted answer = ExportAnswers setup t task key work asked calls answer

-- ---- any task

pub record RunOf (setup : Setup) (t : TaskTurn) (task : Task) (key : Parts) (layouts : List (ℕ × ℕ)) (asked : List Asking) (calls : List Call) (noted : List Noting) (answer : Answer) : Type 0 where
  -- nothing is asked after a verdict that ends the task, and no call follows one that does
  pub asked_till_stop : is_stop_last (asking_stop task.work) asked ≡ true
  pub calls_till_stop : is_stop_last (call_stop (part_of task.file)) calls ≡ true
  -- each file that a call needs was found or made before
  pub found : are_found (part_of task.file) [] calls ≡ true
  pub work : WorkAsks setup t task key layouts task.work asked calls noted
  pub answered : AnsweredBy (stops_of task.work (part_of task.file) asked calls) answer (WorkAnswers setup t task key layouts task.work asked calls noted answer)

-- The run of task number t: its settled requests, its desk's calls, its notes, and its answer. Running out of memory may end it early.
abbrev pub TaskRun : Task → TaskTurn → Setup → List (ℕ × ℕ) → List Asking → List Call → List Noting → Answer → Type 0
TaskRun task t setup layouts asked calls noted answer =
    IfSome (key_reading task.key) (λ key. RunOf setup t task key layouts asked calls noted answer)
