-- What a task of an export asks, reads and fetches, and how it is answered.
use Rattle.std.specs.Prelude.{ℕ, ◌≡◌, ◌&&◌, nat_le, nat_lt, true, false, if◌then◌else◌, List, [], ◌∷◌, length, map, Some, count_by}
use Rattle.std.specs.Bool.{MatchBool}
use Rattle.ann_key.specs.Keys.{Parts}
use Rattle.annex_model.specs.Messages.{HostMessage, Transferexport, Checkpresentexport, Removeexport, Renameexport}
use Rattle.task_text.specs.declared.task.Work.{Work}
use Rattle.task_text.specs.declared.task.Work.TheVariants.{XStore, XGet, XCheck, XDrop, XRename}
use Rattle.task_text.specs.declared.task.Task.{Task}
use Rattle.ann_outside.specs.declared.file_desk.Call.{Call}
use Rattle.task_model.specs.Askers.{Asking, Noting, said_with}
use Rattle.journal_model.specs.declared.answer.Answer.{Answer}
use Rattle.journal_model.specs.declared.answer.Answer.TheVariants.{Dropped, Renamed}
use Rattle.task_model.specs.declared.setup.Setup.{Setup}
use Rattle.task_model.specs.declared.turn.TaskTurn.{TaskTurn}
use Rattle.task_model.specs.Stops.{is_done, last_failed}
use Rattle.task_model.specs.Names.{fetch_file}
use Rattle.task_model.specs.Requests.{AskInOrder}
use Rattle.task_model.specs.Discipline.{size_of_only}
use Rattle.task_model.specs.Reads.{lengths_found}
use Rattle.task_model.specs.Checks.{CheckAnswers}
use Rattle.task_model.specs.Stores.{begins_with_size, fits_length, PlainStoreAnswers}
use Rattle.task_model.specs.Gets.{first_asked, asked_last, are_read, GetAnswers}
use Rattle.task_model.specs.TaskCalls.{GetCalls}

-- ---- what is asked, and the name that is said before it

abbrev pub store_export : List ℕ → ℕ → List ℕ → HostMessage
store_export file n key = Transferexport true key file

abbrev pub fetch_export : Setup → TaskTurn → ℕ → List ℕ → HostMessage
fetch_export setup t n key = Transferexport false key (fetch_file setup t n)

abbrev pub check_export : ℕ → List ℕ → HostMessage
check_export n key = Checkpresentexport key

abbrev pub remove_export : ℕ → List ℕ → HostMessage
remove_export n key = Removeexport key

abbrev pub rename_export : List ℕ → ℕ → List ℕ → HostMessage
rename_export onto n key = Renameexport key onto

-- The one request of a task is for its key, and follows the task's name. Before a request that is left out nothing is said.
pub record AsksOfName (ask : ℕ → List ℕ → HostMessage) (keys : List Parts) (name : List ℕ) (asked : List Asking) : Type 0 where
  pub in_order : AskInOrder ask 1 keys asked
  pub named : map (λ (a : Asking). a.name) asked ≡ map (λ (a : Asking). said_with (Some name) a.request) asked

-- the answer where the one request was done; else it failed
abbrev pub DoneOrFailed : Answer → List Asking → Answer → Type 0
DoneOrFailed done asked answer = MatchBool (nat_lt 0 (count_by is_done asked)) (answer ≡ done) (last_failed asked ≡ Some answer)

-- ---- a store

-- The file's length is asked first, and nothing else is done at the desk. The remote is asked to store the file where the length is right.
pub record ExportStoreAsks (key : Parts) (file name : List ℕ) (asked : List Asking) (calls : List Call) : Type 0 where
  pub one_call : (begins_with_size calls && nat_le (length calls) 1) ≡ true
  pub of_file : size_of_only (file ∷ []) calls ≡ true
  pub asks : AsksOfName (store_export file) (if fits_length key (lengths_found file calls) then key ∷ [] else []) name asked

-- ---- a get

-- The remote is asked to send the content into a file of the folder of work, which is read from its begin on.
pub record ExportGetAsks (setup : Setup) (t : TaskTurn) (key : Parts) (file name : List ℕ) (asked : List Asking) (calls : List Call) : Type 0 where
  pub calls_made : GetCalls setup t file asked calls
  pub asks : AsksOfName (fetch_export setup t) (key ∷ []) name asked
  pub fetched_read : are_read setup t calls (first_asked asked) (asked_last asked) ≡ true

-- ---- by the work

-- What holds of any front of such a task's run. A task of another work is none of these.
abbrev pub ExportAsks : Setup → TaskTurn → Task → Parts → Work → List Asking → List Call → List Noting → Type 0
ExportAsks setup t task key XStore asked calls noted = ExportStoreAsks key task.file task.name asked calls × (noted ≡ [])
ExportAsks setup t task key XGet asked calls noted = ExportGetAsks setup t key task.file task.name asked calls × (noted ≡ [])
ExportAsks setup t task key XCheck asked calls noted = AsksOfName check_export (key ∷ []) task.name asked × (calls ≡ []) × (noted ≡ [])
ExportAsks setup t task key XDrop asked calls noted = AsksOfName remove_export (key ∷ []) task.name asked × (calls ≡ []) × (noted ≡ [])
ExportAsks setup t task key XRename asked calls noted =
    AsksOfName (rename_export task.onto) (key ∷ []) task.name asked × (calls ≡ []) × (noted ≡ [])
ExportAsks setup t task key _ asked calls noted = ⊥

-- What holds where it finished. A store is answered as one of a whole file, and a get as one of the plain layout alone.
abbrev pub ExportAnswers : Setup → TaskTurn → Task → Parts → Work → List Asking → List Call → Answer → Type 0
ExportAnswers setup t task key XStore asked calls answer = PlainStoreAnswers key task.file asked calls answer
ExportAnswers setup t task key XGet asked calls answer = GetAnswers setup t key (0 ∷ []) task.file asked calls answer
ExportAnswers setup t task key XCheck asked calls answer = CheckAnswers ((key ∷ []) ∷ []) asked answer
ExportAnswers setup t task key XDrop asked calls answer = DoneOrFailed Dropped asked answer
ExportAnswers setup t task key XRename asked calls answer = DoneOrFailed Renamed asked answer
ExportAnswers setup t task key _ asked calls answer = ⊥
