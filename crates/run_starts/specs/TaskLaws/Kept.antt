-- What a get that is answered Got keeps.
use Rattle.std.specs.Prelude.{ℕ, ◌≡◌, ◌==◌, ◌||◌, Bool, true, List, length, Some, unwrap_or}
use Rattle.std.specs.List.{concat, list_all}
use Rattle.ann_key.specs.Keys.{Parts, key_reading}
use Rattle.ann_digest.specs.Fits.{FitsKey}
use Rattle.ann_outside.specs.declared.file_desk.Call.{Call}
use Rattle.annex_model.specs.Messages.{HostMessage}
use Rattle.journal_model.specs.declared.answer.Answer.TheVariants.{Got}
use Rattle.task_text.specs.declared.task.Task.{Task}
use Rattle.task_text.specs.declared.task.Work.{Work}
use Rattle.task_text.specs.declared.task.Work.TheVariants.{XGet}
use Rattle.task_model.specs.Askers.{Asking, Noting}
use Rattle.task_model.specs.declared.setup.Setup.{Setup}
use Rattle.task_model.specs.declared.turn.TaskTurn.{TaskTurn}
use Rattle.task_model.specs.Names.{part_of}
use Rattle.task_model.specs.Layouts.{keys_of_layout}
use Rattle.task_model.specs.Requests.{AskInOrder}
use Rattle.task_model.specs.Reads.{appended, holds, are_found_so, is_renaming, is_last}
use Rattle.task_model.specs.Gets.{fetch_request, lengths_at_begin, failures, item, asked_last, first_asked, since_begin, is_plain_last, checked}
use Rattle.task_model.specs.Exports.{fetch_export}
use Rattle.task_model.specs.Runs.{TaskRun}
use Rattle.task_model.specs.RunLaws.{sizes_got}
use Rattle.run_starts.specs.TaskLaws.Contents.{AreFetched}

-- the request that fetches: under a name it says so
abbrev pub fetch_of : Work → Setup → TaskTurn → ℕ → List ℕ → HostMessage
fetch_of XGet setup t n key = fetch_export setup t n key
fetch_of work setup t n key = fetch_request setup t n key

-- the chunk size of the layout that was tried last, 0 of the plain one
abbrev pub chunk_last : List ℕ → List Asking → ℕ
chunk_last sizes asked = unwrap_or (item (failures asked) sizes) 0

-- the plain layout was tried last, or no layout found any bytes of part: it wasn't there, or was empty
abbrev pub is_afresh : List ℕ → List ℕ → List Asking → List Call → Bool
is_afresh sizes file asked calls = is_plain_last sizes asked || list_all (λ n. n == 0) (lengths_at_begin file calls)

-- The last layout's keys were asked for in their order, each into a file of its own. These contents, one after the other, were appended
-- to part since it was begun, and are all that was checked; they fit the key. Where all that was found of part is so, whatever it held
-- before the task, they are all that it holds in the end. Then it was renamed to the file.
pub record Keeps (work : Work) (setup : Setup) (t : TaskTurn) (key : Parts) (sizes : List ℕ) (file : List ℕ) (asked : List Asking) (calls : List Call) (contents : List (List ℕ)) : Type 0 where
  pub all : length (asked_last asked) ≡ length (keys_of_layout key (chunk_last sizes asked))
  pub in_order : AskInOrder (fetch_of work setup t) (first_asked asked) (keys_of_layout key (chunk_last sizes asked)) (asked_last asked)
  pub appended_are : appended (part_of file) (since_begin file calls) ≡ concat contents
  pub checked_are : checked setup t file sizes asked calls ≡ concat contents
  pub holds_all : (before : List ℕ) → are_found_so (part_of file) (Some before) calls ≡ true → holds (part_of file) (Some before) calls ≡ Some (concat contents)
  pub fits : FitsKey key (concat contents)
  pub renamed : is_last (is_renaming (part_of file) file) calls ≡ true

-- A get that began afresh and is answered Got keeps what the files of its last layout hold.
abbrev pub GotKeeps : Type 0
GotKeeps =
    (task : Task) (t : TaskTurn) (setup : Setup) (layouts : List (ℕ × ℕ)) (asked : List Asking) (calls : List Call) (noted : List Noting) (key : Parts) (contents : List (List ℕ))
    → key_reading task.key ≡ Some key → TaskRun task t setup layouts asked calls noted Got
    → is_afresh (sizes_got task.work key layouts) task.file asked calls ≡ true → AreFetched setup t calls (first_asked asked) (asked_last asked) contents
    → Keeps task.work setup t key (sizes_got task.work key layouts) task.file asked calls contents
