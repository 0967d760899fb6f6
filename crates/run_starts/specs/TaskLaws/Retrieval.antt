-- What a get leaves of what was stored before, where the remote is faithful.
use Rattle.std.specs.Prelude.{ℕ, ◌≡◌, ◌<◌, true, false, List, [], ◌∷◌, ◌++◌, map, All, Some, None}
use Rattle.std.specs.List.{concat, list_all}
use Rattle.ann_key.specs.Keys.{Parts, key_reading}
use Rattle.ann_digest.specs.Fits.{FitsKey}
use Rattle.ann_outside.specs.Files.{Files, content}
use Rattle.journal_model.specs.declared.answer.Answer.TheVariants.{Got}
use Rattle.journal_model.specs.declared.entry.Entry.{Entry}
use Rattle.journal_model.specs.declared.opening.Opening.{Opening}
use Rattle.journal_model.specs.Legality.{Legal, is_of_lost_child}
use Rattle.task_text.specs.declared.task.Work.TheVariants.{Store}
use Rattle.task_model.specs.declared.setup.Setup.{Setup}
use Rattle.task_model.specs.declared.turn.TaskTurn.{TaskTurn}
use Rattle.task_model.specs.Askings.{TaskStretch, is_last_run, run_askings}
use Rattle.task_model.specs.Names.{part_of}
use Rattle.task_model.specs.Reads.{appended, holds, are_found_so, is_renaming, is_last}
use Rattle.task_model.specs.Gets.{asked_last, since_begin, checked}
use Rattle.task_model.specs.Runs.{is_chunked}
use Rattle.task_model.specs.RunLaws.{sizes_got}
use Rattle.crew_work.specs.Laws.JournalRuns.{JournalRun}
use Rattle.run_starts.specs.TaskLaws.Changes.{Request}
use Rattle.run_starts.specs.TaskLaws.Contents.{Shows}
use Rattle.run_starts.specs.TaskLaws.Faithful.{Told, sent, IsFaithful, IsPlayed, AreInTurn, AreStoredFor}
use Rattle.run_starts.specs.TaskLaws.FilesKept.{leaves}
use Rattle.run_starts.specs.TaskLaws.Kept.{is_afresh, Keeps}

-- A run of a task by any number, in this turn, got its content, afresh, and these stored the keys of its last layout before it retrieved
-- them. It is the task's last run, since the task was answered.
pub record GotStored (o : Opening) (setup : Setup) (told : Told) (journal : List Entry) (number : ℕ) (t : TaskTurn) (key : Parts) (stores : List Request) : Type 0 where
  pub run : JournalRun o setup (told.calls t) number t.task t.turn journal
  pub keyed : key_reading run.task.key ≡ Some key
  pub got : run.run.answer ≡ Got
  pub afresh : is_afresh (sizes_got run.task.work key run.layouts) run.task.file (run_askings run.run) (told.calls t) ≡ true
  pub stored : AreStoredFor journal t (asked_last (run_askings run.run)) stores

-- With a faithful remote such a run keeps what these sent, one after the other, as its file.
abbrev pub KeepsStored : Type 0
KeepsStored =
    (o : Opening) (setup : Setup) (told : Told) (journal : List Entry) (number : ℕ) (t : TaskTurn) (key : Parts) (stores : List Request) → IsFaithful o setup told journal
    → (got : GotStored o setup told journal number t key stores)
    → Keeps got.run.task.work setup t key (sizes_got got.run.task.work key got.run.layouts) got.run.task.file (run_askings got.run.run) (told.calls t) (map (sent o setup told) stores)

-- And where its calls were played on its desk's files, the file holds that after them.
abbrev pub FileKeepsStored : Type 0
FileKeepsStored =
    (o : Opening) (setup : Setup) (told : Told) (journal : List Entry) (number : ℕ) (t : TaskTurn) (key : Parts) (stores : List Request) → IsFaithful o setup told journal → IsPlayed told t
    → (got : GotStored o setup told journal number t key stores) → content got.run.task.file (told.after t) ≡ Some (concat (map (sent o setup told) stores))

-- ---- content that one run of a task stored in chunks

-- A run of a task by any number, in this turn, stored its content in chunks, and these are requests of that run. All that its calls show
-- of its file is of this content.
pub record StoredInChunks (o : Opening) (setup : Setup) (told : Told) (journal : List Entry) (u : TaskTurn) (content : List ℕ) (stores : List Request) : Type 0 where
  pub number : ℕ
  pub run : JournalRun o setup (told.calls u) number u.task u.turn journal
  pub work : run.task.work ≡ Store
  pub key : Parts
  pub keyed : key_reading run.task.key ≡ Some key
  pub chunked : is_chunked setup key ≡ true
  pub of_run : All (λ s. s.turn ≡ u) stores
  pub shows : Shows run.task.file content (told.calls u)

-- That content was appended to part since it was begun, is all that was checked, and fits the key. Where all that was found of part is so,
-- whatever it held before the task, it is all that part holds in the end. The task's last call renamed part to the file.
pub record KeepsContent (o : Opening) (setup : Setup) (told : Told) (journal : List Entry) (number : ℕ) (t : TaskTurn) (key : Parts) (run : JournalRun o setup (told.calls t) number t.task t.turn journal) (content : List ℕ) : Type 0 where
  pub appended_are : appended (part_of run.task.file) (since_begin run.task.file (told.calls t)) ≡ content
  pub checked_are : checked setup t run.task.file (sizes_got run.task.work key run.layouts) (run_askings run.run) (told.calls t) ≡ content
  pub holds_all : (before : List ℕ) → are_found_so (part_of run.task.file) (Some before) (told.calls t) ≡ true → holds (part_of run.task.file) (Some before) (told.calls t) ≡ Some content
  pub fits : FitsKey key content
  pub renamed : is_last (is_renaming (part_of run.task.file) run.task.file) (told.calls t) ≡ true

-- With a faithful remote, where one run of a task stored all chunks of the last layout, the get keeps the content of that task's file.
abbrev pub KeepsStoredContent : Type 0
KeepsStoredContent =
    (o : Opening) (setup : Setup) (told : Told) (journal : List Entry) (number : ℕ) (t u : TaskTurn) (key : Parts) (content : List ℕ) (stores : List Request) → Legal o journal → IsFaithful o setup told journal
    → (got : GotStored o setup told journal number t key stores) → key.chunk ≡ None → StoredInChunks o setup told journal u content stores
    → KeepsContent o setup told journal number t key got.run content

-- And where its calls were played on its desk's files, the get's file holds that content after them.
abbrev pub FileKeepsContent : Type 0
FileKeepsContent =
    (o : Opening) (setup : Setup) (told : Told) (journal : List Entry) (number : ℕ) (t u : TaskTurn) (key : Parts) (bytes : List ℕ) (stores : List Request) → Legal o journal → IsFaithful o setup told journal
    → IsPlayed told t → (got : GotStored o setup told journal number t key stores) → key.chunk ≡ None → StoredInChunks o setup told journal u bytes stores
    → content got.run.task.file (told.after t) ≡ Some bytes

-- ---- after the run

-- the calls of each of these turns leave the file as it is
abbrev pub AllLeave : Told → List ℕ → List TaskTurn → Type 0
AllLeave told name [] = Unit {0}
AllLeave told name (t ∷ more) = (list_all (leaves name) (told.calls t) ≡ true) × AllLeave told name more

-- What a file holds after one of the runs of a desk it holds in the end, where each later one leaves it as it is.
abbrev pub LastsToTheEnd : Type 0
LastsToTheEnd =
    (told : Told) (name bytes : List ℕ) (t : TaskTurn) (earlier later : List TaskTurn) (old new : Files) → AreInTurn told (earlier ++ t ∷ later) old new
    → content name (told.after t) ≡ Some bytes → AllLeave told name later → content name new ≡ Some bytes

-- ---- the last run

-- A run of a task whose child wasn't lost answers the task, and is its last one.
abbrev pub AnsweredIsLast : Type 0
AnsweredIsLast =
    (o : Opening) (journal : List Entry) (t : ℕ) (run : TaskStretch journal t) → 0 < t → Legal o journal → is_of_lost_child run.answer ≡ false
    → (run.renewed ≡ false) × (is_last_run run ≡ true)
