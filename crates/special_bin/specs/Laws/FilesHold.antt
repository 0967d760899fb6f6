-- What the files of a run's desks hold in the end, where the remote was faithful.
use Rattle.ann_outside.specs.Told.{DeskTold}
use Rattle.std.specs.Prelude.{ℕ, ◌≡◌, ◌+◌, List, [], ◌∷◌, ◌++◌, map, Option, Some, None}
use Rattle.std.specs.List.{concat}
use Rattle.ann_key.specs.Keys.{Parts, key_reading}
use Rattle.ann_outside.specs.Calls.{Log}
use Rattle.ann_outside.specs.Files.{Files, content}
use Rattle.child_life.specs.End.Outsides.{OutsideValue}
use Rattle.cli_words.specs.declared.command.RunWords.{RunWords}
use Rattle.crew_work.specs.Laws.JournalRuns.{JournalRun}
use Rattle.run_children.specs.Desks.{DesksDid}
use Rattle.run_children.specs.ToldDesks.{AreToldAt}
use Rattle.journal_model.specs.declared.answer.Answer.TheVariants.{Got}
use Rattle.journal_model.specs.declared.entry.Entry.{Entry}
use Rattle.journal_model.specs.declared.opening.Opening.{Opening}
use Rattle.crew_work.specs.Worker.Works.{TaskDone}
use Rattle.run_and_check.specs.Run.Inputs.{InputFlow, run_setup}
use Rattle.run_and_check.specs.Run.Runs.{IsAtDesk, IsRunOf}
use Rattle.run_and_check.specs.declared.run.made.RunEnd.{RunEnd}
use Rattle.special_cli.specs.Doings.{made_in}
use Rattle.special_cli.specs.Left.{Left}
use Rattle.run_starts.specs.TaskLaws.Changes.{Request}
use Rattle.run_starts.specs.TaskLaws.Faithful.{AreStoredFor, IsFaithful, Told, sent}
use Rattle.run_starts.specs.TaskLaws.FilesKept.{HasNoPart}
use Rattle.run_starts.specs.TaskLaws.Retrieval.{AllLeave, StoredInChunks}
use Rattle.run_starts.specs.TaskLaws.ToldDesks.{turn_done}
use Rattle.task_model.specs.Askings.{run_askings}
use Rattle.task_model.specs.Gets.{asked_last}
use Rattle.task_model.specs.declared.setup.Setup.{Setup}
use Rattle.task_model.specs.declared.turn.TaskTurn.{TaskTurn}

-- ---- one get

-- A task was answered Got by this turn, its last one, which had no part till its last layout, and these stored the keys of that layout before
-- it retrieved them.
pub record GotAnew (o : Opening) (setup : Setup) (told : Told) (journal : List Entry) (t : TaskTurn) (key : Parts) (stores : List Request) : Type 0 where
  pub number : ℕ
  pub run : JournalRun o setup (told.calls t) number t.task t.turn journal
  pub keyed : key_reading run.task.key ≡ Some key
  pub got : run.run.answer ≡ Got
  pub unheld : HasNoPart run.task.file (told.calls t) (told.before t)
  pub stored : AreStoredFor journal t (asked_last (run_askings run.run)) stores

-- ---- one desk

-- The file of each such get of a desk that its later runs leave as it is: it holds in the end what those stores sent, one after the other;
-- and where one run of a task stored all of them in chunks, the content of that task's file.
pub record FilesHold (o : Opening) (setup : Setup) (told : Told) (journal : List Entry) (done : List TaskDone) (new : Files) : Type 0 where
  pub sent_is : (earlier later : List TaskDone) (r : TaskDone) (key : Parts) (stores : List Request) → done ≡ earlier ++ r ∷ later → (got : GotAnew o setup told journal (turn_done r) key stores)
      → AllLeave told got.run.task.file (map turn_done later) → content got.run.task.file new ≡ Some (concat (map (sent o setup told) stores))
  pub content_is : (earlier later : List TaskDone) (r : TaskDone) (u : TaskTurn) (key : Parts) (bytes : List ℕ) (stores : List Request) → done ≡ earlier ++ r ∷ later → (got : GotAnew o setup told journal (turn_done r) key stores)
      → key.chunk ≡ None → StoredInChunks o setup told journal u bytes stores
      → AllLeave told got.run.task.file (map turn_done later) → content got.run.task.file new ≡ Some bytes

-- so it is where the files at first and in the end are told
abbrev pub FilesHoldFrom : Opening → Setup → Told → List Entry → List TaskDone → Option Files → Option Files → Type 0
FilesHoldFrom o setup told journal done (Some old) (Some new) = FilesHold o setup told journal done new
FilesHoldFrom o setup told journal done (Some old) None = Unit {0}
FilesHoldFrom o setup told journal done None files = Unit {0}

-- so it is where the desk tells both its calls and its files
abbrev pub FilesHoldAt : Opening → Setup → Told → List Entry → List TaskDone → Option Log → Option Files → Type 0
FilesHoldAt o setup told journal done None files = Unit {0}
FilesHoldAt o setup told journal done (Some log) files = FilesHoldFrom o setup told journal done log.origin files

-- so it is at each desk
abbrev pub AllHold : (told : Told) (o : Opening) (setup : Setup) (limit : ℕ) (journal past entries : List Entry) (k : ℕ) (desks : List DeskTold) (tables : List DeskTold)
    → DesksDid o setup limit journal past entries k desks tables → Type 0
AllHold told o setup limit journal past entries k [] [] did = Unit {0}
AllHold told o setup limit journal past entries k [] (table ∷ tables) did = Unit {0}
AllHold told o setup limit journal past entries k (d ∷ ds) [] did = Unit {0}
AllHold told o setup limit journal past entries k (d ∷ ds) (table ∷ tables) did =
    FilesHoldAt o setup told journal did.0.done table.log table.files × AllHold told o setup limit journal past entries (k + 1) ds tables did.1

-- ---- a run

-- this is told of what the run's desks did, which are left in the end
abbrev pub IsToldOfRun : (told : Told) (words : RunWords) (clock : Option ℕ) (files : Option Files) (input : InputFlow) (workers : List DeskTold) (journal : List Entry)
    → IsRunOf words clock files input workers journal → Type 0
IsToldOfRun told words clock files input workers journal run =
    AreToldAt told run.opening (run_setup words run.stamp) words.starts journal [] journal 1 run.before workers run.ran.did (map (λ (table : DeskTold). table.files) workers)

-- There are files before and after each run of a task that fit what its desks tell.
abbrev pub RunIsTold : Type 0
RunIsTold =
    (words : RunWords) (clock : Option ℕ) (before : OutsideValue) (input : InputFlow) (left : Left) (end : RunEnd) (at : IsAtDesk words clock before input left.outside (made_in left end))
    (run : IsRunOf words clock at.told input at.workers left.journal) → ∥ ((told : Told) × IsToldOfRun told words clock at.told input at.workers left.journal run) ∥₁

-- Where the remote was faithful to these, the files of the desks that are left hold what was stored.
abbrev pub RunKeeps : Type 0
RunKeeps =
    (words : RunWords) (clock : Option ℕ) (before : OutsideValue) (input : InputFlow) (left : Left) (end : RunEnd) (at : IsAtDesk words clock before input left.outside (made_in left end))
    (run : IsRunOf words clock at.told input at.workers left.journal) (told : Told) → IsToldOfRun told words clock at.told input at.workers left.journal run
    → IsFaithful run.opening (run_setup words run.stamp) told left.journal
    → AllHold told run.opening (run_setup words run.stamp) words.starts left.journal [] left.journal 1 run.before at.workers run.ran.did
