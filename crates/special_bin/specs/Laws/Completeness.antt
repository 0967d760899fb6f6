-- When a run went well from outside, by what was counted, and with which answers and status it ends then.
use Rattle.ann_outside.specs.Told.{DeskTold}
use Rattle.std.specs.Prelude.{ℕ, ◌≡◌, ◌⊎◌, ◌<◌, Bool, true, false, List, [], ◌∷◌, map, Option, None, Ok}
use Rattle.std.specs.List.{list_any}
use Rattle.ann_outside.specs.Causes.{Rose}
use Rattle.ann_outside.specs.Files.{Files}
use Rattle.child_life.specs.End.Outsides.{OutsideValue}
use Rattle.cli_words.specs.declared.command.RunWords.{RunWords}
use Rattle.run_children.specs.Completeness.{DesksFound}
use Rattle.journal_model.specs.declared.answer.Answer.{Answer}
use Rattle.journal_model.specs.declared.answer.Answer.TheVariants.{Memory as MemoryAnswer}
use Rattle.journal_model.specs.declared.entry.Entry.{Entry}
use Rattle.kept_file.specs.declared.desk.writing.KeptWritten.TheVariants as W
use Rattle.run_and_check.specs.Run.Inputs.{InputFlow, IsTaken, run_setup}
use Rattle.run_and_check.specs.Run.Runs.{EndsRun, IsAtDesk, IsIdle, IsRunOf, MadeValue}
use Rattle.run_and_check.specs.declared.run.made.RunEnd.{RunEnd}
use Rattle.run_and_check.specs.declared.run.made.RunEnd.TheVariants.{BadKept, KeptTooLarge, FileFailed, InputFailed, Refused, Memory, Done}
use Rattle.special_cli.specs.Doings.{end_of, made_in}
use Rattle.special_cli.specs.Left.{Left}
use Rattle.special_cli.specs.Tells.{Flow, IsToldOf}
use Rattle.cli_words.specs.declared.task_input.limits.TheConstants.Limits.{TASKS}
use Rattle.run_starts.specs.TaskLaws.ChildrenWell.{ChildrenWell}
use Rattle.run_starts.specs.TaskLaws.RunWell.{AreAskedWell}
use Rattle.run_starts.specs.TaskLaws.WentWell.{IsSuccess}
use Rattle.task_text.specs.declared.task.Task.{Task}

-- ---- what went well

-- no count of faults of the input, of out or of err rose
pub record IsQuiet (input : InputFlow) (out err : Flow) : Type 0 where
  pub reads : Rose input.faults input.faults' → ⊥
  pub prints : Rose out.faults out.faults' → ⊥
  pub warns : Rose err.faults err.faults' → ⊥

-- the desk of the kept file counted no fault, and no missing file where it doesn't tell its files
pub record IsKeptQuiet (told : Option Files) (table : DeskTold) : Type 0 where
  pub faults : Rose 0 table.counts.faults → ⊥
  pub missing : told ≡ None → Rose 0 table.counts.missing → ⊥

-- A start was allowed; the children of the run got ready, and ended only when they were closed; each request of a task was done, but that what a
-- store asks before it stores may be answered in any way; no desk of a worker counted a fault, and each task found what it should.
pub record TasksFoundWell (words : RunWords) (clock : Option ℕ) (told : Option Files) (input : InputFlow) (workers : List DeskTold) (journal : List Entry) (run : IsRunOf words clock told input workers journal) : Type 0 where
  pub starts : 0 < words.starts
  pub children : ChildrenWell journal
  pub asked : AreAskedWell run.opening journal
  pub found : DesksFound run.opening (run_setup words run.stamp) words.starts journal [] journal 1 run.before workers run.ran.did

-- No line of the kept file or of the input was refused, and the kept file is within its limit, as it was read and as it is to be written.
-- The tasks found what they should.
abbrev pub EndsWell : (words : RunWords) (clock : Option ℕ) (told : Option Files) (input : InputFlow) (table : DeskTold) (workers : List DeskTold) (made : MadeValue) (end : RunEnd)
    → EndsRun words clock told input table workers made end → Type 0
EndsWell words clock told input table workers made (BadKept line) ends = ⊥
EndsWell words clock told input table workers made KeptTooLarge ends = ⊥
EndsWell words clock told input table workers made FileFailed ends = Unit {0}
EndsWell words clock told input table workers made InputFailed ends = Unit {0}
EndsWell words clock told input table workers made (Refused line reason) ends = ⊥
EndsWell words clock told input table workers made Memory ends = Unit {0}
EndsWell words clock told input table workers made (Done W.TooLarge) whole = ⊥
EndsWell words clock told input table workers made (Done W.Fault) whole = Unit {0}
EndsWell words clock told input table workers made (Done W.Done) whole =
    TasksFoundWell words clock told input workers made.journal whole.run

-- So it is at the desk of the kept file, and at the others.
abbrev pub WentWell : (words : RunWords) (clock : Option ℕ) (before : OutsideValue) (input : InputFlow) (after : OutsideValue) (made : MadeValue) → IsAtDesk words clock before input after made → Type 0
WentWell words clock before input after made at = IsKeptQuiet at.told at.table × EndsWell words clock at.told input at.table at.workers made made.end at.ends

-- ---- how it ends

-- each task has its answer, which is its success, or says that no memory was found
abbrev pub AreAllWell : List Task → List Answer → Type 0
AreAllWell [] [] = Unit {0}
AreAllWell [] (answer ∷ answers) = ⊥
AreAllWell (task ∷ tasks) [] = ⊥
AreAllWell (task ∷ tasks) (answer ∷ answers) = IsSuccess task.work answer × AreAllWell tasks answers

abbrev pub says_memory : Answer → Bool
says_memory MemoryAnswer = true
says_memory answer = false

-- No memory was found for the run or for what it prints. Or each task of the input is answered so, and the status is 0; or it is 1, and one is
-- answered by `memory`.
abbrev pub HasCompleted : InputFlow → ℕ → List Answer → Type 0
HasCompleted input status answers =
    (status ≡ 7)
    ⊎ ((tasks : List Task) × IsTaken TASKS input (Ok tasks) × AreAllWell tasks answers × ((status ≡ 0) ⊎ ((status ≡ 1) × (list_any says_memory answers ≡ true))))

-- A run that went well from outside ends so.
abbrev pub RunCompletes : Type 0
RunCompletes =
    (words : RunWords) (clock : Option ℕ) (before : OutsideValue) (input : InputFlow) (status : ℕ) (out err : Flow) (left : Left) (end : RunEnd)
    (at : IsAtDesk words clock before input left.outside (made_in left end)) → IsToldOf left status out err (end_of end) → IsQuiet input out err
    → WentWell words clock before input left.outside (made_in left end) at → HasCompleted input status left.answers

-- One for whose desks no memory was found ends with status 7.
abbrev pub IdleLacksMemory : Type 0
IdleLacksMemory =
    (before : OutsideValue) (input : InputFlow) (status : ℕ) (out err : Flow) (left : Left) (end : RunEnd) → end ≡ Memory → IsIdle before input left.outside (made_in left end)
    → IsToldOf left status out err (end_of end) → IsQuiet input out err → status ≡ 7
