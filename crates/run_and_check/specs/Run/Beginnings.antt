-- What a run begins with, and what ends it before that.
use Rattle.std.specs.Prelude.{ℕ, ◌≡◌, ◌<◌, List, length, Option, Some, None, IfSome, Result, Ok, Err}
use Rattle.ann_outside.specs.Causes.{Rose}
use Rattle.ann_outside.specs.Files.{Files}
use Rattle.task_text.specs.declared.task.Task.{Task}
use Rattle.kept_file.specs.Text.KeptFiles.{bad_line, registers_of, notes_of, CountsAs}
use Rattle.kept_file.specs.declared.desk.TheConstants.{MOST_BYTES}
use Rattle.cli_words.specs.declared.command.RunWords.{RunWords}
use Rattle.cli_words.specs.declared.task_input.error.InputError.TheVariants as input
use Rattle.cli_words.specs.declared.task_input.limits.TheConstants.Limits.{TASKS}
use Rattle.journal_model.specs.declared.opening.Opening.{Opening}
use Rattle.run_and_check.specs.Run.Inputs.{InputFlow, IsUnread, IsTaken, IsTextFor, IsRunOpening}
use Rattle.run_and_check.specs.Run.Runs.{HasText}
use Rattle.run_and_check.specs.declared.run.beginning.Kept.{Kept}
use Rattle.run_and_check.specs.declared.run.made.RunEnd.{RunEnd}
use Rattle.run_and_check.specs.declared.run.made.RunEnd.TheVariants.{BadKept, KeptTooLarge, FileFailed, InputFailed, Refused, Memory}

-- ---- the kept file

-- these registers and notes are what its text hands on
pub record HandsOn (words : RunWords) (told : Option Files) (k : Kept) : Type 0 where
  pub kept : List ℕ
  pub text : IsTextFor words told kept
  pub right : bad_line kept ≡ None
  pub registers : k.registers ≡ registers_of kept
  pub notes : CountsAs k.notes (notes_of kept)

-- this stands against it, where the desk counted so many faults before and after
abbrev pub StopsKept : RunWords → Option Files → ℕ → ℕ → RunEnd → Type 0
StopsKept words told faults faults' (BadKept line) = HasText words told (λ kept. bad_line kept ≡ Some line)
StopsKept words told faults faults' KeptTooLarge = HasText words told (λ kept. MOST_BYTES < length kept)
StopsKept words told faults faults' FileFailed = Rose faults faults'
StopsKept words told faults faults' Memory = Unit {0}
StopsKept words told faults faults' end = ⊥

-- what was read of it
abbrev pub ReadsKept : RunWords → Option Files → ℕ → ℕ → Result Kept RunEnd → Type 0
ReadsKept words told faults faults' (Ok k) = HandsOn words told k
ReadsKept words told faults faults' (Err end) = StopsKept words told faults faults' end

-- ---- the input

-- this stands against it
abbrev pub StopsInput : InputFlow → RunEnd → Type 0
StopsInput flow InputFailed = Rose flow.faults flow.faults'
StopsInput flow (Refused line reason) = IsTaken TASKS flow (Err (input.Refused line reason))
StopsInput flow Memory = Unit {0}
StopsInput flow end = ⊥

-- what was read of it
abbrev pub ReadsInput : InputFlow → Result (List Task) RunEnd → Type 0
ReadsInput flow (Ok tasks) = IsTaken TASKS flow (Ok tasks)
ReadsInput flow (Err end) = StopsInput flow end

-- ---- both, and the clock

-- the words, the kept file, the input and the clock give this opening
pub record IsReady (words : RunWords) (clock : Option ℕ) (told : Option Files) (flow : InputFlow) (opening : Opening) : Type 0 where
  pub stamp : ℕ
  pub at : IfSome clock (λ n. stamp ≡ n)
  pub kept : List ℕ
  pub text : IsTextFor words told kept
  pub right : bad_line kept ≡ None
  pub tasks : List Task
  pub input : IsTaken TASKS flow (Ok tasks)
  pub begins : IsRunOpening words kept tasks stamp opening

-- the kept file was read before the input, which is read only where that is right, and this stands against one of them
abbrev pub StopsRun : RunWords → Option Files → InputFlow → ℕ → ℕ → RunEnd → Type 0
StopsRun words told flow faults faults' (BadKept line) = IsUnread flow × StopsKept words told faults faults' (BadKept line)
StopsRun words told flow faults faults' KeptTooLarge = IsUnread flow × StopsKept words told faults faults' KeptTooLarge
StopsRun words told flow faults faults' FileFailed = IsUnread flow × StopsKept words told faults faults' FileFailed
StopsRun words told flow faults faults' InputFailed = StopsInput flow InputFailed × HasText words told (λ kept. bad_line kept ≡ None)
StopsRun words told flow faults faults' (Refused line reason) = StopsInput flow (Refused line reason) × HasText words told (λ kept. bad_line kept ≡ None)
StopsRun words told flow faults faults' end = StopsInput flow end

-- what a run begins with, or what stands against it
abbrev pub BeginsRun : RunWords → Option ℕ → Option Files → InputFlow → ℕ → ℕ → Result Opening RunEnd → Type 0
BeginsRun words clock told flow faults faults' (Ok opening) = IsReady words clock told flow opening
BeginsRun words clock told flow faults faults' (Err end) = StopsRun words told flow faults faults' end
