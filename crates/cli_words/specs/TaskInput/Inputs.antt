-- The tasks of an input, and which line of it is refused.
use Rattle.std.specs.Prelude.{ℕ, ◌≡◌, ◌+◌, nat_lt, Bool, true, false, if◌then◌else◌, List, [], ◌∷◌, length, map, take, All, Option, Some, None, Result, Ok, Err, option_and_then}
use Rattle.task_text.specs.TaskLines.{fault_of, line_of, IsTask}
use Rattle.task_text.specs.declared.task.Task.{Task}
use Rattle.task_text.specs.declared.error.TaskError.{TaskError}
use Rattle.task_text.specs.declared.error.TaskError.TheVariants as fault
use Rattle.cli_words.specs.declared.refusals.Reason.{Reason}
use Rattle.cli_words.specs.declared.refusals.Reason.TheVariants.{Word, Key, Unsendable, ChunkKey, File, Name, Long, Many, Large}
use Rattle.cli_words.specs.TaskInput.InputLines.{lines_of}
use Rattle.cli_words.specs.declared.task_input.limits.Limits.{Limits}
use Rattle.cli_words.specs.declared.task_input.error.InputError.{InputError}
use Rattle.cli_words.specs.declared.task_input.error.InputError.TheVariants.{Refused}

-- ---- one line

-- why a line with that fault is refused
abbrev pub reason_for : TaskError → Option Reason
reason_for fault.Word = Some Word
reason_for fault.Key = Some Key
reason_for fault.Unsendable = Some Unsendable
reason_for fault.ChunkKey = Some ChunkKey
reason_for fault.File = Some File
reason_for fault.Name = Some Name
reason_for fault.NoMemory = None

-- why the line of that number is refused, if it is: it is one too many, or too long, or no task
abbrev pub reason_of : Limits → ℕ → List ℕ → Option Reason
reason_of limits number line =
    if nat_lt limits.lines number then Some Many
    else if nat_lt limits.line (length line) then Some Long
    else option_and_then reason_for (fault_of line)

-- ---- all lines

-- a line of that number, where there is a reason; else what follows
abbrev pub refused_or : ℕ → Option Reason → Option (ℕ × Reason) → Option (ℕ × Reason)
refused_or number (Some reason) next = Some (number, reason)
refused_or number None next = next

-- the first refused line and its reason, where the first line has that number
abbrev pub first_refused : Limits → ℕ → List (List ℕ) → Option (ℕ × Reason)
first_refused limits number [] = None
first_refused limits number (line ∷ lines) = refused_or number (reason_of limits number line) (first_refused limits (number + 1) lines)

-- the input has more bytes than it may have
abbrev pub is_large : Limits → List ℕ → Bool
is_large limits bytes = nat_lt limits.bytes (length bytes)

-- the lines before the one in which the input passes its limit; all, where it doesn't
abbrev pub lines_within : Limits → List ℕ → List (List ℕ)
lines_within limits bytes = if is_large limits bytes then lines_of false (take limits.bytes bytes) else lines_of true bytes

abbrev pub or_large : Bool → ℕ → Option (ℕ × Reason) → Option (ℕ × Reason)
or_large large before (Some refused) = Some refused
or_large true before None = Some (before + 1, Large)
or_large false before None = None

-- the first refused line of an input, counted from 1, and its reason
abbrev pub refused_in : Limits → List ℕ → Option (ℕ × Reason)
refused_in limits bytes =
    or_large (is_large limits bytes) (length (lines_within limits bytes)) (first_refused limits 1 (lines_within limits bytes))

-- ---- what an input comes to

-- the lines are those of the tasks
pub record AreTasks (tasks : List Task) (lines : List (List ℕ)) : Type 0 where
  pub whole : lines ≡ map line_of tasks
  pub each : All IsTask tasks

-- no line is refused, and these are the tasks; or this line is the first that is refused
abbrev pub IsInput : Limits → List ℕ → Result (List Task) InputError → Type 0
IsInput limits bytes (Ok tasks) = (refused_in limits bytes ≡ None) × AreTasks tasks (lines_of true bytes)
IsInput limits bytes (Err (Refused line reason)) = refused_in limits bytes ≡ Some (line, reason)
IsInput limits bytes (Err fault) = Unit {0}
