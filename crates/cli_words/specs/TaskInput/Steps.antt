-- What the parts of a reading do.
use Rattle.std.specs.Prelude.{ℕ, ◌≡◌, ◌+◌, ◌<◌, Bool, true, false, List, ◌++◌, length, Option, Some, None, Result, Ok, Err}
use Rattle.std.specs.Io.KnownBytes.{IsAtEnd}
use Rattle.std.specs.Global.{Vec}
use Rattle.task_text.specs.TaskLines.{SpellsTask}
use Rattle.task_text.specs.declared.task.Task.{Task}
use Rattle.task_text.specs.declared.error.TaskError.{TaskError}
use Rattle.cli_words.specs.declared.refusals.Reason.{Reason}
use Rattle.cli_words.specs.TaskInput.Inputs.{reason_for, reason_of, first_refused, AreTasks}
use Rattle.cli_words.specs.TaskInput.Reads.{IsRead}
use Rattle.cli_words.specs.declared.task_input.limits.Limits.{Limits}
use Rattle.cli_words.specs.declared.task_input.error.InputError.{InputError}
use Rattle.cli_words.specs.declared.task_input.error.InputError.TheVariants.{Refused, NoMemory}

-- ---- lines

abbrev pub error_from : ℕ → Option Reason → InputError
error_from line (Some reason) = Refused line reason
error_from line None = NoMemory

-- what a fault of the line of that number is
abbrev pub error_for : TaskError → ℕ → InputError
error_for fault line = error_from line (reason_for fault)

-- the line of that number is this task, or is refused so
abbrev pub IsTaken : Limits → ℕ → List ℕ → Result Task InputError → Type 0
IsTaken limits number line (Ok task) = (reason_of limits number line ≡ None) × SpellsTask task line
IsTaken limits number line (Err (Refused at reason)) = (at ≡ number) × (reason_of limits number line ≡ Some reason)
IsTaken limits number line (Err fault) = Unit {0}

-- the lines are these tasks, and the number after them is this one; or one of them is refused so
abbrev pub AreTaken : Limits → List (List ℕ) → Result (Vec Task × ℕ) InputError → Type 0
AreTaken limits lines (Ok (tasks, number)) =
    (first_refused limits 1 lines ≡ None) × AreTasks tasks.items lines × (number ≡ length lines + 1)
AreTaken limits lines (Err (Refused line reason)) = first_refused limits 1 lines ≡ Some (line, reason)
AreTaken limits lines (Err fault) = Unit {0}

-- ---- reads

-- the piece, which isn't empty, stands after what was held; or the source is at its end
abbrev pub IsStep : List ℕ → List ℕ → List ℕ → Option (List ℕ) → Result Bool InputError → Type 0
IsStep old new piece left (Ok true) = (new ≡ old ++ piece) × (0 < length piece)
IsStep old new piece left (Ok false) = (new ≡ old) × (length piece ≡ 0) × IsAtEnd left
IsStep old new piece left (Err (Refused line reason)) = ⊥
IsStep old new piece left (Err fault) = Unit {0}

-- all of it is held
abbrev pub Holds : ℕ → List ℕ → Option (List ℕ) → Result (Vec ℕ) InputError → Type 0
Holds limit bytes left (Ok held) = (held.items ≡ bytes) × IsRead limit bytes left
Holds limit bytes left (Err (Refused line reason)) = ⊥
Holds limit bytes left (Err fault) = Unit {0}
