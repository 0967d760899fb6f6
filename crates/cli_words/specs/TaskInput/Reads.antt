-- What was read of a source.
use Rattle.std.specs.Prelude.{ℕ, ◌≡◌, ◌≤◌, List, length, Option, Result, Ok, Err}
use Rattle.std.specs.Io.KnownBytes.{Appends, Consumes, IsAtEnd}
use Rattle.task_text.specs.declared.task.Task.{Task}
use Rattle.cli_words.specs.TaskInput.Inputs.{IsInput}
use Rattle.cli_words.specs.declared.task_input.limits.Limits.{Limits}
use Rattle.ann_outside.specs.declared.Source.{Ghosts as SourceGhosts}
use Rattle.ann_outside.specs.Causes.{Rose}
use Rattle.cli_words.specs.declared.task_input.error.InputError.{InputError}
use Rattle.cli_words.specs.declared.task_input.error.InputError.TheVariants.{Refused, Failed, NoMemory}

-- what it gave so far grew by these bytes, and what it had left began with them
pub record HasGiven (given given' left left' : Option (List ℕ)) (bytes : List ℕ) : Type 0 where
  pub given_on : Appends given given' bytes
  pub left_on : Consumes left left' bytes

-- the same of a source, from the one to the other
abbrev pub Gave : {S : Type 0} → SourceGhosts S → S → S → List ℕ → Type 0
Gave g old new bytes = HasGiven (g.told old).given (g.told new).given (g.told old).left (g.told new).left bytes

-- the input was read to its end, or to a byte past the limit
abbrev pub IsRead : ℕ → List ℕ → Option (List ℕ) → Type 0
IsRead limit bytes left = length bytes ≤ limit → IsAtEnd left

-- a failure only where the count rose; else the count stays
abbrev pub IsCounted : {T : Type 0} → ℕ → ℕ → Result T InputError → Type 0
IsCounted before now (Ok x) = now ≡ before
IsCounted before now (Err (Refused line reason)) = now ≡ before
IsCounted before now (Err Failed) = Rose before now
IsCounted before now (Err NoMemory) = now ≡ before

-- these bytes come to the result, where the source was read to its end or past the limit. Nothing is said where it failed, and
-- where no memory was found
abbrev pub InputComesTo : Limits → List ℕ → Option (List ℕ) → Result (List Task) InputError → Type 0
InputComesTo limits bytes left (Ok tasks) = IsRead limits.bytes bytes left × IsInput limits bytes (Ok tasks)
InputComesTo limits bytes left (Err (Refused line reason)) = IsRead limits.bytes bytes left × IsInput limits bytes (Err (Refused line reason))
InputComesTo limits bytes left (Err fault) = Unit {0}
