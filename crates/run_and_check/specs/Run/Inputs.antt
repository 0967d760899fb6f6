-- What a run was given: its input, and what the words, the kept file and the clock make of it.
use Rattle.std.specs.Prelude.{ℕ, ◌≡◌, List, [], Option, Some, None, IfSome, Result}
use Rattle.ann_outside.specs.Files.{Files}
use Rattle.ann_outside.specs.Told.{SourceTold}
use Rattle.task_text.specs.declared.task.Task.{Task}
use Rattle.registers.specs.Registers.{RegisterFile}
use Rattle.task_text.specs.declared.chunk_log.note.Note.{Note}
use Rattle.kept_file.specs.Text.KeptFiles.{registers_of, notes_of, CountsAs}
use Rattle.kept_file.specs.Desk.KeptDesks.{text_at}
use Rattle.cli_words.specs.Identities.{run_identity}
use Rattle.cli_words.specs.declared.command.RunWords.{RunWords}
use Rattle.journal_model.specs.declared.opening.Opening.{Opening}
use Rattle.task_model.specs.declared.setup.Setup.{Setup}
use Rattle.cli_words.specs.TaskInput.Inputs.{IsInput}
use Rattle.cli_words.specs.TaskInput.Reads.{HasGiven, IsCounted, InputComesTo}
use Rattle.cli_words.specs.declared.task_input.limits.Limits.{Limits}
use Rattle.cli_words.specs.declared.task_input.error.InputError.{InputError}

-- ---- the input

-- what a source tells before and after: what it gave, what it has left, and how often it failed
pub record InputFlow : Type 0 where
  pub given : Option (List ℕ)
  pub given' : Option (List ℕ)
  pub left : Option (List ℕ)
  pub left' : Option (List ℕ)
  pub faults : ℕ
  pub faults' : ℕ

abbrev pub input_flow : SourceTold → SourceTold → InputFlow
input_flow old new = record { given = old.given; given' = new.given; left = old.left; left' = new.left; faults = old.faults; faults' = new.faults }

-- nothing was read of it
pub record IsUnread (input : InputFlow) : Type 0 where
  pub given : input.given' ≡ input.given
  pub left : input.left' ≡ input.left
  pub faults : input.faults' ≡ input.faults

-- It was read to its end, or to a byte past the limit, and what was read comes to this; where it told at first what it holds,
-- that comes to it.
pub record IsTaken (limits : Limits) (input : InputFlow) (result : Result (List Task) InputError) : Type 0 where
  pub bytes : List ℕ
  pub gave : HasGiven input.given input.given' input.left input.left' bytes
  pub comes : InputComesTo limits bytes input.left' result
  pub told : IfSome input.left (λ all. IsInput limits all result)
  pub counted : IsCounted input.faults input.faults' result

-- ---- the kept file

-- where the words name a kept file and files are told, it has this text, which is empty where there is none; and where they
-- name none, the text is empty
abbrev pub IsTextFor : RunWords → Option Files → List ℕ → Type 0
IsTextFor words told kept = go words.keep told
  where
    go : Option (List ℕ) → Option Files → Type 0
    go None told = kept ≡ []
    go (Some name) None = Unit {0}
    go (Some name) (Some files) = kept ≡ text_at name files

-- ---- the opening

-- the tasks, what was kept, the identity of the words, the clock's answer, and how often the words let a task be run again
abbrev pub run_opening : RunWords → List Task → RegisterFile → List Note → ℕ → Opening
run_opening words tasks registers notes stamp = record {
  tasks = tasks;
  registers = registers;
  notes = notes;
  identity = run_identity words;
  stamp = stamp;
  again = words.again;
}

-- the opening is that, over what the text of the kept file hands on
pub record IsRunOpening (words : RunWords) (kept : List ℕ) (tasks : List Task) (stamp : ℕ) (opening : Opening) : Type 0 where
  pub notes : List Note
  pub counts : CountsAs notes (notes_of kept)
  pub is : opening ≡ run_opening words tasks (registers_of kept) notes stamp

-- what all its tasks have in common
abbrev pub run_setup : RunWords → ℕ → Setup
run_setup words stamp = record { work = words.work; stamp = stamp; chunk = words.chunk }
