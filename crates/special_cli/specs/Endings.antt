-- Which words and keys end a call before any child, and what is told of a check.
use Rattle.std.specs.Prelude.{ℕ, ◌≡◌, ◌⊎◌, if◌then◌else◌, Bool, true, false, List, [], take, Option, Some, None}
use Rattle.std.specs.Io.KnownBytes.{Appends}
use Rattle.ann_outside.specs.Causes.{Stays}
use Rattle.journal_model.specs.declared.answer.Answer.{Answer}
use Rattle.journal_model.specs.declared.answer.Answer.TheVariants.{Stored, Got, Present, Dropped, Renamed}
use Rattle.journal_model.specs.Output.{answer_line}
use Rattle.journal_model.specs.declared.entry.Entry.{Entry}
use Rattle.cli_words.specs.declared.command.Command.{Command}
use Rattle.cli_words.specs.declared.command.Command.TheVariants.{Check, Info, Init, Run}
use Rattle.cli_words.specs.declared.command.InitWords.{InitWords}
use Rattle.cli_words.specs.declared.command.RunWords.{RunWords}
use Rattle.cli_words.specs.Refusals.{reason_refused, refusal_if, unless}
use Rattle.run_and_check.specs.Check.Checks.{IsAnswered}
use Rattle.cli_words.specs.declared.refusals.Reason.{Reason}

-- the key of a check or an info is refused so
abbrev pub refused_in : Option Command → Option Reason
refused_in (Some (Check program key)) = reason_refused key
refused_in (Some (Info program key)) = refusal_if key
refused_in wish = None

-- the program and the key of a check whose key is not refused
abbrev pub check_in : Option Command → Option (List ℕ × List ℕ)
check_in (Some (Check program key)) = unless (reason_refused key) (program, key)
check_in wish = None

-- the program of an info, and its key where it has one, which is not refused
abbrev pub info_in : Option Command → Option (List ℕ × Option (List ℕ))
info_in (Some (Info program key)) = unless (refusal_if key) (program, key)
info_in wish = None

-- the words of an init
abbrev pub init_in : Option Command → Option InitWords
init_in (Some (Init words)) = Some words
init_in wish = None

-- the words of a run
abbrev pub tasks_in : Option Command → Option RunWords
tasks_in (Some (Run words)) = Some words
tasks_in wish = None

-- the program of such a check or info, of an init, or of a run
abbrev pub run_in : Option Command → Option (List ℕ)
run_in (Some (Check program key)) = unless (reason_refused key) program
run_in (Some (Info program key)) = unless (refusal_if key) program
run_in (Some (Init words)) = Some words.program
run_in (Some (Run words)) = Some words.program
run_in wish = None

-- ---- the answer

-- the task did what it was to do
abbrev pub is_well : Answer → Bool
is_well Stored = true
is_well Got = true
is_well Present = true
is_well Dropped = true
is_well Renamed = true
is_well answer = false

-- the status of an answer that was printed
abbrev pub status_of : Answer → ℕ
status_of answer = if is_well answer then 0 else 1

-- out gained the text, and the status is the one that goes with it; or at status 5 or 7 it gained the first bytes of the text,
-- which may be none or all
abbrev pub IsPrinted : ℕ → Option (List ℕ) → Option (List ℕ) → List ℕ → ℕ → Type 0
IsPrinted status taken taken' text wanted =
    ((status ≡ wanted) × Appends taken taken' text)
    ⊎ (((status ≡ 5) ⊎ (status ≡ 7)) × ((n : ℕ) × Appends taken taken' (take n text)))

-- no memory was found, or the line that says so could not be written
abbrev pub LacksMemory : ℕ → Type 0 → Type 0
LacksMemory status err_rose = (status ≡ 7) ⊎ ((status ≡ 5) × err_rose)

-- no memory was found for an answer, and nothing was printed to out
pub record IsUnanswered (status : ℕ) (err_rose : Type 0) (taken taken' : Option (List ℕ)) (answers : List Answer) : Type 0 where
  pub none : answers ≡ []
  pub silent : Stays taken taken'
  pub status_is : LacksMemory status err_rose

abbrev pub IsTold : ℕ → Type 0 → Option (List ℕ) → Option (List ℕ) → List Entry → List Answer → Type 0
IsTold status err_rose taken taken' journal answers =
    ((answer : Answer) × IsAnswered journal answers answer × IsPrinted status taken taken' (answer_line journal 1 answer) (status_of answer))
    ⊎ IsUnanswered status err_rose taken taken' answers
