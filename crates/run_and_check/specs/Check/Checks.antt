-- What a check begins with, and what comes of it.
use Rattle.ann_outside.specs.Told.{DeskTold, ProgramsTold}
use Rattle.std.specs.Prelude.{ℕ, ◌≡◌, false, List, [], ◌∷◌, codes, Option, Some, IfSome}
use Rattle.registers.specs.Registers.{nothing_set}
use Rattle.task_text.specs.declared.task.Work.TheVariants.{Check}
use Rattle.journal_model.specs.declared.answer.Answer.{Answer}
use Rattle.journal_model.specs.declared.entry.Entry.{Entry}
use Rattle.journal_model.specs.declared.opening.Opening.{Opening}
use Rattle.journal_model.specs.Due.{replies_at}
use Rattle.journal_model.specs.Projection.{JobFits}
use Rattle.cli_words.specs.Identities.{nobody}
use Rattle.task_model.specs.declared.setup.Setup.{Setup}
use Rattle.child_link.specs.Wires.{WireValue}
use Rattle.child_life.specs.End.Programs.{Leaves}
use Rattle.run_starts.specs.Rounds.{EndsClosed}
use Rattle.run_children.specs.JobRuns.{RanJobs}
use Rattle.run_answers.specs.Answers.{answer_of}
use Rattle.run_and_check.specs.declared.check.made.CheckEnd.{CheckEnd}
use Rattle.run_and_check.specs.declared.check.made.CheckEnd.TheVariants.{Answered, Memory}

-- the one task, and the clock's answer
abbrev pub check_opening : List ℕ → ℕ → Opening
check_opening key stamp = record {
  tasks = record { work = Check; key = key; file = []; name = []; onto = [] } ∷ [];
  registers = nothing_set;
  notes = [];
  identity = nobody;
  stamp = stamp;
  again = 0;
}

-- a check has no files, and its content has no chunks
abbrev pub check_setup : ℕ → Setup
check_setup stamp = record { work = codes "."; stamp = stamp; chunk = 0 }

-- what a check leaves, as contracts see it
pub record MadeValue : Type 0 where
  pub journal : List Entry
  pub answers : List Answer
  pub wires : List WireValue
  pub end : CheckEnd

-- From the opening that the words and the clock give, where it tells, the one task was done as in a run of one start that doesn't
-- offer ASYNC, by one worker with a desk that is nobody's, and each job's part fits.
pub record IsChecked (told : Option ℕ) (key : List ℕ) (journal : List Entry) : Type 0 where
  pub stamp : ℕ
  pub clock : IfSome told (λ n. stamp ≡ n)
  pub desk : DeskTold
  pub desk' : DeskTold
  pub ran : RanJobs (check_opening key stamp) (check_setup stamp) false 1 journal (desk ∷ []) (desk' ∷ [])
  pub parts : (c j : ℕ) → JobFits (replies_at (check_opening key stamp) journal) journal c j

-- There is one answer, the journal's. After it the child was closed, and nothing else was done.
pub record IsAnswered (journal : List Entry) (answers : List Answer) (answer : Answer) : Type 0 where
  pub one : answers ≡ answer ∷ []
  pub given : answer_of journal 1 ≡ Some answer
  pub closed : EndsClosed journal

-- there is the one answer, or none was found for lack of memory
abbrev pub EndsCheck : List Entry → List Answer → CheckEnd → Type 0
EndsCheck journal answers Answered = (answer : Answer) × IsAnswered journal answers answer
EndsCheck journal answers Memory = answers ≡ []

-- The key was asked for so, and there is left what the run leaves of its objects.
pub record HasChecked (clock : Option ℕ) (program key : List ℕ) (before after : ProgramsTold) (made : MadeValue) : Type 0 where
  pub checked : IsChecked clock key made.journal
  pub ends : EndsCheck made.journal made.answers made.end
  pub objects : Leaves (made.end ≡ Memory) program made.journal before after made.wires
