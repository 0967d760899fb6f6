-- What comes of the tasks of an opening, and of keeping what is known.
use Rattle.ann_outside.specs.Told.{DeskTold}
use Rattle.std.specs.Prelude.{ℕ, ◌≡◌, ◌⊎◌, ◌≤◌, true, List, [], length, map, Option, Result, Ok, Err, MatchResult}
use Rattle.std.specs.List.{range_with_len}
use Rattle.ann_key.specs.declared.bytes.NoMemory.{NoMemory}
use Rattle.ann_outside.specs.Desks.{Made}
use Rattle.ann_outside.specs.Files.{Files}
use Rattle.kept_file.specs.declared.desk.writing.KeptWritten.{KeptWritten}
use Rattle.cli_words.specs.declared.command.RunWords.{RunWords}
use Rattle.journal_model.specs.declared.answer.Answer.{Answer}
use Rattle.journal_model.specs.declared.entry.Entry.{Entry}
use Rattle.journal_model.specs.declared.opening.Opening.{Opening}
use Rattle.journal_model.specs.Due.{replies_at}
use Rattle.journal_model.specs.Projection.{JobFits}
use Rattle.host_core.specs.Steps.{are_all_claimed}
use Rattle.run_children.specs.JobRuns.{RanJobs}
use Rattle.run_and_check.specs.Run.Inputs.{run_setup}
use Rattle.run_and_check.specs.Run.Runs.{BeganAs, AreAnswers, AreFresh, AreWritten, RunFilesStay, IsCutShort, IsRunKept, AddsMade}
use Rattle.run_and_check.specs.declared.run.made.RunEnd.{RunEnd}
use Rattle.run_and_check.specs.declared.run.made.RunEnd.TheVariants.{Memory, Done}
use Rattle.run_and_check.specs.declared.run.rounds.Ready.{Ready}

-- all is ready for the tasks of the core's opening
pub record IsPrepared (words : RunWords) (r : Ready) : Type 0 where
  pub empty : r.core.journal ≡ []
  pub program : r.plan.program ≡ words.program
  pub starts : r.plan.starts ≡ words.starts
  pub offers : r.plan.offers ≡ true
  pub setup : r.plan.setup ≡ run_setup words r.core.opening.stamp
  pub tasks : r.tasks ≡ r.core.opening.tasks

-- ---- the tasks

-- the tasks of the opening were done by as many workers as the words say, each with a fresh desk, and each
-- job's part fits
pub record IsWorked (words : RunWords) (opening : Opening) (workers : List DeskTold) (journal : List Entry) : Type 0 where
  pub before : List DeskTold
  pub many : (length before ≡ words.jobs) × (length workers ≡ words.jobs)
  pub fresh : AreFresh before
  pub ran : RanJobs opening (run_setup words opening.stamp) true words.starts journal before workers
  pub parts : (c j : ℕ) → JobFits (replies_at opening journal) journal c j

-- these are the answers, and this came of the kept file and the journal file
pub record IsFinished (words : RunWords) (told : Option Files) (table : DeskTold) (opening : Opening) (journal : List Entry) (answers : List Answer) (written : KeptWritten) : Type 0 where
  pub answers_are : AreAnswers opening journal answers
  pub files : AreWritten words told table opening journal written

-- no memory was found, and the kept file is as before; or only for the journal file no memory was found
abbrev pub IsWanting : RunWords → Option Files → DeskTold → Opening → List Entry → Type 0
IsWanting words told table opening journal = RunFilesStay words told table ⊎ IsCutShort words told table opening journal

-- so it is, or no memory was found
abbrev pub Finishes : RunWords → Option Files → DeskTold → Opening → List Entry → List Answer → RunEnd → Type 0
Finishes words told table opening journal answers Memory = (answers ≡ []) × IsWanting words told table opening journal
Finishes words told table opening journal answers (Done written) = IsFinished words told table opening journal answers written
Finishes words told table opening journal answers end = ⊥

-- what is known was kept, or no memory was found and the kept file is as before
abbrev pub Keeps : RunWords → Option Files → DeskTold → Opening → List Entry → Result KeptWritten NoMemory → Type 0
Keeps words told table opening journal result =
    MatchResult result (λ written. IsRunKept words told table opening journal written) (λ _. RunFilesStay words told table)

-- both files were written, or no memory was found
abbrev pub Writes : RunWords → Option Files → DeskTold → Opening → List Entry → Result KeptWritten NoMemory → Type 0
Writes words told table opening journal result =
    MatchResult result (λ written. AreWritten words told table opening journal written) (λ _. IsWanting words told table opening journal)

-- the tasks were done, and all of it was kept
pub record IsWhole (words : RunWords) (told : Option Files) (table : DeskTold) (opening : Opening) (workers : List DeskTold) (journal : List Entry) (answers : List Answer) (written : KeptWritten) : Type 0 where
  pub worked : IsWorked words opening workers journal
  pub all : are_all_claimed opening journal ≡ true
  pub finished : IsFinished words told table opening journal answers written

-- the tasks were done, and no memory was found for the journal file
pub record IsUnjournaled (words : RunWords) (told : Option Files) (table : DeskTold) (opening : Opening) (workers : List DeskTold) (journal : List Entry) : Type 0 where
  pub worked : IsWorked words opening workers journal
  pub all : are_all_claimed opening journal ≡ true
  pub files : IsCutShort words told table opening journal

-- the tasks were done, or no memory was found
abbrev pub EndsWork : RunWords → Option Files → DeskTold → Opening → List DeskTold → List Entry → List Answer → RunEnd → Type 0
EndsWork words told table opening workers journal answers Memory =
    ((((journal ≡ []) ⊎ IsWorked words opening workers journal) × RunFilesStay words told table) ⊎ IsUnjournaled words told table opening workers journal)
    × (answers ≡ [])
EndsWork words told table opening workers journal answers (Done written) = IsWhole words told table opening workers journal answers written
EndsWork words told table opening workers journal answers end = ⊥

-- ---- after what a run begins with

-- nothing was done, and this is why
pub record IsStopped (before after : DeskTold) (workers : List DeskTold) (journal : List Entry) (answers : List Answer) (why end : RunEnd) : Type 0 where
  pub end_is : end ≡ why
  pub table_is : after ≡ before
  pub no_workers : workers ≡ []
  pub no_journal : journal ≡ []
  pub no_answers : answers ≡ []

-- the tasks were done, or nothing was where a run doesn't begin
abbrev pub GoesOn : RunWords → DeskTold → DeskTold → List DeskTold → List Entry → List Answer → Result Opening RunEnd → RunEnd → Type 0
GoesOn words before after workers journal answers (Ok opening) end = EndsWork words before.files after opening workers journal answers end
GoesOn words before after workers journal answers (Err why) end = IsStopped before after workers journal answers why end

-- the desks of so many workers were asked for at most, in turn, and where desks tell they tell it
pub record AddsWorkers (jobs : ℕ) (old new : Option (List Made)) (workers : List DeskTold) : Type 0 where
  pub few : length workers ≤ jobs
  pub more : List Made
  pub desks : AddsMade old new more
  pub numbers : map (λ m. m.number) more ≡ range_with_len 1 (length workers)
  pub began : BeganAs more workers
