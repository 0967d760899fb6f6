-- What comes of a run, by its end.
use Rattle.ann_outside.specs.Told.{DeskTold}
use Rattle.std.specs.Prelude.{ℕ, ◌≡◌, ◌⊎◌, ◌≤◌, ◌<◌, true, List, [], ◌∷◌, ◌++◌, length, map, Option, Some, None, IfSome, Result, Ok, Err}
use Rattle.std.specs.List.{range_with_len}
use Rattle.ann_key.specs.declared.bytes.NoMemory.{NoMemory}
use Rattle.ann_outside.specs.Causes.{Rose}
use Rattle.ann_outside.specs.Calls.{log_origin, IsLogBlank, IsLogFrom}
use Rattle.ann_outside.specs.Desks.{Made, no_counts}
use Rattle.ann_outside.specs.Files.{Files, WhereTold, OthersStay}
use Rattle.ann_outside.specs.Played.{ArePlayed}
use Rattle.ann_outside.specs.TextFile.Names.{CallsName}
use Rattle.ann_outside.specs.TextFile.Writes.{IsReplacedBy}
use Rattle.task_text.specs.declared.task.Task.{Task}
use Rattle.kept_file.specs.Text.KeptFiles.{bad_line}
use Rattle.kept_file.specs.declared.desk.TheConstants.{MOST_BYTES}
use Rattle.kept_file.specs.declared.desk.writing.KeptWritten.{KeptWritten}
use Rattle.kept_file.specs.declared.desk.writing.KeptWritten.TheVariants as W
use Rattle.journal_text.specs.File.JournalDesks.{HasWriteCauses, IsWrittenIn, journal_text}
use Rattle.journal_text.specs.declared.file.writing.JournalWritten.{JournalWritten}
use Rattle.journal_text.specs.declared.file.writing.JournalWritten.TheVariants as J
use Rattle.cli_words.specs.declared.command.RunWords.{RunWords}
use Rattle.cli_words.specs.declared.task_input.error.InputError.TheVariants as input
use Rattle.cli_words.specs.declared.task_input.limits.TheConstants.Limits.{TASKS}
use Rattle.journal_model.specs.declared.answer.Answer.{Answer}
use Rattle.journal_model.specs.declared.entry.Entry.{Entry}
use Rattle.journal_model.specs.declared.opening.Opening.{Opening}
use Rattle.journal_model.specs.Due.{replies_at}
use Rattle.journal_model.specs.Projection.{JobFits}
use Rattle.host_core.specs.Steps.{are_all_claimed}
use Rattle.child_link.specs.Wires.{WireValue}
use Rattle.child_life.specs.End.Programs.{Leaves}
use Rattle.child_life.specs.End.Outsides.{OutsideValue}
use Rattle.run_children.specs.JobsKeep.{JobsKeep}
use Rattle.run_children.specs.JobsWell.{JobsSucceed}
use Rattle.run_children.specs.JobRuns.{RanJobs}
pub use Rattle.audit_command.specs.Recoveries.{IsKeptFile, IsNewOf, kept_after}
pub use Rattle.run_answers.specs.Answers.{answer_for, answer_of, AreAnswers}
use Rattle.run_and_check.specs.Run.Inputs.{InputFlow, IsUnread, IsTaken, IsTextFor, IsRunOpening, run_setup}
use Rattle.run_and_check.specs.declared.run.made.RunEnd.{RunEnd}
use Rattle.run_and_check.specs.declared.run.made.RunEnd.TheVariants.{BadKept, KeptTooLarge, FileFailed, InputFailed, Refused, Memory, Done}

-- what a run leaves, as contracts see it
pub record MadeValue : Type 0 where
  pub journal : List Entry
  pub answers : List Answer
  pub wires : List WireValue
  pub tables : List DeskTold
  pub end : RunEnd

-- ---- the run

-- no call was made on the desk, and it counted nothing
pub record IsFresh (desk : DeskTold) : Type 0 where
  pub blank : IsLogBlank desk.log
  pub uncounted : desk.counts ≡ no_counts

-- so is each of them
abbrev pub AreFresh : List DeskTold → Type 0
AreFresh [] = Unit {0}
AreFresh (desk ∷ desks) = IsFresh desk × AreFresh desks

-- From the opening that the words, the kept file, the input and the clock give, the tasks were done by as many
-- workers as the words say, each with a fresh desk, and each job's part fits. Where all went well from outside, each task succeeded, or
-- memory was wanted; where the remote was faithful, gets kept what stores sent.
pub record IsRunOf (words : RunWords) (clock : Option ℕ) (told : Option Files) (flow : InputFlow) (workers : List DeskTold) (journal : List Entry) : Type 0 where
  pub stamp : ℕ
  pub at : IfSome clock (λ n. stamp ≡ n)
  pub kept : List ℕ
  pub text : IsTextFor words told kept
  pub right : bad_line kept ≡ None
  pub tasks : List Task
  pub input : IsTaken TASKS flow (Ok tasks)
  pub opening : Opening
  pub begins : IsRunOpening words kept tasks stamp opening
  pub before : List DeskTold
  pub many : (length before ≡ words.jobs) × (length workers ≡ words.jobs)
  pub fresh : AreFresh before
  pub ran : RanJobs opening (run_setup words stamp) true words.starts journal before workers
  pub parts : (c j : ℕ) → JobFits (replies_at opening journal) journal c j
  pub succeeds : JobsSucceed opening (run_setup words stamp) words.starts journal [] journal 1 before workers
  pub keeps : JobsKeep opening (run_setup words stamp) journal

-- ---- the kept file

-- a file of a run at desk 0: one of those, or the journal file
abbrev pub IsRunFile : RunWords → List ℕ → Type 0
IsRunFile words other = IsKeptFile words.keep other ⊎ (words.journal ≡ Some other)

-- all files of the desk are as before but that one, where files are told
abbrev pub RunFilesStay : RunWords → Option Files → DeskTold → Type 0
RunFilesStay words told table = WhereTold told table.files (OthersStay (IsNewOf words.keep))

-- the desk counted a fault, or a missing file where it tells no files
abbrev pub HasFailed : Option Files → DeskTold → Type 0
HasFailed told table = Rose 0 table.counts.faults ⊎ ((told ≡ None) × Rose 0 table.counts.missing)

-- it was written in the place of the kept file, or that is as before
abbrev pub IsKeptIn : RunWords → List ℕ → Option Files → DeskTold → Opening → List Entry → KeptWritten → Type 0
IsKeptIn words name told table o journal W.Done = WhereTold told table.files (IsReplacedBy name (kept_after o journal) (Ok tt))
IsKeptIn words name told table o journal W.TooLarge = (MOST_BYTES < length (kept_after o journal)) × RunFilesStay words told table
IsKeptIn words name told table o journal W.Fault = HasFailed told table × RunFilesStay words told table

-- so it is, where the words name a kept file; and where they name none, nothing was kept
abbrev pub IsRunKept : RunWords → Option Files → DeskTold → Opening → List Entry → KeptWritten → Type 0
IsRunKept words told table o journal written = go words.keep
  where
    go : Option (List ℕ) → Type 0
    go None = (written ≡ W.Done) × RunFilesStay words told table
    go (Some name) = IsKeptIn words name told table o journal written

-- ---- the journal file

-- where the words name a journal file, the text of the run was written in it, or a call failed or no memory was found; and
-- where they name none, nothing changed
abbrev pub IsJournaled : RunWords → DeskTold → DeskTold → Opening → List Entry → Result JournalWritten NoMemory → Type 0
IsJournaled words before after o journal result = go words.journal
  where
    go : Option (List ℕ) → Type 0
    go None = (result ≡ Ok J.Done) × (after ≡ before)
    go (Some name) =
        WhereTold before.files after.files (IsWrittenIn name (journal_text o journal) result) × HasWriteCauses before.files before.counts after.counts result

-- what is told of both files: what came of the kept file, or that the journal file failed where only that did
abbrev pub told_of : KeptWritten → JournalWritten → KeptWritten
told_of W.Done J.Fault = W.Fault
told_of kept journal = kept

-- the kept file was written first and the journal file then, with the desk as `mid` between, and this is told of both
pub record AreWritten (words : RunWords) (told : Option Files) (table : DeskTold) (o : Opening) (journal : List Entry) (written : KeptWritten) : Type 0 where
  pub mid : DeskTold
  pub of_kept : KeptWritten
  pub kept : IsRunKept words told mid o journal of_kept
  pub of_journal : JournalWritten
  pub journaled : IsJournaled words mid table o journal (Ok of_journal)
  pub told_is : written ≡ told_of of_kept of_journal

-- this came of the kept file, and then no memory was found for the journal file
pub record IsCutShort (words : RunWords) (told : Option Files) (table : DeskTold) (o : Opening) (journal : List Entry) : Type 0 where
  pub mid : DeskTold
  pub of_kept : KeptWritten
  pub kept : IsRunKept words told mid o journal of_kept
  pub want : NoMemory
  pub journaled : IsJournaled words mid table o journal (Err want)

-- ---- its end

-- no task was begun: nothing was started, no worker's desk was asked for, and the kept file is as before
pub record IsUnbegun (words : RunWords) (told : Option Files) (table : DeskTold) (workers : List DeskTold) (made : MadeValue) : Type 0 where
  pub journal : made.journal ≡ []
  pub none : workers ≡ []
  pub before : RunFilesStay words told table

-- the text of the kept file, which was read before anything else, is so
abbrev pub HasText : RunWords → Option Files → (List ℕ → Type 0) → Type 0
HasText words told P = (kept : List ℕ) × IsTextFor words told kept × P kept

-- the run is whole: each task was answered, these are the answers, and this came of the kept file and the journal file
pub record IsWholeRun (words : RunWords) (clock : Option ℕ) (told : Option Files) (flow : InputFlow) (table : DeskTold) (workers : List DeskTold) (made : MadeValue) (written : KeptWritten) : Type 0 where
  pub run : IsRunOf words clock told flow workers made.journal
  pub all : are_all_claimed run.opening made.journal ≡ true
  pub answers : AreAnswers run.opening made.journal made.answers
  pub files : AreWritten words told table run.opening made.journal written

-- all tasks were done, and no memory was found for the journal file
pub record LacksJournal (words : RunWords) (clock : Option ℕ) (told : Option Files) (flow : InputFlow) (table : DeskTold) (workers : List DeskTold) (made : MadeValue) : Type 0 where
  pub run : IsRunOf words clock told flow workers made.journal
  pub all : are_all_claimed run.opening made.journal ≡ true
  pub files : IsCutShort words told table run.opening made.journal

abbrev pub EndsRun : RunWords → Option ℕ → Option Files → InputFlow → DeskTold → List DeskTold → MadeValue → RunEnd → Type 0
EndsRun words clock told flow table workers made (BadKept line) =
    IsUnbegun words told table workers made × IsUnread flow × HasText words told (λ kept. bad_line kept ≡ Some line)
EndsRun words clock told flow table workers made KeptTooLarge =
    IsUnbegun words told table workers made × IsUnread flow × HasText words told (λ kept. MOST_BYTES < length kept)
EndsRun words clock told flow table workers made FileFailed = IsUnbegun words told table workers made × IsUnread flow × Rose 0 table.counts.faults
EndsRun words clock told flow table workers made InputFailed =
    IsUnbegun words told table workers made × Rose flow.faults flow.faults' × HasText words told (λ kept. bad_line kept ≡ None)
EndsRun words clock told flow table workers made (Refused line reason) =
    IsUnbegun words told table workers made × IsTaken TASKS flow (Err (input.Refused line reason)) × HasText words told (λ kept. bad_line kept ≡ None)
EndsRun words clock told flow table workers made Memory =
    (((made.journal ≡ []) ⊎ IsRunOf words clock told flow workers made.journal) × RunFilesStay words told table)
    ⊎ LacksJournal words clock told flow table workers made
EndsRun words clock told flow table workers made (Done written) = IsWholeRun words clock told flow table workers made written

-- there are answers only where the run is whole
abbrev pub IfUnwhole : RunEnd → Type 0 → Type 0
IfUnwhole (Done written) P = Unit {0}
IfUnwhole end P = P

-- where desks tell which were asked for, these were, in this order
abbrev pub AddsMade : Option (List Made) → Option (List Made) → List Made → Type 0
AddsMade None None more = Unit {0}
AddsMade None (Some ys) more = ⊥
AddsMade (Some xs) None more = ⊥
AddsMade (Some xs) (Some ys) more = ys ≡ xs ++ more

-- the files that the logs of desks began with
abbrev pub origins_of : List DeskTold → List (Option (Option Files))
origins_of desks = map (λ (desk : DeskTold). log_origin desk.log) desks

-- where a desk tells its calls, its log began with the files that were told of it when it was made
abbrev pub BeganAs : List Made → List DeskTold → Type 0
BeganAs [] [] = Unit {0}
BeganAs [] (table ∷ tables) = ⊥
BeganAs (m ∷ more) [] = ⊥
BeganAs (m ∷ more) (table ∷ tables) = IsLogFrom table.log m.files × BeganAs more tables

-- where a desk tells its calls and its files, these are what its calls made of those that its log began with
abbrev pub ArePlayedAt : List DeskTold → Type 0
ArePlayedAt [] = Unit {0}
ArePlayedAt (table ∷ tables) = ∥ ArePlayed table.log table.files ∥₁ × ArePlayedAt tables

-- desk 0 was asked for first, and then those of the workers, in turn, as many as the words say at most, and this came of it. Where a desk
-- tells its calls and its files, these are what the calls made of those that it had when it was made; and where desk 0 tells its calls, they
-- name the kept file, the one in which it is made, and the journal file alone.
pub record IsAtDesk (words : RunWords) (clock : Option ℕ) (before : OutsideValue) (flow : InputFlow) (after : OutsideValue) (made : MadeValue) : Type 0 where
  pub told : Option Files
  pub table : DeskTold
  pub workers : List DeskTold
  pub tables : made.tables ≡ table ∷ workers
  pub few : length workers ≤ words.jobs
  pub more : List Made
  pub desks : AddsMade before.made after.made (record { number = 0; files = told } ∷ more)
  pub numbers : map (λ m. m.number) more ≡ range_with_len 1 (length workers)
  pub began : BeganAs (record { number = 0; files = told } ∷ more) (table ∷ workers)
  pub played : ArePlayedAt made.tables
  pub ends : EndsRun words clock told flow table workers made made.end
  pub named : IfSome table.log (λ log. CallsName (IsRunFile words) log.calls)
  pub none : IfUnwhole made.end (made.answers ≡ [])
  pub objects : Leaves (made.end ≡ Memory) words.program made.journal before.programs after.programs made.wires

-- nothing was asked of anything
pub record IsIdle (before : OutsideValue) (flow : InputFlow) (after : OutsideValue) (made : MadeValue) : Type 0 where
  pub outside : after ≡ before
  pub unread : IsUnread flow
  pub journal : made.journal ≡ []
  pub answers : made.answers ≡ []
  pub wires : made.wires ≡ []
  pub tables : made.tables ≡ []

-- so it is, or no memory was found for a desk
abbrev pub HasDone : RunWords → Option ℕ → OutsideValue → InputFlow → OutsideValue → MadeValue → Type 0
HasDone words clock before flow after made = ((made.end ≡ Memory) × IsIdle before flow after made) ⊎ IsAtDesk words clock before flow after made
