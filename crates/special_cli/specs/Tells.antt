-- What is told of a command at its end, and with which status.
use Rattle.std.specs.Prelude.{ℕ, ◌≡◌, ◌⊎◌, List, [], ◌∷◌, ◌++◌, ◌+◌, take, codes, Option, if◌then◌else◌}
use Rattle.std.specs.List.{list_all}
use Rattle.std.specs.Io.KnownBytes.{Appends}
use Rattle.ann_outside.specs.Causes.{Rose}
use Rattle.ann_outside.specs.Told.{SinkTold}
use Rattle.annex_model.specs.Lines.{text}
use Rattle.audit_command.specs.declared.recover.made.KeptEnd.{KeptEnd}
use Rattle.audit_command.specs.declared.recover.made.KeptEnd.TheVariants.{Written, Changed, Fault}
use Rattle.journal_model.specs.declared.answer.Answer.{Answer}
use Rattle.journal_model.specs.declared.entry.Entry.{Entry}
use Rattle.journal_model.specs.Output.{answer_line}
use Rattle.info_and_init.specs.Info.Infos.{info_lines}
use Rattle.info_and_init.specs.Init.Setups.{setup_text}
use Rattle.info_and_init.specs.declared.init.setup.Setup.TheVariants.{Stopped}
use Rattle.kept_file.specs.declared.desk.writing.KeptWritten.{KeptWritten}
use Rattle.kept_file.specs.declared.desk.writing.KeptWritten.TheVariants as W
use Rattle.special_cli.specs.Audits.{found_line, found_status}
use Rattle.special_cli.specs.declared.end.End.{End}
use Rattle.special_cli.specs.declared.end.End.TheVariants.{Usage, Shown, Refused, Memory, Answered, Informed, BadKept, KeptTooLarge, FileFailed, InputFailed, SetUp, NotSetUp, Done, Audited, Rehearsed, Walked, Unbegun, Recovered}
use Rattle.special_cli.specs.Endings.{is_well}
use Rattle.special_cli.specs.Informs.{info_status}
use Rattle.special_cli.specs.Left.{Left}
use Rattle.special_cli.specs.Recoveries.{recovered_lines, recovered_status}
use Rattle.special_cli.specs.Rehearsals.{rehearsal_status, rehearsal_text}
use Rattle.special_cli.specs.Walks.{walk_status, walk_text}
use Rattle.cli_words.specs.Pages.{page_text}
use Rattle.cli_words.specs.Texts.{usage_line, memory_line, refused_line, bad_kept_line, keep_large_line, keep_changed_line, file_line, input_line}

-- what a sink counted and took, before and after
pub record Flow : Type 0 where
  pub faults : ℕ
  pub faults' : ℕ
  pub taken : Option (List ℕ)
  pub taken' : Option (List ℕ)

abbrev pub flow : SinkTold → SinkTold → Flow
flow old new = record { faults = old.faults; faults' = new.faults; taken = old.taken; taken' = new.taken }

-- nothing was written to it
pub record IsSilent (f : Flow) : Type 0 where
  pub faults : f.faults' ≡ f.faults
  pub taken : f.taken' ≡ f.taken

-- the text was written to it, and the status is the one that goes with it
pub record IsWhole (wanted : ℕ) (written : List ℕ) (status : ℕ) (f : Flow) : Type 0 where
  pub status_is : status ≡ wanted
  pub appended : Appends f.taken f.taken' written

-- a write of it failed, after the first bytes of the text, which may be none or all, and the status is 5
pub record IsCut (written : List ℕ) (status : ℕ) (f : Flow) : Type 0 where
  pub status_is : status ≡ 5
  pub rose : Rose f.faults f.faults'
  pub size : ℕ
  pub appended : Appends f.taken f.taken' (take size written)

abbrev pub IsWritten : ℕ → List ℕ → ℕ → Flow → Type 0
IsWritten wanted written status f = IsWhole wanted written status f ⊎ IsCut written status f

-- the text is printed to one sink alone
abbrev pub IsSaid : ℕ → List ℕ → ℕ → Flow → Flow → Type 0
IsSaid wanted written status to other = IsWritten wanted written status to × IsSilent other

-- no memory was found
abbrev pub IsMemoryTold : ℕ → Flow → Flow → Type 0
IsMemoryTold status out err = IsSaid 7 memory_line status err out

-- the text is printed to out, or no memory was found for it
abbrev pub IsPrintedOr : ℕ → List ℕ → ℕ → Flow → Flow → Type 0
IsPrintedOr wanted written status out err = IsSaid wanted written status out err ⊎ IsMemoryTold status out err

-- the text is printed to err, or no memory was found for it
abbrev pub IsWarnedOr : ℕ → List ℕ → ℕ → Flow → Flow → Type 0
IsWarnedOr wanted written status out err = IsSaid wanted written status err out ⊎ IsMemoryTold status out err

-- the first text is written to out, and then the second to err; where a write of the first failed, nothing more is written
abbrev pub IsSaidThen : ℕ → List ℕ → List ℕ → ℕ → Flow → Flow → Type 0
IsSaidThen wanted first second status out err =
    (IsCut first status out × IsSilent err) ⊎ (Appends out.taken out.taken' first × IsWritten wanted second status err)

-- or no memory was found for the first
abbrev pub IsSaidThenOr : ℕ → List ℕ → List ℕ → ℕ → Flow → Flow → Type 0
IsSaidThenOr wanted first second status out err = IsSaidThen wanted first second status out err ⊎ IsMemoryTold status out err

-- ---- the answers

-- the lines of the answers of the tasks from this one on
abbrev pub answer_lines : List Entry → ℕ → List Answer → List ℕ
answer_lines journal task [] = []
answer_lines journal task (answer ∷ answers) = answer_line journal task answer ++ answer_lines journal (task + 1) answers

-- 0 where each is well
abbrev pub answers_status : List Answer → ℕ
answers_status answers = if list_all is_well answers then 0 else 1

-- the answers are printed, and then why what is known was not kept; or no memory was found for the answers
abbrev pub IsUnkeptTold : List Entry → List Answer → List ℕ → ℕ → Flow → Flow → Type 0
IsUnkeptTold journal answers cause status out err = IsSaidThenOr 6 (answer_lines journal 1 answers) cause status out err

-- each task was answered, and what is known was kept or not
abbrev pub IsDoneTold : List Entry → List Answer → KeptWritten → ℕ → Flow → Flow → Type 0
IsDoneTold journal answers W.Done status out err = IsPrintedOr (answers_status answers) (answer_lines journal 1 answers) status out err
IsDoneTold journal answers W.TooLarge status out err = IsUnkeptTold journal answers keep_large_line status out err
IsDoneTold journal answers W.Fault status out err = IsUnkeptTold journal answers file_line status out err

-- ---- a recovery

-- the answers so far are printed, and then why what is known was not kept, where it wasn't
abbrev pub IsRecoveredTold : List Entry → List (Option Answer) → KeptEnd → ℕ → Flow → Flow → Type 0
IsRecoveredTold journal answers (Written W.Done) status out err = IsPrintedOr (recovered_status answers) (recovered_lines journal 1 answers) status out err
IsRecoveredTold journal answers (Written W.TooLarge) status out err = IsSaidThenOr 6 (recovered_lines journal 1 answers) keep_large_line status out err
IsRecoveredTold journal answers (Written W.Fault) status out err = IsSaidThenOr 6 (recovered_lines journal 1 answers) file_line status out err
IsRecoveredTold journal answers Changed status out err = IsSaidThenOr 6 (recovered_lines journal 1 answers) keep_changed_line status out err
IsRecoveredTold journal answers Fault status out err = IsSaidThenOr 6 (recovered_lines journal 1 answers) file_line status out err

-- ---- a setup

-- the remote is set up, and what is set was kept or not
abbrev pub IsSetUpTold : KeptWritten → ℕ → Flow → Flow → Type 0
IsSetUpTold W.Done status out err = IsSaid 0 (codes "initialized" ++ 10 ∷ []) status out err
IsSetUpTold W.TooLarge status out err = IsSaidThen 6 (codes "initialized" ++ 10 ∷ []) keep_large_line status out err
IsSetUpTold W.Fault status out err = IsSaidThen 6 (codes "initialized" ++ 10 ∷ []) file_line status out err

-- ---- the end

abbrev pub IsEndTold : List Entry → List Answer → ℕ → Flow → Flow → End → Type 0
IsEndTold journal answers status out err Usage = IsSaid 2 usage_line status err out
IsEndTold journal answers status out err (Shown page) = IsSaid 0 (page_text page) status out err
IsEndTold journal answers status out err (Refused line reason) = IsWarnedOr 3 (refused_line line reason) status out err
IsEndTold journal answers status out err Memory = IsMemoryTold status out err
IsEndTold journal answers status out err Answered = IsPrintedOr (answers_status answers) (answer_lines journal 1 answers) status out err
IsEndTold journal answers status out err (Informed key) = IsPrintedOr (info_status journal key) (text (info_lines journal key)) status out err
IsEndTold journal answers status out err (BadKept line) = IsWarnedOr 6 (bad_kept_line line) status out err
IsEndTold journal answers status out err KeptTooLarge = IsSaid 6 keep_large_line status err out
IsEndTold journal answers status out err FileFailed = IsSaid 6 file_line status err out
IsEndTold journal answers status out err InputFailed = IsSaid 4 input_line status err out
IsEndTold journal answers status out err (SetUp written) = IsSetUpTold written status out err
IsEndTold journal answers status out err (Done written) = IsDoneTold journal answers written status out err
IsEndTold journal answers status out err (NotSetUp answer) = IsPrintedOr 1 (setup_text journal (Stopped answer)) status out err
IsEndTold journal answers status out err (Audited found) = IsPrintedOr (found_status found) (found_line found) status out err
IsEndTold journal answers status out err (Rehearsed found) = IsPrintedOr (rehearsal_status answers found) (rehearsal_text answers found) status out err
IsEndTold journal answers status out err (Walked tasks equal found) = IsPrintedOr (walk_status tasks answers equal found) (walk_text answers equal found) status out err
IsEndTold journal answers status out err Unbegun = IsSaid 0 [] status out err
IsEndTold journal answers status out err (Recovered so_far kept) = IsRecoveredTold journal so_far.items kept status out err

-- the same of what a command left
abbrev pub IsToldOf : Left → ℕ → Flow → Flow → End → Type 0
IsToldOf left status out err end = IsEndTold left.journal left.answers status out err end
