-- What the run of a rehearsal comes to.
use Rattle.ann_outside.specs.Told.{DeskTold}
use Rattle.std.specs.Prelude.{ℕ, ◌≡◌, ◌⊎◌, Bool, true, false, List, [], replicate, codes, None, Result, MatchResult}
use Rattle.ann_key.specs.declared.bytes.NoMemory.{NoMemory}
use Rattle.ann_outside.specs.Desks.{no_counts}
use Rattle.journal_model.specs.declared.answer.Answer.{Answer}
use Rattle.journal_model.specs.declared.verdict.Why.TheVariants.{ReadFault}
use Rattle.journal_model.specs.declared.entry.What.{What}
use Rattle.journal_model.specs.declared.entry.What.TheVariants.{NoStart, Mute, End}
use Rattle.journal_model.specs.declared.entry.Entry.{Entry}
use Rattle.journal_model.specs.declared.opening.Opening.{Opening}
use Rattle.journal_model.specs.Due.{replies_at}
use Rattle.journal_model.specs.Journal.{any}
use Rattle.journal_model.specs.Projection.{JobFits}
use Rattle.journal_audit.specs.Audits.{IsAudit}
use Rattle.journal_audit.specs.declared.found.Audit.{Audit}
use Rattle.host_core.specs.Steps.{are_all_claimed}
use Rattle.child_link.specs.Wires.{WireValue}
use Rattle.task_model.specs.declared.setup.Setup.{Setup}
use Rattle.run_children.specs.JobRuns.{RanJobs}
use Rattle.run_children.specs.JobsKeep.{JobsKeep}
use Rattle.run_children.specs.JobsWell.{JobsSucceed}
use Rattle.rehearse_plan.specs.Plans.{opening_of}
use Rattle.run_answers.specs.Answers.{AreAnswers}
use Rattle.rehearse_command.specs.declared.made.RehearsalEnd.{RehearsalEnd}
use Rattle.rehearse_command.specs.declared.made.RehearsalEnd.TheVariants.{Memory, Done}
use Rattle.rehearse_command.specs.declared.ready.Ready.{Ready}

-- what all its tasks have in common
abbrev pub setup : Setup
setup = record { work = codes "."; stamp = 0; chunk = 64 }

-- all is ready for the tasks of the core's opening
pub record IsReady (r : Ready) : Type 0 where
  pub empty : r.core.journal ≡ []
  pub tasks_are : r.tasks ≡ r.core.opening.tasks
  pub starts : r.plan.starts ≡ 1
  pub offers : r.plan.offers ≡ true
  pub setup_is : r.plan.setup ≡ setup

-- a desk that tells no calls, and has counted nothing
abbrev pub untold : DeskTold
untold = record { counts = no_counts; files = None; log = None }

-- no value counts any
abbrev pub CountsNone : {X : Type 0} → (X → ℕ) → Type 0
CountsNone {X} counts = (x : X) → counts x ≡ 0

-- neither half of the wire counted a fault
abbrev pub IsQuiet : WireValue → Type 0
IsQuiet wire = (wire.read_faults ≡ 0) × (wire.write_faults ≡ 0)

-- a start that gave no child, a child that can't be written to, or one that can't be read from
abbrev pub is_fault : What → Bool
is_fault (NoStart slot) = true
is_fault (Mute child) = true
is_fault (End child ReadFault) = true
is_fault w = false

-- The opening's tasks were done by four workers, each with a fresh desk, over children that are started once in each slot. Each job's part
-- fits. Where all went well from outside, each task succeeded, or memory was wanted; where the remote was faithful, gets kept what stores
-- sent. Nothing failed at a child.
pub record IsRunOf (o : Opening) (journal : List Entry) : Type 0 where
  pub desks : List DeskTold
  pub ran : RanJobs o setup true 1 journal (replicate 4 untold) desks
  pub parts : (c j : ℕ) → JobFits (replies_at o journal) journal c j
  pub succeeds : JobsSucceed o setup 1 journal [] journal 1 (replicate 4 untold) desks
  pub keeps : JobsKeep o setup journal
  pub faultless : any is_fault journal ≡ false

-- so all tasks were done; or no memory was found, and perhaps some were
abbrev pub HasRun : Opening → List Entry → Result (Unit {0}) NoMemory → Type 0
HasRun o journal result = MatchResult result (λ _. IsRunOf o journal × (are_all_claimed o journal ≡ true)) (λ _. (journal ≡ []) ⊎ IsRunOf o journal)

-- there is an answer for each task, and this was found of the journal; or no memory was found
abbrev pub Finds : Opening → List Entry → List Answer → RehearsalEnd → Type 0
Finds o journal answers Memory = answers ≡ []
Finds o journal answers (Done found) = AreAnswers o journal answers × IsAudit o journal found

-- all tasks were done and answered so, and this was found of the journal
pub record IsWhole (o : Opening) (journal : List Entry) (answers : List Answer) (found : Audit) : Type 0 where
  pub run : IsRunOf o journal
  pub all : are_all_claimed o journal ≡ true
  pub answers_are : AreAnswers o journal answers
  pub audit : IsAudit o journal found

-- so it is, or no memory was found
abbrev pub EndsRun : Opening → List Entry → List Answer → RehearsalEnd → Type 0
EndsRun o journal answers Memory = ((journal ≡ []) ⊎ IsRunOf o journal) × (answers ≡ [])
EndsRun o journal answers (Done found) = IsWhole o journal answers found

-- what a rehearsal of so many tasks by that seed comes to
abbrev pub HasRehearsed : ℕ → ℕ → List Entry → List Answer → RehearsalEnd → Type 0
HasRehearsed seed tasks journal answers end = EndsRun (opening_of seed tasks) journal answers end
