-- Which tasks the desk of each worker was used for, and what it did for them.
use Rattle.ann_outside.specs.Told.{DeskTold}
use Rattle.std.specs.Prelude.{ℕ, ◌≡◌, ◌⊎◌, ◌+◌, ◌-◌, ◌<◌, ◌≤◌, ◌==◌, if◌then◌else◌, List, [], ◌∷◌, ◌++◌, Option, Some, None, nat_lt}
use Rattle.std.specs.List.{cons_option}
use Rattle.ann_outside.specs.Calls.{Gained}
use Rattle.journal_model.specs.declared.entry.What.{What}
use Rattle.journal_model.specs.declared.entry.What.TheVariants.{Claim}
use Rattle.journal_model.specs.declared.entry.Entry.{Entry}
use Rattle.journal_model.specs.declared.opening.Opening.{Opening}
use Rattle.journal_model.specs.Journal.{is_tagged}
use Rattle.journal_model.specs.Legality.{turn_of_task}
use Rattle.task_model.specs.declared.setup.Setup.{Setup}
use Rattle.crew_work.specs.Laws.JournalRuns.{JournalRun}
use Rattle.crew_work.specs.Worker.Works.{CausedInTurn, TaskDone, all_calls, turns_of}
use Rattle.run_children.specs.Unserved.{IsUnserved}

-- ---- which desk

-- The desk, from 1, of a number that claims a task for the child after past. The main thread works with the first. In a round over a
-- child that takes tags the workers have the numbers from 4 on, in one over children that don't, the numbers from 2 on.
abbrev pub desk_of : List Entry → ℕ → ℕ → ℕ
desk_of past by child = if nat_lt by 2 then 1 else if is_tagged past child then by - 3 else by - 1

-- the task that the entry after past claims for the kth desk, and the turn of it that begins so
abbrev pub claimed_for : ℕ → List Entry → ℕ → What → Option (ℕ × ℕ)
claimed_for k past by (Claim task child) = if desk_of past by child == k then Some (task, turn_of_task past task) else None
claimed_for k past by w = None

-- the turns that are claimed for it among the entries, which stand after past, in order
abbrev pub claims_for : ℕ → List Entry → List Entry → List (ℕ × ℕ)
claims_for k past [] = []
claims_for k past (e ∷ rest) = cons_option (claimed_for k past e.by e.what) (claims_for k (past ++ e ∷ []) rest)

-- one of so many desks is the claimed task's
abbrev pub HasDesk : ℕ → List Entry → ℕ → What → Type 0
HasDesk n past by (Claim task child) = (0 < desk_of past by child) × (desk_of past by child ≤ n)
HasDesk n past by w = Unit {0}

-- so it is for each claim of the entries, which stand after past
abbrev pub HaveDesks : ℕ → List Entry → List Entry → Type 0
HaveDesks n past [] = Unit {0}
HaveDesks n past (e ∷ rest) = HasDesk n past e.by e.what × HaveDesks n (past ++ e ∷ []) rest

-- ---- a run of a task that is done

-- It was claimed for a child, and run over it by the number that claimed it, in the layouts that were current then, and closed so.
pub record WorkerRun (o : Opening) (setup : Setup) (journal : List Entry) (r : TaskDone) : Type 0 where
  pub number : ℕ
  pub run : JournalRun o setup r.calls number r.task r.turn journal
  pub child : 0 < run.run.child
  pub answer : run.run.answer ≡ r.answer

-- over a child, or without one, by the main thread and without a call of its desk
abbrev pub IsTaskDone : Opening → Setup → ℕ → List Entry → TaskDone → Type 0
IsTaskDone o setup limit journal r = WorkerRun o setup journal r ⊎ (IsUnserved limit journal r.task r.answer × (r.calls ≡ []))

abbrev pub AreDone : Opening → Setup → ℕ → List Entry → List TaskDone → Type 0
AreDone o setup limit journal [] = Unit {0}
AreDone o setup limit journal (r ∷ rs) = IsTaskDone o setup limit journal r × AreDone o setup limit journal rs

-- ---- what a desk did

-- Each turn of a task that the entries after past claim for the kth desk has its run in the journal, and the desk made the calls of these
-- runs, in the order of their claims, and no others.
pub record DeskDid (o : Opening) (setup : Setup) (limit : ℕ) (journal past entries : List Entry) (k : ℕ) (desk desk' : DeskTold) : Type 0 where
  pub done : List TaskDone
  pub claimed : turns_of done ≡ claims_for k past entries
  pub ran : AreDone o setup limit journal done
  pub log_is : Gained desk.log desk'.log (all_calls done)
  pub caused : CausedInTurn desk.counts done desk'.counts

-- so did each desk, from the kth on
abbrev pub DesksDid : Opening → Setup → ℕ → List Entry → List Entry → List Entry → ℕ → List DeskTold → List DeskTold → Type 0
DesksDid o setup limit journal past entries k [] [] = Unit {0}
DesksDid o setup limit journal past entries k (d ∷ ds) (e ∷ es) = DeskDid o setup limit journal past entries k d e × DesksDid o setup limit journal past entries (k + 1) ds es
DesksDid o setup limit journal past entries k ds es = ⊥
