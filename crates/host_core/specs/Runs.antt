-- What is kept of each task, so that a claim and an answer needn't go through the journal.
use Rattle.std.specs.Prelude.{ℕ, ◌≡◌, ◌+◌, ◌-◌, ◌<◌, ◌==◌, ◌^◌, not, Bool, false, List, length, Option, Some, None}
use Rattle.std.specs.List.{slice_index_or, slice_set}
use Rattle.journal_model.specs.declared.entry.What.{What}
use Rattle.journal_model.specs.declared.entry.What.TheVariants.{Claim, Answer as Answered, Again}
use Rattle.journal_model.specs.declared.entry.Entry.{Entry}
use Rattle.journal_model.specs.declared.opening.Opening.{Opening}
use Rattle.journal_model.specs.Legality.{count, renews, holder, is_held_over_child}
use Rattle.host_core.specs.declared.runs.Run.{Run}

-- of a task of which nothing was done
abbrev pub no_run : Run
no_run = record { renewed = 0; over_child = false }

-- what the table says of the task; past its end it says that nothing was done
abbrev pub run_in : List Run → ℕ → Run
run_in runs t = slice_index_or runs t no_run

-- the table says of each number what the journal does, and has a place for each task
pub record AreRuns (o : Opening) (past : List Entry) (runs : List Run) : Type 0 where
  pub long : length runs ≡ length o.tasks + 1
  pub renewed : (t : ℕ) → (run_in runs t).renewed ≡ count (renews t) past
  pub over_child : (t : ℕ) → (run_in runs t).over_child ≡ is_held_over_child (holder past t)

-- ---- the table after a group, of which this is the first entry

-- the task is held for a child, or not
abbrev pub held_so : Bool → Run → Run
held_so over run = record { renewed = run.renewed; over_child = over }

-- it is to be run again
abbrev pub run_again : Run → Run
run_again run = record { renewed = run.renewed + 1; over_child = false }

abbrev pub runs_by : What → List Run → List Run
runs_by (Claim task child) runs = slice_set runs task (held_so (not (child == 0)) (run_in runs task))
runs_by (Answered task answer) runs = slice_set runs task (held_so false (run_in runs task))
runs_by (Again task answer) runs = slice_set runs task (run_again (run_in runs task))
runs_by w runs = runs

abbrev pub runs_after : Option What → List Run → List Run
runs_after None runs = runs
runs_after (Some w) runs = runs_by w runs

-- where the entry says that a task is to be run again, that can be counted
abbrev pub IsCounted : Option What → List Run → Type 0
IsCounted (Some (Again task answer)) runs = (run_in runs task).renewed < 2 ^ 8 - 1
IsCounted what runs = Unit {0}
