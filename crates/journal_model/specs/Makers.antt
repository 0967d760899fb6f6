-- Who made which entries, and which entries are a task's.
use Rattle.std.specs.Prelude.{ℕ, ◌≡◌, ◌<◌, ◌==◌, ◌&&◌, ◌||◌, not, if◌then◌else◌, Bool, true, false, List, [], ◌∷◌, Option, is_none, filter, map}
use Rattle.std.specs.List.{list_any}
use Rattle.journal_model.specs.declared.entry.What.{What}
use Rattle.journal_model.specs.declared.entry.What.TheVariants.{Claim, Ask, Lost, Answer as Answered, Note as Noted, Again}
use Rattle.journal_model.specs.declared.entry.Entry.{Entry}
use Rattle.journal_model.specs.declared.verdict.Verdict.{Verdict}
use Rattle.journal_model.specs.Journal.{each_of, verdict_of}
use Rattle.journal_model.specs.declared.holder.Holder.{Holder}
use Rattle.journal_model.specs.Legality.{claims, is_busy, is_claimed, is_held_by, job_for, turned}

-- the entries that this number made
abbrev pub made_by_number : ℕ → List Entry → List Entry
made_by_number number entries = filter (λ e. e.by == number) entries

-- the task is claimed, asks, stands for a request that was lost, notes its chunks, is answered, or is to be run again
abbrev pub is_of_task : ℕ → What → Bool
is_of_task t (Claim task child) = task == t
is_of_task t (Ask child job task line) = task == t
is_of_task t (Lost child task) = task == t
is_of_task t (Answered task answer) = task == t
is_of_task t (Noted task chunk count) = task == t
is_of_task t (Again task answer) = task == t
is_of_task t _ = false

-- the task was claimed, and isn't busy any more
abbrev pub IsThrough : List Entry → ℕ → Type 0
IsThrough past t = (0 < t) × (is_claimed past t ≡ true) × (is_busy past t ≡ false)

-- the number claims the task in one of the entries, and may have answered it since
abbrev pub is_taken_by : List Entry → ℕ → ℕ → Bool
is_taken_by entries number t = list_any (λ e. e.by == number && claims t e.what) entries

-- where the task is held so, the entry is not of it, claims it where nobody holds it, or is its holder's
abbrev pub is_by_holder : ℕ → Option Holder → Entry → Bool
is_by_holder t held e = not (is_of_task t e.what) || (if claims t e.what then is_none held else is_held_by e.by held)

-- so is each entry, where the task is held so before the first
abbrev pub are_by_holder : ℕ → Option Holder → List Entry → Bool
are_by_holder t held [] = true
are_by_holder t held (e ∷ entries) = is_by_holder t held e && are_by_holder t (turned t held e) entries

-- what a journal has of a task: its entries, and how its jobs were settled
pub record TaskPart : Type 0 where
  pub entries : List Entry
  pub verdicts : List (Option Verdict)

abbrev pub task_part : List Entry → ℕ → TaskPart
task_part journal t = record {
  entries = filter (λ e. is_of_task t e.what) journal;
  verdicts = map (λ q. verdict_of journal q.0 q.1) (each_of (job_for t) journal);
}
