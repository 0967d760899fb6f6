-- How far an info has come, by its journal.
use Rattle.std.specs.Prelude.{ℕ, ◌≡◌, ◌≤◌, true, false, List, [], ◌∷◌, take, Option, Result, IfOk}
use Rattle.ann_key.specs.declared.bytes.NoMemory.{NoMemory}
use Rattle.journal_model.specs.declared.entry.What.TheVariants.{Start}
use Rattle.journal_model.specs.declared.entry.Entry.{Entry}
use Rattle.journal_model.specs.Journal.{any, is_started, open_jobs}
use Rattle.journal_model.specs.Legality.{count}
use Rattle.journal_model.specs.Shares.{are_by}
use Rattle.child_life.specs.Start.Greetings.{loses}
use Rattle.run_starts.specs.Once.Once.{is_of_task, starts_in}
use Rattle.info_and_init.specs.Info.Askings.{asked_lines}
use Rattle.info_and_init.specs.Info.Informs.{info_requests, IsComplete}

-- the one child was asked the first of the requests, at most one was lost, and no job of it is open
pub record IsInterviewed (key : Option (List ℕ)) (journal : List Entry) (c : ℕ) : Type 0 where
  pub first : c ≡ 1
  pub started : is_started journal c ≡ true
  pub starts : starts_in journal ≡ Start 1 0 false ∷ []
  pub asked : (n : ℕ) × (asked_lines journal c ≡ take n (info_requests key))
  pub lost : count (loses c) journal ≤ 1
  pub settled : open_jobs journal c ≡ []
  pub taskless : any is_of_task journal ≡ false
  pub main : are_by 0 journal ≡ true

-- and it was asked all, unless no memory was found
abbrev pub Interviewed : Option (List ℕ) → List Entry → ℕ → Result (Unit {0}) NoMemory → Type 0
Interviewed key journal c asked = IsInterviewed key journal c × IfOk asked (λ _. IsComplete key journal)
