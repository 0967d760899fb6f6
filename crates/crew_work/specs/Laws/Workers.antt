-- How a worker stands: between two tasks, and in one.
use Rattle.std.specs.Prelude.{ℕ, ◌≡◌, true, false, List, [], ◌∷◌, ◌++◌}
use Rattle.journal_model.specs.declared.entry.What.TheVariants.{Claim}
use Rattle.journal_model.specs.declared.entry.Entry.{Entry}
use Rattle.journal_model.specs.declared.opening.Opening.{Opening}
use Rattle.journal_model.specs.Journal.{is_started}
use Rattle.journal_model.specs.Legality.{Legal, is_busy, is_claimed_by, is_prepared, turn_of_task}
use Rattle.journal_model.specs.Shares.{are_others, makes_only}
use Rattle.host_core.specs.declared.event.Event.{Event}
use Rattle.host_core.specs.declared.event.Reply.{Reply}
use Rattle.host_core.specs.declared.event.Reply.TheVariants.{Task, Wait}
use Rattle.host_core.specs.Mays.{MayStep}
use Rattle.crew_work.specs.Laws.Posts.{works}
use Rattle.crew_work.specs.Laws.Tasks.{IsThrough, takes_turn}

-- What holds at any time of a worker of c with the number n, that has seen so much since the start: it made only what a worker
-- makes, and each turn that it took, but for the one that it is at, was run. It holds no task more than at the start but that one's.
pub record AtWork (o : Opening) (means : ℕ → ℕ → ℕ → List Entry → Type 0) (n c : ℕ) (is_at : ℕ → ℕ → Type 0) (start more : List Entry) : Type 0 where
  pub only : makes_only (works c) n more ≡ true
  pub ran : (t k : ℕ) → takes_turn start more n t k ≡ true → (is_at t k → ⊥) → means n t k (start ++ more)
  pub holds : (t : ℕ) → is_claimed_by start n t ≡ false → is_claimed_by (start ++ more) n t ≡ true → is_at t (turn_of_task (start ++ more) t)
  pub legal : Legal o (start ++ more)
  pub started : is_started (start ++ more) c ≡ true
  pub ready : is_prepared (start ++ more) c ≡ true

-- between two tasks
abbrev pub Free : Opening → (ℕ → ℕ → ℕ → List Entry → Type 0) → ℕ → ℕ → List Entry → List Entry → Type 0
Free o means n c start more = AtWork o means n c (λ t k. ⊥) start more

-- in turn k of task t, which it took and holds
pub record Busy (o : Opening) (means : ℕ → ℕ → ℕ → List Entry → Type 0) (n c t k : ℕ) (start more : List Entry) : Type 0 where
  pub work : AtWork o means n c (λ u j. (u ≡ t) × (j ≡ k)) start more
  pub taken : takes_turn start more n t k ≡ true
  pub held : is_claimed_by (start ++ more) n t ≡ true
  pub turn : turn_of_task (start ++ more) t ≡ k

-- it has just claimed the task, for this turn of it, when nobody held it
pub record WorkBegun (o : Opening) (means : ℕ → ℕ → ℕ → List Entry → Type 0) (n c t k : ℕ) (start more : List Entry) : Type 0 where
  pub busy : Busy o means n c t k start more
  pub past : List Entry
  pub claim : start ++ more ≡ past ++ record { by = n; what = Claim t c } ∷ []
  pub unheld : is_busy past t ≡ false

-- ---- one entry into the hall of a core

-- Others have made entries after those that were seen, which keep a journal legal, and then the core did one step at the event.
pub record Entered (o : Opening) (number : ℕ) (old new : List Entry) (event : Event) (reply : Reply) : Type 0 where
  pub others : List Entry
  pub group : List Entry
  pub apart : are_others number others ≡ true
  pub between : Legal o old → Legal o (old ++ others)
  pub step : MayStep o (old ++ others) number event group reply
  pub is : new ≡ (old ++ others) ++ group

-- what a claim for its child gives a free worker
abbrev pub ClaimGives : Opening → (ℕ → ℕ → ℕ → List Entry → Type 0) → ℕ → ℕ → List Entry → List Entry → Reply → Type 0
ClaimGives o means n c start more (Task task turn) = WorkBegun o means n c task turn start more
ClaimGives o means n c start more Wait = Free o means n c start more
ClaimGives o means n c start more reply = Free o means n c start more × IsThrough o (start ++ more) c
