-- A task in a journal that many passes made.
use Rattle.std.specs.Prelude.{ℕ, ◌≡◌, ◌⊎◌, ◌&&◌, ◌==◌, if◌then◌else◌, Bool, true, false, List, [], ◌∷◌, ◌++◌, Option, Some, None}
use Rattle.std.specs.List.{list_any, cons_option}
use Rattle.journal_model.specs.declared.entry.What.{What}
use Rattle.journal_model.specs.declared.entry.What.TheVariants.{Claim, Again}
use Rattle.journal_model.specs.declared.entry.Entry.{Entry}
use Rattle.journal_model.specs.declared.opening.Opening.{Opening}
use Rattle.journal_model.specs.Legality.{is_claimed_by, turn_of_task}
use Rattle.host_core.specs.Steps.{are_all_claimed, is_gone}

-- the task that an entry after past claims, and the turn of it that begins so
abbrev pub claimed_turn : List Entry → What → Option (ℕ × ℕ)
claimed_turn past (Claim task child) = Some (task, turn_of_task past task)
claimed_turn past w = None

-- the turns that the number claims among the entries, which stand after past, in order
abbrev pub turns_by : ℕ → List Entry → List Entry → List (ℕ × ℕ)
turns_by n past [] = []
turns_by n past (e ∷ rest) = cons_option (if e.by == n then claimed_turn past e.what else None) (turns_by n (past ++ e ∷ []) rest)

-- turn k of task t is one of them
abbrev pub takes_turn : List Entry → List Entry → ℕ → ℕ → ℕ → Bool
takes_turn past entries n t k = list_any (λ (u : ℕ × ℕ). u.0 == t && u.1 == k) (turns_by n past entries)

-- some task is to be run again
abbrev pub is_renewal : What → Bool
is_renewal (Again task answer) = true
is_renewal w = false

-- What `this number ran this turn of this task` means, said of a journal, lasts whatever comes later.
abbrev pub Lasts : (ℕ → ℕ → ℕ → List Entry → Type 0) → Type 0
Lasts means = (n t k : ℕ) (past more : List Entry) → means n t k past → means n t k (past ++ more)

-- the number holds no task in the journal but what it held after past
abbrev pub HoldsNoMore : ℕ → List Entry → List Entry → Type 0
HoldsNoMore number past journal = (t : ℕ) → is_claimed_by past number t ≡ false → is_claimed_by journal number t ≡ false

-- each turn that the number takes among the entries, which stand after past, was run
abbrev pub HasRun : (ℕ → ℕ → ℕ → List Entry → Type 0) → ℕ → List Entry → List Entry → List Entry → Type 0
HasRun means number past entries journal = (t k : ℕ) → takes_turn past entries number t k ≡ true → means number t k journal

-- a worker of c takes up no more: all tasks are claimed, or c has ended or is mute
abbrev pub IsThrough : Opening → List Entry → ℕ → Type 0
IsThrough o past c = (are_all_claimed o past ≡ true) ⊎ (is_gone past c ≡ true)

-- where the number was to leave a task to be run again, it takes up no more
abbrev pub IsThroughAfterAgain : Opening → ℕ → ℕ → List Entry → List Entry → Type 0
IsThroughAfterAgain o number c entries journal = list_any (λ e. e.by == number && is_renewal e.what) entries ≡ true → IsThrough o journal c
