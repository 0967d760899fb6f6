-- Which tasks are held, so that a question about one needn't go through the entries.
use Rattle.std.specs.Prelude.{ℕ, ◌≡◌, ◌+◌, ◌≤◌, ◌==◌, not, nat_le, false, if◌then◌else◌, List, [], ◌∷◌, ◌++◌, Option, filter, find, option_map, IsTrue}
use Rattle.journal_model.specs.declared.holder.Holder.{Holder}
use Rattle.journal_model.specs.declared.entry.What.{What}
use Rattle.journal_model.specs.declared.entry.What.TheVariants.{Claim, Answer as Answered, Again}
use Rattle.journal_model.specs.declared.entry.Entry.{Entry}
use Rattle.journal_model.specs.Legality.{holder, is_claimed}
use Rattle.journal_look.specs.declared.held.Held.{Held}
use Rattle.journal_look.specs.declared.held.Holds.{Holds}

-- who holds the task, by the table
abbrev pub held_of : List Held → ℕ → Option Holder
held_of held t = option_map (λ h. h.by) (find (λ h. h.task == t) held)

abbrev pub let_go : ℕ → List Held → List Held
let_go t held = filter (λ h. not (h.task == t)) held

-- the table after one more entry
abbrev pub held_by : ℕ → What → List Held → List Held
held_by by (Claim task child) held = let_go task held ++ record { task = task; by = record { by = by; child = child } } ∷ []
held_by by (Answered task answer) held = let_go task held
held_by by (Again task answer) held = let_go task held
held_by by w held = held

-- a number from which on no task is claimed
abbrev pub top_after : What → ℕ → ℕ
top_after (Claim task child) top = if nat_le top task then task + 1 else top
top_after w top = top

pub record AreHeld (past : List Entry) (held : List Held) : Type 0 where
  pub each : (t : ℕ) → holder past t ≡ held_of held t

-- where the table is known
pub record AreHoldsKnown (past : List Entry) (holds : Holds) : Type 0 where
  pub held : IsTrue holds.known → AreHeld past holds.each.items

-- no task from top on is claimed
pub record AreUnclaimed (past : List Entry) (top : ℕ) : Type 0 where
  pub each : (t : ℕ) → top ≤ t → is_claimed past t ≡ false
