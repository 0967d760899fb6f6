-- Lines stay fed in their turn, where others do nothing with the child.
use Rattle.std.proofs.Common.{◌≡◌, ℕ, List, [], ◌∷◌, sym, subst, Bool, true, false}
use Rattle.std.specs.List.{list_all}
use Rattle.journal_model.specs.declared.entry.What.{What}
use Rattle.journal_model.specs.declared.entry.What.TheVariants.{Got}
use Rattle.journal_model.specs.declared.entry.Entry.{Entry}
use Rattle.journal_model.specs.declared.opening.Opening.{Opening}
use Rattle.journal_model.specs.Journal.{any, got_lines, is_ended}
use Rattle.journal_model.specs.Due.{due_by, due_by_got, made_by}
use Rattle.journal_model.specs.Wires.{may_hear, is_heard_in_turn}
use Rattle.journal_model.proofs.Soft.{soft_stretch, soft_got}
use Rattle.journal_model.proofs.Heard.{heard_on, heard_got}
use Rattle.journal_model.specs.Shares.{is_of_child, Moved}
use Rattle.child_link.specs.Doors.{Passed, Stands, Appended}
use Rattle.child_link.proofs.Roles.{moved_by, moved_on}
use Rattle.journal_model.proofs.Turns.{without, hears_on}

-- ---- what was done

abbrev pub InTurn : ℕ → List Entry → Type 0
InTurn c journal = is_heard_in_turn journal c ≡ true

on : {n : ℕ} {a : Bool} {old past : List Entry} (c : ℕ) (s : Passed n a old past) → any (is_of_child c) s.others ≡ false → InTurn c old → InTurn c past
on {old = old} c s none h = subst (InTurn c) (sym s.is) (heard_on c old s.others (without c s.others none).gots h)

-- others alone went on
pub turn_on : {n : ℕ} {a : Bool} {old new : List Entry} {makes : What → Bool} (c : ℕ) → Passed n a old new → Moved n a makes (is_of_child c) old new (InTurn c old) (InTurn c new)
turn_on c s = moved_on s (on c s)

module _ {n : ℕ} {a : Bool} {o : Opening} {old new : List Entry} {makes : What → Bool} (c : ℕ) where
  -- entries were made that are no lines of the child
  pub turn_makes : {ws : List Entry → List What} {Found : List Entry → Type 0} (s : Stands o n a old new ws Found) → list_all makes (ws s.past) ≡ true
      → got_lines (made_by n (ws s.past)) c ≡ [] → Moved n a makes (is_of_child c) old new (InTurn c old) (InTurn c new)
  turn_makes {ws} s own none' =
      moved_by s own (λ none h. subst (InTurn c) (sym s.is) (heard_on c s.past (made_by n (ws s.past)) none' (on c s.passed none h)))

  -- a line was fed where it might be
  pub turn_takes : (line : List ℕ) (s : Appended o n a old new (Got c line) (λ past. is_ended past c ≡ false)) → list_all makes (Got c line ∷ due_by o s.past (Got c line)) ≡ true
      → Moved n a makes (is_of_child c) old new ((may_hear old c ≡ true) × InTurn c old) (InTurn c new)
  turn_takes line s own =
      moved_by s own (λ none h.
      subst (InTurn c) (sym s.is)
      (heard_got c n line s.past (made_by n (due_by_got o s.past c line)) (soft_stretch c n (due_by_got o s.past c line) (soft_got o s.past c line)).got
      (subst (λ (j : List Entry). may_hear j c ≡ true) (sym s.passed.is) (hears_on old s.passed.others c (without c s.passed.others none) h.0))
      (on c s.passed none h.1)))
