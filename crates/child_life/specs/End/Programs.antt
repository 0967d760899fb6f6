-- What programs tell of the starts that a run made, and what a run leaves of them and of its children's links.
use Rattle.ann_outside.specs.Told.{ProgramsTold}
use Rattle.std.specs.Prelude.{ℕ, ◌≡◌, ◌⊎◌, ◌+◌, ◌-◌, ◌^◌, ◌≤◌, min, Bool, true, false, List, [], ◌∷◌, ◌++◌, Option, Some, None}
use Rattle.ann_outside.specs.Starts.{Starts}
use Rattle.journal_model.specs.declared.entry.What.{What}
use Rattle.journal_model.specs.declared.entry.What.TheVariants.{Start, NoStart}
use Rattle.journal_model.specs.declared.entry.Entry.{Entry}
use Rattle.journal_model.specs.Journal.{each_of}
use Rattle.journal_model.specs.Legality.{count}
use Rattle.child_link.specs.Wires.{WireValue}
use Rattle.child_life.specs.End.Wires.{AreWires, came}

-- what programs tell of the entry, where it is a start of this program
abbrev pub told_in : List ℕ → What → Option (List ℕ × Bool)
told_in program (Start child slot offer) = Some (program, true)
told_in program (NoStart slot) = Some (program, false)
told_in program _ = None

-- what they tell of the journal
abbrev pub told : List ℕ → List Entry → Starts
told program journal = each_of (told_in program) journal

-- a list that is told grows by these, and one that isn't told stays untold
abbrev pub AddsAll : Option Starts → Option Starts → Starts → Type 0
AddsAll None None more = Unit {0}
AddsAll None (Some ys) more = ⊥
AddsAll (Some xs) None more = ⊥
AddsAll (Some xs) (Some ys) more = ys ≡ xs ++ more

-- Where programs tell, their starts are the journal's, each of this program. Where memory was wanted, one more may follow
-- them.
abbrev pub HaveStarted : Type 0 → List ℕ → List Entry → Option Starts → Option Starts → Type 0
HaveStarted wanted program journal old new =
    AddsAll old new (told program journal)
    ⊎ (wanted × ((b : Bool) × AddsAll old new (told program journal ++ (program, b) ∷ [])))

abbrev pub is_failed_start : What → Bool
is_failed_start (NoStart slot) = true
is_failed_start _ = false

-- the count rose by so many at least, or stands at the last value of its counter
abbrev pub RoseBy : ℕ → ℕ → ℕ → Type 0
RoseBy n before now = min (before + n) (2 ^ 64 - 1) ≤ now

-- Of the objects of a run there are left the wires of its children, the starts that its journal has, and a fault for each that
-- failed.
pub record Leaves (wanted : Type 0) (program : List ℕ) (journal : List Entry) (before after : ProgramsTold) (wires : List WireValue) : Type 0 where
  pub wired : AreWires before.starts journal 0 (came journal) wires
  pub started : HaveStarted wanted program journal before.starts after.starts
  pub faults : RoseBy (count is_failed_start journal) before.faults after.faults
