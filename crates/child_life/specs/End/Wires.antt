-- What is left of a child's link when it is over, and of all children of a run, in their order.
use Rattle.std.specs.Prelude.{ℕ, ◌≡◌, ◌+◌, ◌==◌, ◌||◌, not, Bool, true, false, List, [], ◌∷◌, ◌++◌, length, Option, Some, None, IsTrue}
use Rattle.std.specs.List.{list_all}
use Rattle.ann_outside.specs.Starts.{Starts}
use Rattle.journal_model.specs.declared.entry.What.{What}
use Rattle.journal_model.specs.declared.entry.What.TheVariants.{Start, NoStart}
use Rattle.journal_model.specs.declared.entry.Entry.{Entry}
use Rattle.journal_model.specs.Journal.{each_of, is_tagged}
use Rattle.journal_model.specs.Wires.{Wired, Caused, is_heard_in_turn}
use Rattle.journal_model.specs.Halves.{EarValue, MouthValue, LinkWired}
use Rattle.journal_model.specs.Shares.{is_of_child}
use Rattle.child_link.specs.Wires.{IsLeft, WireValue}
use Rattle.child_link.specs.Writings.{is_written_first}

-- the child that a start gave, or none
abbrev pub came_in : What → Option (Option ℕ)
came_in (Start child slot offer) = Some (Some child)
came_in (NoStart slot) = Some None
came_in _ = None

-- the children that the journal's starts gave, in order
abbrev pub came : List Entry → List (Option ℕ)
came journal = each_of came_in journal

-- a half that tells its number tells that of the run's nth start, from 1, where the programs had told these starts before
abbrev pub IsOfStart : Option Starts → ℕ → Option ℕ → Type 0
IsOfStart starts n None = Unit {0}
IsOfStart None n (Some number) = Unit {0}
IsOfStart (Some xs) n (Some number) = number ≡ length xs + n

-- the main thread made all that the journal has of the child
abbrev pub is_mains : List Entry → ℕ → Bool
is_mains journal c = list_all (λ e. not (is_of_child c e.what) || e.by == 0) journal

-- one thread alone wrote to the child and read from it: it takes no tags, or the main thread made all that the journal has of it
abbrev pub is_served_alone : List Entry → ℕ → Bool
is_served_alone journal c = not (is_tagged journal c) || is_mains journal c

-- The halves are wired to the journal. Where one thread alone served the child, each request was written before a line answered it.
pub record IsHeld (journal : List Entry) (ear : EarValue) (mouth : MouthValue) : Type 0 where
  pub link : LinkWired journal ear mouth
  pub written : is_served_alone journal ear.child ≡ true → is_written_first journal ear.child ≡ true

-- The wire's bytes are the journal's lines, its child's end and mute have their causes, each line was fed in its turn; where
-- one thread alone served the child, each request was written before a line answered it; its halves are those that the nth start
-- gave, and both are closed.
pub record IsWire (starts : Option Starts) (journal : List Entry) (n : ℕ) (wire : WireValue) : Type 0 where
  pub wired : Wired journal wire.child wire.given wire.taken wire.rest
  pub caused : Caused journal wire.child wire.left wire.read_faults wire.write_faults
  pub heard : IsTrue (is_heard_in_turn journal wire.child)
  pub written : is_served_alone journal wire.child ≡ true → IsTrue (is_written_first journal wire.child)
  pub inlet : IsOfStart starts n wire.inlet_number
  pub outlet : IsOfStart starts n wire.outlet_number
  pub closed : (wire.is_inlet_open ≡ false) × (wire.is_outlet_open ≡ false)

-- a wire for each child that a start gave, in order, where n starts stand before these
abbrev pub AreWires : Option Starts → List Entry → ℕ → List (Option ℕ) → List WireValue → Type 0
AreWires starts journal n [] [] = Unit {0}
AreWires starts journal n (None ∷ cs) wires = AreWires starts journal (n + 1) cs wires
AreWires starts journal n (Some c ∷ cs) (wire ∷ wires) = (wire.child ≡ c) × IsWire starts journal (n + 1) wire × AreWires starts journal (n + 1) cs wires
AreWires starts journal n _ _ = ⊥

-- the wire that the link's halves leave was laid after the others
abbrev pub IsLaid : EarValue → MouthValue → List WireValue → List WireValue → Type 0
IsLaid ear mouth old new = (wire : WireValue) × (new ≡ old ++ wire ∷ []) × IsLeft ear mouth wire
