-- A run that starts its one child once: what its journal has of starts and tasks, and what is left of the child.
use Rattle.std.specs.Prelude.{◌≡◌, Bool, true, false, List, [], ◌∷◌, Option, Some, None}
use Rattle.journal_model.specs.declared.entry.What.{What}
use Rattle.journal_model.specs.declared.entry.What.TheVariants.{Claim, Start, NoStart, Answer as Answered, Note as Noted, Again}
use Rattle.journal_model.specs.declared.entry.Entry.{Entry}
use Rattle.journal_model.specs.Journal.{each_of}
use Rattle.journal_model.specs.Halves.{EarValue, MouthValue}
use Rattle.child_link.specs.Wires.{WireValue, IsLeft}

-- a start, whether it gave a child or not
abbrev pub start_in : What → Option What
start_in (Start child slot offer) = Some (Start child slot offer)
start_in (NoStart slot) = Some (NoStart slot)
start_in _ = None

abbrev pub starts_in : List Entry → List What
starts_in journal = each_of start_in journal

-- an entry of a task
abbrev pub is_of_task : What → Bool
is_of_task (Claim task child) = true
is_of_task (Answered task answer) = true
is_of_task (Noted task chunk count) = true
is_of_task (Again task answer) = true
is_of_task _ = false

-- the wire that these halves leave is the only one
abbrev pub OneIsLeft : EarValue → MouthValue → List WireValue → Type 0
OneIsLeft ear mouth wires = (wire : WireValue) × (wires ≡ wire ∷ []) × IsLeft ear mouth wire
