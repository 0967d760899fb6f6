-- Worked children, and what is asked of them.
use Rattle.std.specs.Prelude.{ℕ, List, [], ◌∷◌, None}
use Rattle.journal_model.specs.declared.entry.What.TheVariants.{Got}
use Rattle.journal_model.specs.declared.entry.Entry.{Entry}
use Rattle.registers.specs.Registers.{nothing_set}
use Rattle.mirror_remote.specs.Starts.Openings.{mirror_opening}
use Rattle.mirror_children.specs.Children.{ChildValue}

-- the child of the setting of this number, with this journal
abbrev pub child_with : ℕ → List Entry → ChildValue
child_with n journal = record {
  number = n;
  opening = mirror_opening nothing_set;
  journal = journal;
  ear = record { child = 1; given = None; left = None; faults = 0; number = None; held = [] };
  mouth = record { child = 1; taken = None; faults = 0; number = None };
}

-- a journal whose first line says this
abbrev pub saying : List ℕ → List Entry
saying line = record { by = 0; what = Got 1 line } ∷ []

-- the children of settings 1 and 3, which have said nothing
abbrev pub two : List ChildValue
two = child_with 1 [] ∷ child_with 3 [] ∷ []

-- the second one has said this
abbrev pub two_saying : List ℕ → List ChildValue
two_saying line = child_with 1 [] ∷ child_with 3 (saying line) ∷ []
