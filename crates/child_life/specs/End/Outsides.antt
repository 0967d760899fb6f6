-- What is told of the objects that a run was handed: its programs, and its desks.
use Rattle.ann_outside.specs.Told.{DeskTold, ProgramsTold}
use Rattle.std.specs.Prelude.{◌≡◌, List, ◌++◌, length, map, Option, Some, None}
use Rattle.std.specs.List.{range_with_len}
use Rattle.ann_outside.specs.Desks.{Made}

-- what was handed in: the programs, and the desks that were made
pub record OutsideValue : Type 0 where
  pub programs : ProgramsTold
  pub made : Option (List Made)

-- where desks tell, they were asked for 0, 1, 2 and so on, each once, and these are the desks
abbrev pub HaveMade : Option (List Made) → Option (List Made) → List DeskTold → Type 0
HaveMade None None tables = Unit {0}
HaveMade None (Some ys) tables = ⊥
HaveMade (Some xs) None tables = ⊥
HaveMade (Some xs) (Some ys) tables = (more : List Made) × (ys ≡ xs ++ more) × (map (λ m. m.number) more ≡ range_with_len 0 (length tables))
