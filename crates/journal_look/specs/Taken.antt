-- Which tasks are claimed, by their numbers, so that a question about one needn't go through the entries.
use Rattle.std.specs.Prelude.{ℕ, ◌≡◌, ◌<◌, Bool, true, false, List, length}
use Rattle.std.specs.List.{slice_index_or, slice_set}
use Rattle.journal_model.specs.declared.entry.What.{What}
use Rattle.journal_model.specs.declared.entry.What.TheVariants.{Claim, Again}
use Rattle.journal_model.specs.declared.entry.Entry.{Entry}
use Rattle.journal_model.specs.Legality.{is_claimed}

-- the table after one more entry; a task past its end has no place in it
abbrev pub taken_after : What → List Bool → List Bool
taken_after (Claim task child) taken = slice_set taken task true
taken_after (Again task answer) taken = slice_set taken task false
taken_after w taken = taken

-- the table says of each of its tasks whether it is claimed
pub record AreTaken (past : List Entry) (taken : List Bool) : Type 0 where
  pub each : (t : ℕ) → t < length taken → slice_index_or taken t false ≡ is_claimed past t
