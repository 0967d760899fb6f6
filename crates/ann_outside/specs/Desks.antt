-- The desks that were made.
use Rattle.std.specs.Prelude.{ℕ, Option}
use Rattle.ann_outside.specs.DeskCauses.{Counts}
use Rattle.ann_outside.specs.Files.{Files}

-- the number that was asked for, and the files that the desk told when it was made
pub record Made : Type 0 where
  pub number : ℕ
  pub files : Option Files

-- a desk that was made just now has counted nothing
abbrev pub no_counts : Counts
no_counts = record { faults = 0; missing = 0 }
