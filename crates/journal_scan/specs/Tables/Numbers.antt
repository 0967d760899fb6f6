-- The numbers of jobs.
use Rattle.std.specs.Prelude.{ℕ, ◌<◌, List}
use Rattle.std.specs.List.{AllByRecursion}
use Rattle.std.specs.List.Sorted.{IsStrictlySortedBy}
use Rattle.std.specs.Ordering.{nat_cmp}

-- how many numbers were asked, and which of them are still open
pub record JobNumbers : Type 0 where
  pub asked : ℕ
  pub pending : List ℕ

-- the open ones rise, and each was asked
pub record AreNumbers (asked : ℕ) (numbers : List ℕ) : Type 0 where
  pub rising : IsStrictlySortedBy nat_cmp numbers
  pub below : AllByRecursion (λ k. k < asked) numbers
