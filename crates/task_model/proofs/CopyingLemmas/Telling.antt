-- What is told of a desk's files through several calls.
use Rattle.std.proofs.Common.{◌≡◌}
use Rattle.std.specs.Prelude.{Option, Some, None}
use Rattle.ann_outside.specs.Files.{Files, WhereTold}

pub told_still : (P : Files → Files → Type 0) (a b : Option Files) → b ≡ a → ((x : Files) → P x x) → WhereTold a b P
told_still P None b e h = rw e tt
told_still P (Some x) b e h = rw e (h x)
