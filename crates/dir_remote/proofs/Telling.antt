-- What is told of a desk's files through several calls.
use Rattle.std.specs.Prelude.{Option, Some, None}
use Rattle.ann_outside.specs.Files.{Files, WhereTold}

pub told_and : (P Q : Files → Files → Type 0) (a b : Option Files) → WhereTold a b P → WhereTold a b Q → WhereTold a b (λ x y. P x y × Q x y)
told_and P Q None None p q = tt
told_and P Q None (Some y) p q = absurd p
told_and P Q (Some x) None p q = absurd p
told_and P Q (Some x) (Some y) p q = (p, q)
