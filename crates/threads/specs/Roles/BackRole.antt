-- The role that came back, and whether it ran.
use Rattle.std.specs.Prelude.{Bool, true, false}
use Rattle.threads.specs.declared.roles.back.Back.{Back}
use Rattle.threads.specs.declared.roles.back.Back.TheVariants.{Stayed, Ran}

abbrev pub role_of : {E : Type 0} → Back E → E
role_of (Stayed e) = e
role_of (Ran e) = e

abbrev pub has_run : {E : Type 0} → Back E → Bool
has_run (Stayed e) = false
has_run (Ran e) = true
