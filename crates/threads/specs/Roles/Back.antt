-- What a role that comes back is, beside its start.
use Rattle.std.specs.Prelude.{◌≡◌}
use Rattle.threads.specs.declared.roles.back.Back.{Back}
use Rattle.threads.specs.declared.roles.back.Back.TheVariants.{Stayed, Ran}

-- it is its start, or what a run left of that
abbrev pub CameBack : {E : Type 0} → (E → E → Type 0) → E → Back E → Type 0
CameBack ran start (Stayed e) = e ≡ start
CameBack ran start (Ran e) = ran start e
