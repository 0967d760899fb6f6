-- The names of extensions that the host tells a remote.
use Rattle.std.specs.Prelude.{ℕ, Bool, true, false, List, codes}

-- the extensions that the host names, with ASYNC where it is offered
abbrev pub names_of : Bool → List ℕ
names_of false = codes "INFO GETGITREMOTENAME"
names_of true = codes "INFO GETGITREMOTENAME ASYNC"
