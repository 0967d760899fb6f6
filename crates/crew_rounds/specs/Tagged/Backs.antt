-- The roles that came back.
use Rattle.std.specs.Prelude.{List, map}
use Rattle.threads.specs.declared.roles.back.Back.{Back}
use Rattle.threads.specs.Roles.BackRole.{role_of}

abbrev pub roles_of : {E : Type 0} → List (Back E) → List E
roles_of backs = map role_of backs
