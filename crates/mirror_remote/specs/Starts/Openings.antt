-- What a child of a mirror begins with.
use Rattle.std.specs.Prelude.{[], codes}
use Rattle.registers.specs.Registers.{RegisterFile}
use Rattle.journal_model.specs.declared.opening.Identity.{Identity}
use Rattle.journal_model.specs.declared.opening.Opening.{Opening}

-- the nil UUID, the name mirror, and the git directory .git
abbrev pub mirror_identity : Identity
mirror_identity = record { uuid = codes "00000000-0000-0000-0000-000000000000"; name = codes "mirror"; gitdir = codes ".git" }

-- no task, no note and no stamp, and these registers
abbrev pub mirror_opening : RegisterFile → Opening
mirror_opening registers = record { tasks = []; registers = registers; notes = []; identity = mirror_identity; stamp = 0; again = 0 }
