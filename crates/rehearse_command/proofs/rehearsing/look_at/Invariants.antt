use Rattle.std.proofs.Common.{take}
use Rattle.std.specs.Prelude.{All}
use Rattle.rehearse_command.specs.Rehearsals.{IsQuiet}
use Rattle.rehearse_command.proofs.rehearsing.look_at.Given as goal

-- those that were looked at
abbrev pub invariant-looks : goal.invariant-looks
invariant-looks g l = All IsQuiet (take l.wire-index l.wires)
