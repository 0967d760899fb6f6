use Rattle.std.proofs.Common.{ℕ, List, ◌++◌, take}
use Rattle.audit_command.specs.Intakes.{Took}
use Rattle.audit_command.proofs.intake.Intake.take_piece.Given as goal

abbrev pub invariant-loop-byte : goal.invariant-loop-byte
invariant-loop-byte l = (bytes : List ℕ) → Took l.limits bytes l.initial.self → Took l.limits (bytes ++ take l.byte-index l.piece) l.self
