use Rattle.std.proofs.Common.{take}
use Rattle.dir_remote.specs.Guard.Gates.{Passes}
use Rattle.dir_remote.specs.Guard.Steps.{AddsSome}
use Rattle.dir_remote.proofs.guard.gates.pass.Given as goal

abbrev pub invariant-loop-gate : goal.invariant-loop-gate
invariant-loop-gate g l = AddsSome (g.P.Place.steps l.fn.place) (g.P.Place.steps l.place) (λ steps. Passes (take l.gate-index l.gates) steps)
