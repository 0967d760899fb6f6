use Rattle.std.proofs.Common.{take}
use Rattle.dir_remote.specs.Guard.Sweeps.{ClearsAll}
use Rattle.dir_remote.specs.Guard.Steps.{AddsSome}
use Rattle.dir_remote.proofs.guard.sweeping.clear_all.Given as goal

abbrev pub invariant-loop-name : goal.invariant-loop-name
invariant-loop-name g l = AddsSome (g.P.Place.steps l.fn.place) (g.P.Place.steps l.place) (λ steps. ClearsAll l.folder (take l.name-index l.names) steps)
