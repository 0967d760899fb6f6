use Rattle.std.proofs.Common.{◌≡◌, true}
use Rattle.kit_tests.proofs.programs.gives.Given as goal

abbrev pub invariant-loop : goal.invariant-loop
invariant-loop g l = (g.S.Source.told l.source).is_open ≡ true
