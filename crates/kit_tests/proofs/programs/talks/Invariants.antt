use Rattle.std.proofs.Common.{◌≡◌, true}
use Rattle.kit_tests.proofs.programs.talks.Given as goal

abbrev pub invariant-loop : goal.invariant-loop
invariant-loop g l = ((g.I.Sink.told l.inlet).is_open ≡ true) × ((g.O.Source.told l.outlet).is_open ≡ true)
