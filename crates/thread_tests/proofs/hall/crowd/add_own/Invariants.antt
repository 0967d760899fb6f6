use Rattle.threads.specs.Passes.{IsPassOf}
use Rattle.thread_tests.proofs.hall.crowd.add_own.Given as goal

abbrev pub invariant-loop : goal.invariant-loop
invariant-loop g l = IsPassOf l.fn.hall l.pass
