use Rattle.std.proofs.Common.{◌≡◌, vec_len}
use Rattle.thread_tests.proofs.crew.tests.workers.Given as goal

abbrev pub invariant-loop-i : goal.invariant-loop-i
invariant-loop-i l = vec_len l.all ≡ l._i
