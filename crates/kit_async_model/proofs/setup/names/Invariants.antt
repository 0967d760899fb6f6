use Rattle.std.proofs.Common.{◌≡◌, ◌≤◌, take, length}
use Rattle.kit_async_model.proofs.setup.names.Given as goal

abbrev pub invariant-loop-n : goal.invariant-loop-n
invariant-loop-n g l = record {
  names : l.names.items ≡ take l.n (g.R.Remote.settings l.remote);
  within : l.n ≤ length (g.R.Remote.settings l.remote);
}
