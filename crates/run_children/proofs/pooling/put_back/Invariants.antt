use Rattle.std.proofs.Common.{◌≡◌, ◌≤◌, ◌+◌, ◌++◌, reverse, vec_len, vec_capacity}
use Rattle.run_children.proofs.pooling.put_back.Given as goal

abbrev pub invariant-desks : goal.invariant-desks
invariant-desks g l = record {
  items : l.used.items ++ reverse l.desks.items ≡ l.initial.used.items ++ reverse l.initial.desks.items;
  room : vec_len l.desks + vec_len l.used ≤ vec_capacity l.desks;
}

abbrev pub decreases-desks : goal.decreases-desks
decreases-desks g l = vec_len l.used
