use Rattle.std.proofs.Common.{◌≡◌, ◌≤◌, ◌+◌, ◌++◌, reverse, vec_len, vec_capacity}
use Rattle.run_children.proofs.pooling.take_first.Given as goal

abbrev pub invariant-desks : goal.invariant-desks
invariant-desks g l = record {
  items : l.initial.desks.items ≡ l.desks.items ++ reverse l.used.items;
  many : (vec_len l.used ≡ l.taken) × (vec_len l.desks + l.taken ≡ vec_len l.initial.desks);
  room : (l.count ≤ vec_capacity l.used) × (l.count ≤ vec_len l.initial.desks);
  capacity : vec_capacity l.desks ≡ vec_capacity l.initial.desks;
}
