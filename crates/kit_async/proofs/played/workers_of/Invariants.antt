use Rattle.std.proofs.Common.{◌≡◌, ◌+◌, ◌≤◌, ◌++◌, map, vec_len, vec_capacity}
use Rattle.std.specs.Vec.Iter.{into_iter_items, into_iter_len}
use Rattle.threads.specs.Roles.BackRole.{role_of}
use Rattle.kit_async.proofs.played.workers_of.Given as goal

abbrev pub invariant-loop-back : goal.invariant-loop-back
invariant-loop-back g l =
    (vec_len l.workers + into_iter_len l.back-iterator ≡ vec_len l.fn.backs)
    × (vec_len l.fn.backs ≤ vec_capacity l.workers)
    × (l.fn.backs.items ≡ l.yielded ++ into_iter_items l.back-iterator)
    × (l.workers.items ≡ map role_of l.yielded)
