use Rattle.std.proofs.Common.{◌≡◌, ◌+◌, ◌≤◌, ◌++◌, vec_len, vec_capacity}
use Rattle.std.specs.Vec.Iter.{into_iter_items, into_iter_len}
use Rattle.threads.specs.Roles.Slots.{SlotsOf}
use Rattle.threads.proofs.roles.slot.begin_all.Given as goal

abbrev pub invariant-loop-role : goal.invariant-loop-role
invariant-loop-role g l =
    (l.at ≡ l.first + vec_len l.slots)
    × (vec_len l.slots + into_iter_len l.role-iterator ≡ vec_len l.fn.roles)
    × (vec_len l.fn.roles ≤ vec_capacity l.slots)
    × (l.fn.roles.items ≡ l.yielded ++ into_iter_items l.role-iterator)
    × SlotsOf g.E.Role.ran l.slots.items l.yielded
