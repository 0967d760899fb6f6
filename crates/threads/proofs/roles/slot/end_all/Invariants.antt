use Rattle.std.proofs.Common.{◌≡◌, ◌+◌, ◌≤◌, ◌++◌, List, vec_len, vec_capacity}
use Rattle.std.specs.Vec.Iter.{into_iter_items, into_iter_len}
use Rattle.threads.specs.Roles.Slots.{SlotsOf, AllCameBack}
use Rattle.threads.proofs.roles.slot.end_all.Given as goal

abbrev pub invariant-loop-slot : goal.invariant-loop-slot
invariant-loop-slot g l =
    (vec_len l.backs + into_iter_len l.slot-iterator ≡ vec_len l.fn.slots)
    × (vec_len l.fn.slots ≤ vec_capacity l.backs)
    × (l.fn.slots.items ≡ l.yielded ++ into_iter_items l.slot-iterator)
    × ((roles : List _) → SlotsOf g.E.Role.ran l.yielded roles → AllCameBack g.E.Role.ran roles l.backs.items)
