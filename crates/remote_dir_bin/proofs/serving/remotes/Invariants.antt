use Rattle.std.proofs.Common.{◌≡◌, ◌+◌, ◌≤◌, ◌++◌, vec_len}
use Rattle.std.specs.Vec.Iter.{into_iter_items, into_iter_len}
use Rattle.remote_dir_bin.specs.Serving.{remotes_over}
use Rattle.remote_dir_bin.proofs.serving.remotes.Given as goal

abbrev pub invariant-loop-seat : goal.invariant-loop-seat
invariant-loop-seat g l =
    (l.number + into_iter_len l.seat-iterator ≡ vec_len l.fn.seats)
    × (vec_len l.remotes ≡ l.number)
    × (vec_len l.fn.seats ≤ 4)
    × (l.remotes.items ++ remotes_over l.moment (l.number + 1) (into_iter_items l.seat-iterator) ≡ remotes_over l.moment 1 l.fn.seats.items)
