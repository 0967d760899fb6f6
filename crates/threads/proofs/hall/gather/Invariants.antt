use Rattle.std.proofs.Common.{◌≡◌, ℕ, [], ◌++◌, length, Some, slice_get, map}
use Rattle.threads.specs.Log.{part}
use Rattle.threads.specs.declared.view.Stage.TheVariants.{Out}
use Rattle.threads.proofs.hall.gather.Given as goal

abbrev pub invariant-loop-pass : goal.invariant-loop-pass
invariant-loop-pass g l =
    (l.seat.table_id ≡ l.fn.board.table_id)
    × (l.seat.me.1 ≡ [])
    × (l.seat.me.0.stage ≡ Out)
    × (map (λ p. part p.number p.links) l.passes.items ++ l.seat.me.0.parts ≡ map (λ p. part p.number p.links) l.fn.passes.items)
    × ((k : ℕ) (p : _) → slice_get l.passes.items k ≡ Some p → p.table ≡ l.fn.board.table_id)

abbrev pub decreases-loop-pass : goal.decreases-loop-pass
decreases-loop-pass g l = length l.passes.items
