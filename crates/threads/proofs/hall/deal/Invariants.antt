use Rattle.std.proofs.Common.{◌≡◌, ℕ, ◌+◌, ◌≤◌, [], length, Some, slice_get, vec_capacity}
use Rattle.threads.specs.Passes.{IsPassOf}
use Rattle.threads.specs.Rule.{maker_view}
use Rattle.threads.proofs.hall.deal.Given as goal

abbrev pub invariant-loop-number : goal.invariant-loop-number
invariant-loop-number g l =
    let board = l.fn.board in
    let start = g.V.Held.history board.key.value.value in
    let fixed = g.V.Held.fixed board.key.value.value in
    (l.seat.table_id ≡ board.table_id)
    × (l.seat.me ≡ (maker_view board.key.seats l.number start fixed, []))
    × (length l.passes.items + 1 ≡ l.number)
    × (l.fn.seats ≤ vec_capacity l.passes)
    × ((k : ℕ) (p : _) → slice_get l.passes.items k ≡ Some p → IsPassOf (record { table = board.table_id; seats = board.key.seats; start = start; fixed = fixed }) p × (p.number ≡ k + 1) × (p.links ≡ []))
