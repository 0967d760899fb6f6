use Rattle.std.proofs.Common.{◌≡◌, ◌≤◌, [], Some, vec_capacity}
use Rattle.kit_async.proofs.WorkLemmas.Groups.{ok_some}
use Rattle.kit_async.proofs.played.rooms.Goals as goal

pub returns : goal.returns
returns g c = (
  c.in_ok-room.ensures,
  record {
    none = ok_some (Some c.in_ok-workers.workers) c.with_capacity.result (λ v. v.items ≡ []) c.in_ok-workers.ensures.value c.with_capacity.ensures.items;
    room = ok_some (Some c.in_ok-workers.workers) c.with_capacity.result (λ v. c.args.seats ≤ vec_capacity v) c.in_ok-workers.ensures.value c.with_capacity.ensures.capacity;
  },
  record {
    none = ok_some (Some c.in_ok-backs.backs) c.with_capacity-2.result (λ v. v.items ≡ []) c.in_ok-backs.ensures.value c.with_capacity-2.ensures.items;
    room = ok_some (Some c.in_ok-backs.backs) c.with_capacity-2.result (λ v. c.args.seats ≤ vec_capacity v) c.in_ok-backs.ensures.value c.with_capacity-2.ensures.capacity;
  },
)
