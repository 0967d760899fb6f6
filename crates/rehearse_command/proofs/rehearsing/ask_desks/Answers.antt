use Rattle.std.proofs.Common.{◌∙◌, ◌+◌, ℕ, ap}
use Rattle.rehearse_command.proofs.Crews.{counts_more}
use Rattle.rehearse_command.proofs.rehearsing.ask_desks.Goals as goal

pub workers-preserved : goal.workers-preserved
workers-preserved g c = record {
  room = (c.push_reserved.ensures.len ∙ ap (λ (n : ℕ). n + 1) c.workers.invariant.room.0, c.push_reserved.ensures.capacity ∙ c.workers.invariant.room.1);
  fresh =
      counts_more (λ d. (g.K.Desk.Desk.told d).counts) c.workers.crew.items c.push_reserved.new.self.items c.in_ok-desk.desk c.workers.before c.push_reserved.ensures.items c.in_ok-desk.ensures.fresh.0 c.workers.invariant.fresh;
}
