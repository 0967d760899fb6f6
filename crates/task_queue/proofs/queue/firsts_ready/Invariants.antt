use Rattle.std.proofs.Common.{◌≡◌, ℕ, ◌<◌, true, length}
use Rattle.task_queue.specs.Blocks.{AreInBlocks}
use Rattle.task_queue.specs.Groups.{is_set, number_at}
use Rattle.task_queue.proofs.queue.firsts_ready.Given as goal

abbrev pub invariant-loop-first : goal.invariant-loop-first
invariant-loop-first l = record {
  long : length l.ready.flags.items ≡ length l.firsts;
  each : (group : ℕ) → group < l.first-index → number_at l.firsts group < length l.firsts → is_set l.ready.flags.items (number_at l.firsts group) ≡ true;
  blocks : AreInBlocks l.ready.flags.items l.ready.blocks.items;
}
