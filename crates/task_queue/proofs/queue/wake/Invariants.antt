use Rattle.task_queue.specs.Blocks.{AreInBlocks}
use Rattle.task_queue.specs.Woken.{AreWoken}
use Rattle.task_queue.proofs.queue.wake.Given as goal

abbrev pub invariant-loop-other : goal.invariant-loop-other
invariant-loop-other l = record {
  woken : AreWoken l.waits l.claimed l.task l.other l.initial.ready.flags.items l.ready.flags.items;
  blocks : AreInBlocks l.ready.flags.items l.ready.blocks.items;
}
