use Rattle.task_queue.proofs.Placing.{woken_next}
use Rattle.task_queue.proofs.queue.wake.Goals as goal

pub loop-other-preserved : goal.loop-other-preserved
loop-other-preserved c = record {
  woken = woken_next c.args.waits.now c.args.claimed.now c.args.ready.now.flags.items c.loop-other.ready.flags.items c.wake_one.new.ready.flags.items c.args.task c.loop-other.other c.wake_one.ensures.flags c.loop-other.invariant.woken;
  blocks = c.wake_one.ensures.blocks;
}
