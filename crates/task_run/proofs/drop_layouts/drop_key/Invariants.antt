use Rattle.std.proofs.Common.{take}
use Rattle.ann_key.specs.KeyRefs.{parts_of}
use Rattle.task_model.specs.Askers.{IsSameTask}
use Rattle.task_run.specs.Rounds.{Removed}
use Rattle.task_run.proofs.drop_layouts.drop_key.Given as goal

abbrev pub invariant-loop-chunk : goal.invariant-loop-chunk
invariant-loop-chunk g l = record {
  removed : Removed (g.A.Asker.told l.fn.asker).pairs (g.A.Asker.told l.asker).pairs (g.A.Asker.told l.fn.asker).notes (g.A.Asker.told l.asker).notes (parts_of l.key) (take l.chunk-index l.chunk-items);
  same : IsSameTask (g.A.Asker.told l.fn.asker) (g.A.Asker.told l.asker);
  on : g.A.Asker.goes_on l.fn.asker l.asker;
}
