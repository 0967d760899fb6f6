use Rattle.std.proofs.Common.{◌-◌, ◌≡◌, ◌≤◌}
use Rattle.ann_key.specs.KeyRefs.{parts_of}
use Rattle.task_model.specs.Askers.{IsSameTask}
use Rattle.task_run.proofs.StoreLemmas.ChunkStoreLoops.{Seeking}
use Rattle.task_run.proofs.store.chunk_store.seek.Given as goal

abbrev pub invariant-loop-there : goal.invariant-loop-there
invariant-loop-there g l = record {
  seeking : Seeking (parts_of l.store.key) l.store.setup.now.chunk l.count (g.A.Asker.told l.fn.asker).pairs (g.A.Asker.told l.asker).pairs l.there;
  most : l.there ≤ l.count;
  notes : (g.A.Asker.told l.asker).notes ≡ (g.A.Asker.told l.fn.asker).notes;
  same : IsSameTask (g.A.Asker.told l.fn.asker) (g.A.Asker.told l.asker);
  on : g.A.Asker.goes_on l.fn.asker l.asker;
  ready : g.A.Asker.ready l.asker;
}

abbrev pub decreases-loop-there : goal.decreases-loop-there
decreases-loop-there g l = l.count - l.there
