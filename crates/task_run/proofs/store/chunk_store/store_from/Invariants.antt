use Rattle.std.proofs.Common.{◌-◌, ◌≡◌, ◌≤◌}
use Rattle.ann_key.specs.KeyRefs.{parts_of}
use Rattle.task_model.specs.Askers.{IsSameTask}
use Rattle.task_run.proofs.StoreLemmas.ChunkStoreLoops.{Storing}
use Rattle.task_run.proofs.store.chunk_store.store_from.Given as goal

abbrev pub invariant-loop-stored : goal.invariant-loop-stored
invariant-loop-stored g l = record {
  storing : Storing l.store.setup.now l.store.turn (parts_of l.store.key) l.store.file.now l.store.size l.n (g.A.Asker.told l.fn.asker).pairs (g.A.Asker.told l.asker).pairs (g.D.Desk.told l.fn.desk).log (g.D.Desk.told l.desk).log l.stored;
  least : l.n ≤ l.stored;
  most : l.stored ≤ l.all;
  notes : (g.A.Asker.told l.asker).notes ≡ (g.A.Asker.told l.fn.asker).notes;
  same : IsSameTask (g.A.Asker.told l.fn.asker) (g.A.Asker.told l.asker);
  on : g.A.Asker.goes_on l.fn.asker l.asker;
  ready : g.A.Asker.ready l.asker;
  quiet : (g.D.Desk.told l.desk).counts ≡ (g.D.Desk.told l.fn.desk).counts;
}

abbrev pub decreases-loop-stored : goal.decreases-loop-stored
decreases-loop-stored g l = l.all - l.stored
