use Rattle.std.proofs.Common.{◌≡◌}
use Rattle.ann_key.specs.KeyRefs.{parts_of}
use Rattle.task_model.specs.Askers.{IsSameTask}
use Rattle.task_model.specs.Layouts.{keys_of_layout}
use Rattle.task_run.specs.Rounds.{Asked}
use Rattle.task_run.proofs.layouts.ask_layout.Given as goal

abbrev pub invariant-loop-at : goal.invariant-loop-at
invariant-loop-at g l = record {
  asked : Asked l.query (g.A.Asker.told l.fn.asker).pairs (g.A.Asker.told l.asker).pairs (keys_of_layout (parts_of l.key) l.chunk) l.at;
  notes : (g.A.Asker.told l.asker).notes ≡ (g.A.Asker.told l.fn.asker).notes;
  layouts : (g.A.Asker.told l.asker).current ≡ (g.A.Asker.told l.fn.asker).current;
  same : IsSameTask (g.A.Asker.told l.fn.asker) (g.A.Asker.told l.asker);
  on : g.A.Asker.goes_on l.fn.asker l.asker;
}
