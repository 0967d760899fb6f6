use Rattle.std.proofs.Common.{◌≡◌, false, map, take, Ok}
use Rattle.ann_key.specs.KeyRefs.{parts_of}
use Rattle.task_model.specs.Askers.{IsSameTask}
use Rattle.task_model.specs.Layouts.{keys_of_layout}
use Rattle.task_model.specs.Ran.{may_follow_refusal}
use Rattle.task_run.specs.Rounds.{Missed}
use Rattle.task_run.proofs.check_layouts.check.Given as goal

abbrev pub invariant-loop-chunk : goal.invariant-loop-chunk
invariant-loop-chunk g l = record {
  missed : Missed (g.A.Asker.told l.fn.asker).pairs (g.A.Asker.told l.asker).pairs (map (keys_of_layout (parts_of l.key)) (take l.chunk-index l.chunk-items)) l.missing;
  quiet : may_follow_refusal (Ok l.missing) ≡ false;
  notes : (g.A.Asker.told l.asker).notes ≡ (g.A.Asker.told l.fn.asker).notes;
  same : IsSameTask (g.A.Asker.told l.fn.asker) (g.A.Asker.told l.asker);
  on : g.A.Asker.goes_on l.fn.asker l.asker;
}
