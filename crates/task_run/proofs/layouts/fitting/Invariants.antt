use Rattle.std.proofs.Common.{◌≡◌, Some, take}
use Rattle.task_model.specs.Layouts.{chunk_sizes}
use Rattle.task_run.proofs.layouts.fitting.Given as goal

abbrev pub invariant-loop-layout : goal.invariant-loop-layout
invariant-loop-layout l = l.sizes.items ≡ chunk_sizes (Some l.size) (take l.layout-index l.layouts)
