use Rattle.std.proofs.Common.{◌≡◌, map, take}
use Rattle.kit_async_model.specs.Jobs.{job_line}
use Rattle.kit_async_core.proofs.lines.all_wired.Given as goal

abbrev pub invariant-loop-text : goal.invariant-loop-text
invariant-loop-text l = l.lines.items ≡ map (job_line l.number) (take l.text-index l.texts)
