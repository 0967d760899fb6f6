use Rattle.std.proofs.Common.{◌<◌, ◌-◌, ◌^◌}
use Rattle.journal_look.specs.Marks.{AreClaimed}
use Rattle.journal_look.proofs.marks.claimed_from.Given as goal

abbrev pub invariant-loop-task : goal.invariant-loop-task
invariant-loop-task l = record { some : 0 < l.task; claimed : AreClaimed l.entries l.task }

abbrev pub decreases-loop-task : goal.decreases-loop-task
decreases-loop-task l = 2 ^ 32 - l.task
