use Rattle.std.proofs.Common.{◌≡◌, map, take}
use Rattle.journal_model.specs.Journal.{on_wire}
use Rattle.host_core.proofs.serving.wired.Given as goal

abbrev pub invariant-loop-line : goal.invariant-loop-line
invariant-loop-line l = l.wired.items ≡ map (on_wire l.journal.entries l.child l.job) (take l.line-index l.lines)
