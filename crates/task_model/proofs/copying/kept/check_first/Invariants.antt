use Rattle.std.proofs.Common.{◌-◌, ◌≡◌, ◌≤◌}
use Rattle.task_model.proofs.CopyingLemmas.ReadLaws.{Reading}
use Rattle.task_model.proofs.copying.kept.check_first.Given as goal

abbrev pub invariant-loop-at : goal.invariant-loop-at
invariant-loop-at g l = record {
  reading : Reading (g.D.Desk.told l.fn.desk).log (g.D.Desk.told l.desk).log l.file l.fn.checker l.checker l.at;
  most : l.at ≤ l.n;
  quiet : (g.D.Desk.told l.desk).counts ≡ (g.D.Desk.told l.fn.desk).counts;
}

abbrev pub decreases-loop-at : goal.decreases-loop-at
decreases-loop-at g l = l.n - l.at
