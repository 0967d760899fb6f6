use Rattle.std.proofs.Common.{length, ◌-◌, ◌≡◌, ◌≤◌}
use Rattle.ann_outside.specs.Files.{WhereTold}
use Rattle.task_model.specs.Copying.FilesAfter.{GrownSoFar}
use Rattle.task_model.proofs.CopyingLemmas.RangeLaws.{Ranging}
use Rattle.task_model.proofs.copying.range.copy_range.Given as goal

abbrev pub invariant-loop-at : goal.invariant-loop-at
invariant-loop-at g l = record {
  ranging : Ranging (g.D.Desk.told l.fn.desk).log (g.D.Desk.told l.desk).log l.file l.name l.from l.to l.at;
  filled : WhereTold (g.D.Desk.told l.fn.desk).files (g.D.Desk.told l.desk).files (GrownSoFar l.file l.name l.from (l.at - l.from));
  as_long : length l.buffer ≡ length l.fn.buffer;
  least : l.from ≤ l.at;
  most : l.at - l.from ≤ l.to - l.from;
  quiet : (g.D.Desk.told l.desk).counts ≡ (g.D.Desk.told l.fn.desk).counts;
}

abbrev pub decreases-loop-at : goal.decreases-loop-at
decreases-loop-at g l = l.to - l.at
