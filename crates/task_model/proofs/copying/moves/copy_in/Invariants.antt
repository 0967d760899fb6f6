use Rattle.std.proofs.Common.{◌-◌, ◌≡◌, ◌≤◌, vec_len}
use Rattle.ann_outside.specs.Files.{WhereTold}
use Rattle.task_model.specs.Copying.Copies.{Moving}
use Rattle.task_model.specs.Copying.FilesAfter.{GrownSoFar}
use Rattle.task_model.proofs.copying.moves.copy_in.Given as goal

abbrev pub invariant-loop-at : goal.invariant-loop-at
invariant-loop-at g l = record {
  moving : Moving (g.D.Desk.told l.fn.desk).log (g.D.Desk.told l.desk).log l.from l.part l.fn.checker l.checker l.at;
  filled : WhereTold (g.D.Desk.told l.fn.desk).files (g.D.Desk.told l.desk).files (GrownSoFar l.from l.part 0 l.at);
  most : l.at ≤ l.n;
  buffer : vec_len l.buffer ≡ 65536;
  quiet : (g.D.Desk.told l.desk).counts ≡ (g.D.Desk.told l.fn.desk).counts;
}

abbrev pub decreases-loop-at : goal.decreases-loop-at
decreases-loop-at g l = l.n - l.at
