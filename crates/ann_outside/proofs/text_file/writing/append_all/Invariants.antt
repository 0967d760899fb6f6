use Rattle.std.proofs.Common.{length, take, ◌-◌, ◌≤◌, ◌≡◌}
use Rattle.ann_outside.specs.Files.{WhereTold}
use Rattle.ann_outside.specs.TextFile.Writes.{IsAppending, HasGrown}
use Rattle.ann_outside.proofs.text_file.writing.append_all.Given as goal

abbrev pub invariant-loop-at : goal.invariant-loop-at
invariant-loop-at g l = record {
  appending : IsAppending (g.D.Desk.told l.fn.desk).log (g.D.Desk.told l.desk).log l.name (take l.at l.text);
  files : WhereTold (g.D.Desk.told l.fn.desk).files (g.D.Desk.told l.desk).files (HasGrown l.name (take l.at l.text));
  quiet : (g.D.Desk.told l.desk).counts ≡ (g.D.Desk.told l.fn.desk).counts;
  most : l.at ≤ length l.text;
}

abbrev pub decreases-loop-at : goal.decreases-loop-at
decreases-loop-at g l = length l.text - l.at
