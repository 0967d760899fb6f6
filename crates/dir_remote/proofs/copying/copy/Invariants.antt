use Rattle.std.proofs.Common.{◌≡◌, ◌-◌, ◌^◌, ◌<◌}
use Rattle.std.specs.Prelude.{vec_len, IsTrue, Ok}
use Rattle.ann_outside.specs.Files.{WhereTold}
use Rattle.dir_remote.specs.Copies.{Copying, Spares}
use Rattle.dir_remote.specs.Traces.{Traced}
use Rattle.dir_remote.proofs.TraceLaws.{SoFar}
use Rattle.dir_remote.proofs.copying.copy.Given as goal

abbrev pub invariant-loop-buffer : goal.invariant-loop-buffer
invariant-loop-buffer g l = record {
  copying : WhereTold (g.D.Desk.told l.fn.desk).files (g.D.Desk.told l.desk).files (Copying l.from l.to l.at);
  tracing : Traced (SoFar l.from l.to l.at) (g.D.Desk.told l.fn.desk).log (g.D.Desk.told l.desk).log;
  free : IsTrue l.fn.alone → WhereTold (g.D.Desk.told l.fn.desk).files (g.D.Desk.told l.desk).files (Spares l.to (Ok tt));
  counts : (g.D.Desk.told l.desk).counts ≡ (g.D.Desk.told l.fn.desk).counts;
  buffer : vec_len l.buffer ≡ 65536;
  fits : l.at < 2 ^ 64;
}

abbrev pub decreases-loop-buffer : goal.decreases-loop-buffer
decreases-loop-buffer g l = 2 ^ 64 - l.at
