use Rattle.std.proofs.Common.{◌-◌, ◌+◌, ◌≡◌, vec_len}
use Rattle.std.specs.Prelude.{IfSome}
use Rattle.ann_outside.specs.TextFile.Reads.{IsReading, IsReadingOf}
use Rattle.ann_outside.proofs.text_file.reading.read_file.Given as goal

abbrev pub invariant-loop-desk : goal.invariant-loop-desk
invariant-loop-desk g l = record {
  reading : IsReading (g.D.Desk.told l.fn.desk).log (g.D.Desk.told l.desk).log l.name l.bytes.items;
  told : IfSome (g.D.Desk.told l.fn.desk).files (λ files. IsReadingOf l.name l.bytes.items files);
  files : (g.D.Desk.told l.desk).files ≡ (g.D.Desk.told l.fn.desk).files;
  quiet : (g.D.Desk.told l.desk).counts ≡ (g.D.Desk.told l.fn.desk).counts;
  buffer : vec_len l.buffer ≡ 65536;
}

abbrev pub decreases-loop-desk : goal.decreases-loop-desk
decreases-loop-desk g l = l.limit + 1 - vec_len l.bytes
