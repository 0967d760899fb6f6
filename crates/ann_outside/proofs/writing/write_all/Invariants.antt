use Rattle.std.proofs.Common.{◌≡◌, ◌≤◌, ◌-◌, take, length, true}
use Rattle.std.specs.Io.KnownBytes.{Appends}
use Rattle.ann_outside.specs.Causes.{StaysUntold}
use Rattle.ann_outside.proofs.writing.write_all.Given as goal

abbrev pub invariant-loop-at : goal.invariant-loop-at
invariant-loop-at g l = record {
  within : l.at ≤ length l.bytes;
  taken : Appends (g.S.Sink.told l.initial.sink).taken (g.S.Sink.told l.sink).taken (take l.at l.bytes);
  silent : StaysUntold (g.S.Sink.told l.initial.sink).taken (g.S.Sink.told l.sink).taken;
  faults : (g.S.Sink.told l.sink).faults ≡ (g.S.Sink.told l.initial.sink).faults;
  opened : (g.S.Sink.told l.sink).is_open ≡ true;
  number : (g.S.Sink.told l.sink).number ≡ (g.S.Sink.told l.initial.sink).number;
}

abbrev pub decreases-loop-at : goal.decreases-loop-at
decreases-loop-at g l = length l.bytes - l.at
