use Rattle.std.proofs.Common.{◌≡◌, ◌≤◌, take, true}
use Rattle.std.specs.Io.KnownBytes.{Appends}
use Rattle.annex_model.specs.Lines.{text}
use Rattle.ann_outside.specs.Causes.{StaysUntold}
use Rattle.kit_serve.proofs.writing.write_lines.Given as goal

-- the lines so far were written
abbrev pub invariant-loop-line : goal.invariant-loop-line
invariant-loop-line g l = record {
  took : Appends (g.W.Sink.told l.initial.sink).taken (g.W.Sink.told l.sink).taken (text (take l.line-index l.line-items));
  silent : StaysUntold (g.W.Sink.told l.initial.sink).taken (g.W.Sink.told l.sink).taken;
  quiet : (g.W.Sink.told l.sink).faults ≡ (g.W.Sink.told l.initial.sink).faults;
  later : (g.W.Sink.told l.initial.sink).faults ≤ (g.W.Sink.told l.sink).faults;
  opened : (g.W.Sink.told l.sink).is_open ≡ true;
  number : (g.W.Sink.told l.sink).number ≡ (g.W.Sink.told l.initial.sink).number;
}
