use Rattle.std.proofs.Common.{◌≡◌, ◌≤◌, true}
use Rattle.plain_lines.specs.Carry.Carries.{longest_line, Told, Going}
use Rattle.plain_lines.proofs.carry.carrying.take_turns.Given as goal

abbrev pub invariant-loop : goal.invariant-loop
invariant-loop g l = record {
  goes : (begun : Told) → Going g.V.Way.passes begun (g.S.Source.told l.initial.source).given (g.W.Sink.told l.initial.sink).taken l.initial.splitter.bytes
      → Going g.V.Way.passes begun (g.S.Source.told l.source).given (g.W.Sink.told l.sink).taken l.splitter.bytes;
  limit : l.splitter.limit ≡ longest_line;
  later : ((g.S.Source.told l.initial.source).faults ≤ (g.S.Source.told l.source).faults) × ((g.W.Sink.told l.initial.sink).faults ≤ (g.W.Sink.told l.sink).faults);
  opened : ((g.S.Source.told l.source).is_open ≡ true) × ((g.W.Sink.told l.sink).is_open ≡ true);
}
