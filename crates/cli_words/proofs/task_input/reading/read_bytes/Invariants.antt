use Rattle.std.proofs.Common.{◌≡◌, ◌+◌, ◌-◌, length, true}
use Rattle.ann_outside.specs.Causes.{StaysUntold}
use Rattle.cli_words.specs.TaskInput.Reads.{HasGiven}
use Rattle.cli_words.proofs.task_input.reading.read_bytes.Given as goal

abbrev pub invariant-loop-source : goal.invariant-loop-source
invariant-loop-source g l = record {
  given : HasGiven (g.S.Source.told l.initial.source).given (g.S.Source.told l.source).given (g.S.Source.told l.initial.source).left (g.S.Source.told l.source).left l.bytes.items;
  silent : StaysUntold (g.S.Source.told l.initial.source).given (g.S.Source.told l.source).given × StaysUntold (g.S.Source.told l.initial.source).left (g.S.Source.told l.source).left;
  faults : (g.S.Source.told l.source).faults ≡ (g.S.Source.told l.initial.source).faults;
  opened : (g.S.Source.told l.source).is_open ≡ true;
  number : (g.S.Source.told l.source).number ≡ (g.S.Source.told l.initial.source).number;
}

abbrev pub decreases-loop-source : goal.decreases-loop-source
decreases-loop-source g l = l.limit + 1 - length l.bytes.items
