use Rattle.std.proofs.Common.{◌≡◌, ℕ, ◌+◌, ◌-◌, cond, true, List}
use Rattle.ann_outside.specs.Causes.{StaysUntold}
use Rattle.cli_words.specs.TaskInput.Reads.{HasGiven}
use Rattle.audit_command.specs.Intakes.{Took}
use Rattle.audit_command.proofs.reading.take_all.Given as goal

abbrev pub invariant-loop-intake : goal.invariant-loop-intake
invariant-loop-intake g l = record {
  bytes : (bytes : List ℕ) × HasGiven (g.S.Source.told l.initial.source).given (g.S.Source.told l.source).given (g.S.Source.told l.initial.source).left (g.S.Source.told l.source).left bytes × Took l.limits bytes l.intake;
  silent : StaysUntold (g.S.Source.told l.initial.source).given (g.S.Source.told l.source).given × StaysUntold (g.S.Source.told l.initial.source).left (g.S.Source.told l.source).left;
  faults : (g.S.Source.told l.source).faults ≡ (g.S.Source.told l.initial.source).faults;
  opened : (g.S.Source.told l.source).is_open ≡ true;
  number : (g.S.Source.told l.source).number ≡ (g.S.Source.told l.initial.source).number;
}

abbrev pub decreases-loop-intake : goal.decreases-loop-intake
decreases-loop-intake g l = cond {A = ℕ} l.intake.past 0 (l.limits.bytes + 1 - l.intake.bytes)
