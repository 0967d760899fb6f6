use Rattle.std.proofs.Common.{◌+◌, ◌≤◌, length}
use Rattle.cli_words.specs.TaskInput.InputLines.{lines_of}
use Rattle.cli_words.proofs.TaskInputLemmas.Taking.{Taking}
use Rattle.cli_words.proofs.task_input.lines.take_lines.Given as goal

abbrev pub invariant-loop-rest : goal.invariant-loop-rest
invariant-loop-rest l =
    Taking l.limits (lines_of l.last l.text) l.list.items l.number (lines_of l.last l.rest) × (l.number + length l.rest ≤ 1 + length l.text)

abbrev pub decreases-loop-rest : goal.decreases-loop-rest
decreases-loop-rest l = length l.rest
