use Rattle.std.proofs.Common.{◌+◌, ◌≤◌, length}
use Rattle.kept_file.specs.Text.KeptFiles.{lines_in}
use Rattle.kept_file.proofs.TextLemmas.Taking.{Taking}
use Rattle.kept_file.proofs.text.reading.take_lines.Given as goal

abbrev pub invariant-loop-rest : goal.invariant-loop-rest
invariant-loop-rest l =
    Taking l.initial.registers l.initial.notes (lines_in l.text) l.registers l.notes l.number (lines_in l.rest) × (l.number + length l.rest ≤ 1 + length l.text)

abbrev pub decreases-loop-rest : goal.decreases-loop-rest
decreases-loop-rest l = length l.rest
