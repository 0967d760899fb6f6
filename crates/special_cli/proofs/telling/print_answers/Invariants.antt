use Rattle.std.proofs.Common.{◌≡◌, ◌++◌, ◌+◌, drop}
use Rattle.special_cli.specs.Tells.{answer_lines}
use Rattle.special_cli.proofs.telling.print_answers.Given as goal

abbrev pub invariant-loop-n : goal.invariant-loop-n
invariant-loop-n l = answer_lines l.journal.entries 1 l.answers ≡ l.text.items ++ answer_lines l.journal.entries (l.n + 1) (drop l.n l.answers)
