use Rattle.std.proofs.Common.{◌≡◌, ◌++◌, ◌+◌, drop}
use Rattle.special_cli.specs.Recoveries.{recovered_lines}
use Rattle.special_cli.proofs.telling.print_recovered.Given as goal

abbrev pub invariant-loop-n : goal.invariant-loop-n
invariant-loop-n l = recovered_lines l.journal.entries 1 l.answers ≡ l.text.items ++ recovered_lines l.journal.entries (l.n + 1) (drop l.n l.answers)
