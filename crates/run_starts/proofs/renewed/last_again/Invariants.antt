use Rattle.std.proofs.Common.{◌-◌, length}
use Rattle.run_starts.proofs.LastAgain.{NoneFrom}
use Rattle.run_starts.proofs.renewed.last_again.Given as goal

-- none of the entries after it
abbrev pub invariant-entries : goal.invariant-entries
invariant-entries l = NoneFrom l.journal.entries l.task (length l.journal.entries - l.back)
