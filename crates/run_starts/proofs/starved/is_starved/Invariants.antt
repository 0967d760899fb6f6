use Rattle.std.proofs.Common.{◌≡◌, false}
use Rattle.std.specs.Prelude.{take}
use Rattle.journal_model.specs.Journal.{any}
use Rattle.run_starts.specs.Rounds.{ends_for_memory}
use Rattle.run_starts.proofs.starved.is_starved.Given as goal

-- none of the entries so far
abbrev pub invariant-entries : goal.invariant-entries
invariant-entries l = any ends_for_memory (take l.at l.journal.entries) ≡ false
