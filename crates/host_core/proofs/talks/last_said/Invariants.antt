use Rattle.std.proofs.Common.{◌≡◌, ◌≤◌, length}
use Rattle.annex_model.specs.Talks.{said}
use Rattle.journal_model.specs.Parts.{part}
use Rattle.host_core.specs.Moves.{said_before}
use Rattle.host_core.proofs.talks.last_said.Given as goal

abbrev pub invariant-loop-rest : goal.invariant-loop-rest
invariant-loop-rest l =
    (said (part l.journal.entries l.child l.job) ≡ said_before l.journal.entries l.child l.job l.rest) × (l.rest ≤ length l.journal.entries)

abbrev pub decreases-loop-rest : goal.decreases-loop-rest
decreases-loop-rest l = l.rest
