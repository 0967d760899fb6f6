use Rattle.std.proofs.Common.{◌≡◌, ◌++◌, take}
use Rattle.host_core.proofs.Pushing.{pushed}
use Rattle.host_core.proofs.group.push_verdicts.Given as goal

abbrev pub invariant-loop-at : goal.invariant-loop-at
invariant-loop-at l =
    (l.journal.entries ≡ l.initial.journal.entries ++ pushed (take l.past.n l.initial.journal.entries) l.by l.child l.past.n l.verdict l.unsent l.at)
    × (l.journal.room ≡ l.initial.journal.room)
