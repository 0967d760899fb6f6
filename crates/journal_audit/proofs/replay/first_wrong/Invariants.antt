use Rattle.std.proofs.Common.{◌≡◌, slice_get, take}
use Rattle.journal_audit.specs.Replays.{IsReplayed}
use Rattle.journal_audit.proofs.replay.first_wrong.Given as goal

abbrev pub invariant-loop-at : goal.invariant-loop-at
invariant-loop-at l = record {
  opening : l.core.opening ≡ l.opening;
  replayed : IsReplayed l.opening (take l.at l.journal.entries) (slice_get l.journal.entries l.at) l.core.journal;
}
