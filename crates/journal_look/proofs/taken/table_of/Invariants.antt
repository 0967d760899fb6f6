use Rattle.journal_look.proofs.Taking.{AreTakenBefore}
use Rattle.journal_look.proofs.taken.table_of.Given as goal

abbrev pub invariant-loop-e : goal.invariant-loop-e
invariant-loop-e l = AreTakenBefore l.entries l.e-iterator l.taken.items
