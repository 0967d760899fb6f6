use Rattle.journal_scan.specs.Shown.{entry_shown}
use Rattle.journal_look.proofs.Taking.{taken_next}
use Rattle.journal_look.proofs.taken.table_of.Goals as goal

pub loop-e-preserved : goal.loop-e-preserved
loop-e-preserved c =
    taken_next c.args.entries.now c.loop-e.e-iterator c.next.new.self (entry_shown c.in-Some.e) c.loop-e.taken.items c.note.new.taken.items c.in-Some.ensures.steps c.note.ensures c.loop-e.invariant
