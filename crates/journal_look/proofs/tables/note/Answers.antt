use Rattle.std.proofs.Common.{refl}
use Rattle.journal_scan.specs.Shown.{entry_shown}
use Rattle.journal_look.proofs.Tabling.{noted}
use Rattle.journal_look.proofs.tables.note.Goals as goal

pub returns : goal.returns
returns c past at are =
    noted past (entry_shown c.args.entry) c.args.tables.now _ are c.left_after-tables.ensures (c.note-2.ensures past are.lives) (c.note-3.ensures past are.holds) (c.note.ensures past at are.lives are.jobs) refl c.note-4.ensures c.top_after-tables.ensures
    (c.claimed_after-tables.ensures.some are.some) (c.claimed_after-tables.ensures.claimed past are.claimed)
