use Rattle.journal_scan.specs.Shown.{entry_shown}
use Rattle.journal_look.proofs.Holding.{after_held}
use Rattle.journal_look.proofs.held.note.Goals as goal

pub returns : goal.returns
returns c past are =
    record { held = λ told. after_held past (entry_shown c.args.entry) c.args.holds.now.each.items _ (are.held c.if-not-holds.false) (c.note_known-known.ensures told) }
