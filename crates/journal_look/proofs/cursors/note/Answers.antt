use Rattle.journal_look.proofs.cursors.note.Goals as goal

pub returns-in-Starts : goal.returns-in-Starts
returns-in-Starts c = c.begin.ensures c.args.entries.now c.requires
