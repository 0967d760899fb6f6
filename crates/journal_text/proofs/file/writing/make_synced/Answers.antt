use Rattle.journal_text.specs.Lines.JournalTexts.{journal_lines}
use Rattle.journal_text.proofs.FileLemmas.Added.{synced_calls, synced_as, synced_untold}
use Rattle.journal_text.proofs.file.writing.make_synced.Goals as goal

pub returns-clause-calls : goal.returns-clause-calls
returns-clause-calls g c =
    synced_calls c.args.name.now (journal_lines c.args.opening.now c.args.journal.now.entries) _ _ _ _ c.in_ok-make_text.ensures.calls c.sync.ensures.log

pub returns-clause-files : goal.returns-clause-files
returns-clause-files g c =
    synced_as c.args.name.now (journal_lines c.args.opening.now c.args.journal.now.entries) _ _ _ _ c.in_ok-make_text.ensures.files c.sync.ensures.files

pub returns-clause-found : goal.returns-clause-found
returns-clause-found g c = λ e.
    synced_untold c.args.name.now (journal_lines c.args.opening.now c.args.journal.now.entries) _ _ _ e c.in_ok-make_text.ensures.files c.sync.ensures.told
