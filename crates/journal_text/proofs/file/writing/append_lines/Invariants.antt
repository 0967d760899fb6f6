use Rattle.std.proofs.Common.{take, ◌≡◌}
use Rattle.journal_text.specs.Lines.JournalTexts.{journal_lines}
use Rattle.journal_text.proofs.FileLemmas.Added.{IsAdding}
use Rattle.journal_text.proofs.file.writing.append_lines.Given as goal

-- the lines so far were taken up
abbrev pub invariant-loop-n : goal.invariant-loop-n
invariant-loop-n g l = record {
  adding : IsAdding (g.D.Desk.told l.fn.desk).log (g.D.Desk.told l.desk).log (g.D.Desk.told l.fn.desk).files (g.D.Desk.told l.desk).files l.name (take l.n (journal_lines l.opening l.journal.entries)) l.piece.items;
  quiet : (g.D.Desk.told l.desk).counts ≡ (g.D.Desk.told l.fn.desk).counts;
}
