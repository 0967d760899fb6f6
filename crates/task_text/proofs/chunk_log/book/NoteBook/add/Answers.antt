use Rattle.task_text.specs.ChunkLog.NoteBooks.{IsNote}
use Rattle.task_text.specs.declared.chunk_log.note.Note.{Note}
use Rattle.task_text.proofs.ChunkLogLemmas.Kept.{counted, kept}
use Rattle.task_text.proofs.chunk_log.book.NoteBook.add.Goals as goal

pub invariant_of-self : goal.invariant_of-self
invariant_of-self c =
    let note : Note = record { key = c.in_ok-key.key; line = c.args.line } in
    let own : IsNote (record { key = c.in_ok-key.key; line = c.args.line }) = record { key = rw c.in_ok-key.ensures c.requires.key; line = c.requires.line } in
    kept c.insert.result note c.self.inside.notes.keys c.insert.new.notes.keys c.insert.ensures.ok c.insert.ensures.err c.self.invariant.0 c.self.invariant.1 own

pub returns-clause-counts : goal.returns-clause-counts
returns-clause-counts c =
    let note : Note = record { key = c.in_ok-key.key; line = c.args.line } in
    rw (← c.in_ok-key.ensures, ← c.self.view_is) (counted c.insert.result note c.self.inside.notes.keys c.insert.new.notes.keys c.insert.ensures.ok c.self.invariant.0)
