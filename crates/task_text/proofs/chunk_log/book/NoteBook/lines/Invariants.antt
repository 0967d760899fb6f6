use Rattle.std.proofs.Common.{◌≡◌, ◌++◌, map}
use Rattle.task_text.proofs.chunk_log.book.NoteBook.lines.Given as goal

-- those that were taken, and those that are left
abbrev pub invariant-loop-note : goal.invariant-loop-note
invariant-loop-note l = map (λ note. note.now) l.lines.items ++ l.note-iterator ≡ l.self
