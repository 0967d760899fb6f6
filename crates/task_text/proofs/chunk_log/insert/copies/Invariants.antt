use Rattle.std.proofs.Common.{◌≡◌, ◌++◌}
use Rattle.task_text.proofs.chunk_log.insert.copies.Given as goal

-- those that were taken, and those that are left
abbrev pub invariant-loop-note : goal.invariant-loop-note
invariant-loop-note l = l.copies.keys ++ l.note-iterator ≡ l.notes.keys
