use Rattle.std.proofs.Common.{◌++◌, List, ap, ◌∙◌}
use Rattle.std.specs.BTreeSet.{insert_key}
use Rattle.task_text.specs.ChunkLog.NoteBooks.{place_cmp}
use Rattle.task_text.specs.declared.chunk_log.note.Note.{Note}
use Rattle.task_text.proofs.ChunkLogLemmas.Inserting.{one_more}
use Rattle.task_text.proofs.chunk_log.insert.copies.Goals as goal

pub loop-note-preserved : goal.loop-note-preserved
loop-note-preserved c =
    ap (λ (l : List Note). l ++ c.next.new.self) c.in_ok-insert.ensures.keys
    ∙ ap (λ (n : Note). insert_key place_cmp c.loop-note.copies.keys n ++ c.next.new.self) c.in_ok-copy.ensures
    ∙ one_more c.args.notes.now.keys c.loop-note.copies.keys c.loop-note.note-iterator c.next.new.self c.in-Some.note.now c.requires c.loop-note.invariant c.in-Some.ensures.steps
