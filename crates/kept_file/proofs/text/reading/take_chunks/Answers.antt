use Rattle.std.proofs.Common.{[], ◌++◌, sym, ap, ◌∙◌, Option}
use Rattle.std.specs.Prelude.{option_map}
use Rattle.std.specs.List.{cons_option}
use Rattle.ann_key.specs.KeyRefs.{text_of}
use Rattle.task_text.specs.ChunkLog.NoteBooks.{counting}
use Rattle.task_text.specs.declared.chunk_log.line.ChunkLine.{ChunkLine}
use Rattle.kept_file.proofs.TextLemmas.Chunked.{chunk_read, no_space}
use Rattle.kept_file.proofs.text.reading.take_chunks.Goals as goal

pub add-requires-clause-key : goal.add-requires-clause-key
add-requires-clause-key c = no_space (text_of c.args.key) c.requires

pub returns-in_ok-add-in-Ok-clause-notes : goal.returns-in_ok-add-in-Ok-clause-notes
returns-in_ok-add-in-Ok-clause-notes c =
    λ key uuid chunk.
    c.in_ok-add-in-Ok.ensures.counts key uuid chunk
    ∙ ap (λ (o : Option ChunkLine). counting (c.args.notes.now ++ cons_option (option_map (λ line. record { key = text_of c.args.key; line = line }) o) []) key uuid chunk)
    (sym (chunk_read c.args.log.now c.in-Ok.line c.in-Ok.ensures.read))
