use Rattle.std.proofs.Common.{◌∙◌, sym, ap, cond, None, Option}
use Rattle.task_text.specs.ChunkLog.NoteBooks.{is_of, newer}
use Rattle.task_text.specs.declared.chunk_log.line.ChunkLine.{ChunkLine}
use Rattle.task_text.proofs.ChunkLogLemmas.Counting.{pushed}
use Rattle.task_text.proofs.chunk_log.laws.counting_goes_on.Goals as goal

pub returns : goal.returns
returns c = λ book all note key uuid chunk same.
    pushed (is_of key uuid chunk) None book note
    ∙ ap (λ (l : Option ChunkLine). cond (is_of key uuid chunk note) (newer l note) l) same
    ∙ sym (pushed (is_of key uuid chunk) None all note)
