use Rattle.std.proofs.Common.{ap, not, ◌∙◌}
use Rattle.task_text.specs.ChunkLog.NoteBooks.{is_newer}
use Rattle.task_text.proofs.chunk_log.insert.is_outdated.Goals as goal

pub returns-in-Some : goal.returns-in-Some
returns-in-Some c = ap not c.is_no_later.ensures ∙ ap (is_newer c.args.note.now) c.in-Some.ensures.key

pub returns-in-None : goal.returns-in-None
returns-in-None c = ap (is_newer c.args.note.now) c.in-None.ensures.key
