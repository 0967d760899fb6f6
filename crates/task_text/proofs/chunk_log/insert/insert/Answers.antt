use Rattle.std.proofs.Common.{sym, ◌∙◌}
use Rattle.task_text.proofs.ChunkLogLemmas.Inserting.{left_out, put_in}
use Rattle.task_text.proofs.chunk_log.insert.insert.Goals as goal

pub returns-then-is_outdated-clause-ok : goal.returns-then-is_outdated-clause-ok
returns-then-is_outdated-clause-ok c = left_out c.args.note c.args.notes.now.keys c.requires (sym c.is_outdated.ensures ∙ c.if-is_outdated.true)

pub returns-clause-ok : goal.returns-clause-ok
returns-clause-ok c = c.in_ok-replace.ensures.keys ∙ put_in c.args.note c.args.notes.now.keys c.requires (sym c.is_outdated.ensures ∙ c.if-is_outdated.false)
