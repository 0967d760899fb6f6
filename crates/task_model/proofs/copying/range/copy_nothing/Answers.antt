use Rattle.task_model.proofs.CopyingLemmas.RangeLaws.{nothing_whole, nothing_read, nothing_kept, nothing_refused_read}
use Rattle.task_model.proofs.copying.range.copy_nothing.Goals as goal

pub returns-then-to-from-clause-moved : goal.returns-then-to-from-clause-moved
returns-then-to-from-clause-moved g c = nothing_whole _ _ _ _ _ c.if-to-from.true

pub returns-in-Ok-eq0-clause-moved : goal.returns-in-Ok-eq0-clause-moved
returns-in-Ok-eq0-clause-moved g c = nothing_read _ _ _ _ _ _ _ _ c.if-to-from.false c.in-Ok-eq0.field-0-test c.requires.same c.in-Ok-eq0.ensures.log

pub returns-in-Ok-clause-moved : goal.returns-in-Ok-clause-moved
returns-in-Ok-clause-moved g c = nothing_kept _ _ _ _ _ _ _ _ _ c.if-to-from.false c.requires.same c.in-Ok.ensures.log

pub returns-in-Err-clause-moved : goal.returns-in-Err-clause-moved
returns-in-Err-clause-moved g c = rw c.refused.ensures (nothing_refused_read _ _ _ _ _ _ _ c.if-to-from.false c.requires.same c.in-Err.ensures.log)
