use Rattle.std.proofs.Common.{refl}
use Rattle.task_model.proofs.CopyingLemmas.CopyLaws.{causes_refused}
use Rattle.task_model.proofs.CopyingLemmas.ReadLaws.{resumed, not_resumed, never_resumed}
use Rattle.task_model.proofs.copying.kept.resume.Goals as goal

pub returns-in-Ok-cut-clause-resumed : goal.returns-in-Ok-cut-clause-resumed
returns-in-Ok-cut-clause-resumed g c = resumed _ _ _ _ _ _ _ _ c.in-Ok-cut.ensures.log c.check_first.ensures.read

pub returns-clause-resumed : goal.returns-clause-resumed
returns-clause-resumed g c = rw c.refused.ensures (not_resumed _ _ _ _ _ _ c.in-Err.ensures.log)

pub returns-clause-causes : goal.returns-clause-causes
returns-clause-causes g c = rw c.refused.ensures (causes_refused _ _ _ _ refl c.in-Err.ensures.causes)

pub returns-in_default-clause-resumed : goal.returns-in_default-clause-resumed
returns-in_default-clause-resumed g c = never_resumed _ _ _ _ _
