use Rattle.std.proofs.Common.{sym}
use Rattle.task_run.proofs.GetLemmas.GetAlls.{tries_unsized}
use Rattle.task_run.proofs.get.get_layouts.try_chunks.Goals as goal

pub returns-in-None-clause-ran : goal.returns-in-None-clause-ran
returns-in-None-clause-ran g c = tries_unsized _ _ _ _ _ _ _ _ (sym c.in-None.ensures) c.requires.first
