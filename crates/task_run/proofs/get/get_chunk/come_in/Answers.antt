use Rattle.std.proofs.Common.{◌∙◌, ap}
use Rattle.std.proofs.lemmas.Bool.{ne_eqb}
use Rattle.task_run.specs.Get.ChunkFetches.{over_with}
use Rattle.task_run.proofs.GetLemmas.ChunkLaws.{comes_unmeasured, comes_misfit, comes_copied}
use Rattle.task_run.proofs.get.get_chunk.come_in.Goals as goal

pub returns-then-bytes-chunk-clause-came : goal.returns-then-bytes-chunk-clause-came
returns-then-bytes-chunk-clause-came g c = comes_copied _ _ _ _ _ _ _ _ _ (rw c.if-bytes-chunk.true at c.in-Ok.ensures.log) c.copy_over.ensures.copied

pub returns-else-bytes-chunk-clause-came : goal.returns-else-bytes-chunk-clause-came
returns-else-bytes-chunk-clause-came g c =
    let d = c.discard.ensures.calls in
    comes_misfit _ _ _ _ _ _ _ _ d.0 _ c.in-Ok.ensures.log (ne_eqb _ _ c.if-bytes-chunk.false) d.1 (c.over.ensures ∙ ap over_with d.2)

pub returns-in-Err-clause-came : goal.returns-in-Err-clause-came
returns-in-Err-clause-came g c = rw (c.over-in-Err.ensures, c.refused.ensures) (comes_unmeasured _ _ _ _ _ _ _ c.in-Err.ensures.log)
