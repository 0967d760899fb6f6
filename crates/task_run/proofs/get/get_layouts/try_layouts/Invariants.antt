use Rattle.std.proofs.Common.{◌≡◌}
use Rattle.std.specs.Prelude.{Ok}
use Rattle.ann_key.specs.KeyRefs.{parts_of}
use Rattle.journal_model.specs.declared.answer.Answer.TheVariants.{Got}
use Rattle.task_model.specs.Askers.{IsSameTask}
use Rattle.task_model.specs.Ran.{HasTaskCauses}
use Rattle.task_run.proofs.GetLemmas.GetAlls.{TriesSoFar}
use Rattle.task_run.proofs.get.get_layouts.try_layouts.Given as goal

abbrev pub invariant-loop-i : goal.invariant-loop-i
invariant-loop-i g l = record {
  so_far : TriesSoFar l.get.setup.now l.get.turn (parts_of l.get.key) l.get.file.now l.layouts l.i l.asked (g.A.Asker.told l.fn.asker).pairs (g.A.Asker.told l.asker).pairs (g.D.Desk.told l.fn.desk).log (g.D.Desk.told l.desk).log;
  on : g.A.Asker.goes_on l.fn.asker l.asker;
  notes : (g.A.Asker.told l.asker).notes ≡ (g.A.Asker.told l.fn.asker).notes;
  same : IsSameTask (g.A.Asker.told l.fn.asker) (g.A.Asker.told l.asker);
  causes : HasTaskCauses (g.D.Desk.told l.fn.desk).counts (g.D.Desk.told l.desk).counts (Ok Got);
}
