use Rattle.std.proofs.Common.{◌≡◌, ◌≤◌, ◌+◌}
use Rattle.ann_digest.specs.Checkers.{taken_of}
use Rattle.ann_key.specs.KeyRefs.{parts_of}
use Rattle.task_text.specs.Layouts.Layouts.{from_of}
use Rattle.task_model.specs.Askers.{IsSameTask}
use Rattle.task_run.proofs.GetLemmas.GetChunks.{SoFar}
use Rattle.task_run.proofs.get.get_layout.chunks.Given as goal

abbrev pub invariant-loop-i : goal.invariant-loop-i
invariant-loop-i g l = record {
  so_far : SoFar l.layout.get.setup.now l.layout.get.turn (parts_of l.layout.get.key) l.layout.size l.layout.chunk l.held l.i l.layout.get.part.now l.fn.asked l.asked (g.A.Asker.told l.fn.asker).pairs (g.A.Asker.told l.asker).pairs (g.D.Desk.told l.fn.desk).log (g.D.Desk.told l.desk).log l.fn.checker l.checker;
  room : taken_of l.checker ≤ from_of l.layout.chunk (l.i + 1);
  on : g.A.Asker.goes_on l.fn.asker l.asker;
  notes : (g.A.Asker.told l.asker).notes ≡ (g.A.Asker.told l.fn.asker).notes;
  same : IsSameTask (g.A.Asker.told l.fn.asker) (g.A.Asker.told l.asker);
  quiet : (g.D.Desk.told l.desk).counts ≡ (g.D.Desk.told l.fn.desk).counts;
}
