-- What a child begins with may begin a run.
use Rattle.std.proofs.Common.{◌≡◌, length, lit≤, refl, sym, ap, subst}
use Rattle.std.proofs.lemmas.List.Elements.{All-nil}
use Rattle.task_text.specs.TaskLines.{IsTask}
use Rattle.task_text.proofs.ChunkLogLemmas.Uuids.{nil_written}
use Rattle.registers.specs.Registers.{RegisterFile}
use Rattle.journal_model.specs.Beginnings.{MayBegin}
use Rattle.journal_model.specs.declared.opening.Opening.{Opening}
use Rattle.mirror_remote.specs.Starts.Openings.{mirror_opening}

pub no_tasks : (r : RegisterFile) (o : Opening) → o ≡ mirror_opening r → length o.tasks ≡ 0
no_tasks r o h = ap (λ (x : Opening). length x.tasks) h

pub may_begin : (r : RegisterFile) (o : Opening) → o ≡ mirror_opening r → MayBegin o
may_begin r o h = subst MayBegin (sym h) record {
  few = lit≤ tt;
  tasks = All-nil IsTask;
  lines = record { uuid = refl; name = refl; gitdir = refl };
  uuid = nil_written;
  again = lit≤ tt;
}
