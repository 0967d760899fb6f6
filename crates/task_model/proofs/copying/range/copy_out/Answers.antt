use Rattle.std.proofs.Common.{refl}
use Rattle.std.specs.Prelude.{bytes_eq}
use Rattle.task_model.proofs.CopyingLemmas.CopyLaws.{causes_refused}
use Rattle.task_model.proofs.CopyingLemmas.RangeLaws.{out_made, out_refused, out_without, nothing_refused}
use Rattle.task_model.proofs.CopyingLemmas.FillLaws.{holds_range, own_or_apart, unmade}
use Rattle.task_model.proofs.copying.range.copy_out.Goals as goal

pub returns-in-Ok-create-clause-copied : goal.returns-in-Ok-create-clause-copied
returns-in-Ok-create-clause-copied g c =
    out_made _ _ _ _ _ _ _ _ _ _ c.in-Ok-create.ensures.log c.copy_made.ensures.moved
    (holds_range _ _ _ _ _ _ _ _ (bytes_eq c.args.file.now c.args.name.now) (own_or_apart c.args.file.now c.args.name.now) c.in-Ok-create.ensures.files c.copy_made.ensures.filled)

pub returns-clause-copied : goal.returns-clause-copied
returns-clause-copied g c = rw c.refused.ensures (out_refused _ _ _ _ _ _ _ _ _ c.in-Err.ensures.log (unmade _ _ _ _ c.in-Err.ensures.files))

pub returns-clause-causes : goal.returns-clause-causes
returns-clause-causes g c = rw c.refused.ensures (causes_refused _ _ _ _ refl c.in-Err.ensures.causes)

pub returns-in_default-clause-copied : goal.returns-in_default-clause-copied
returns-in_default-clause-copied g c = out_without _ _ _ _ _ _ _

pub returns-in_default-clause-itself : goal.returns-in_default-clause-itself
returns-in_default-clause-itself g c = λ e. tt

pub returns-clause-itself : goal.returns-clause-itself
returns-clause-itself g c = λ e. rw c.refused.ensures (nothing_refused c.in-Err.error)
