use Rattle.std.proofs.Common.{◌≡◌, [], refl}
use Rattle.std.specs.Prelude.{codes, Some, None, Ok}
use Rattle.ann_outside.specs.declared.file_desk.Call.TheVariants.{Append}
use Rattle.run_starts.proofs.task_laws.rows.had_no_part.Goals as goal
use Rattle.ann_key.proofs.Lists.{not_nil}

pub returns-clause-none : goal.returns-clause-none
returns-clause-none c = record { missing = refl; filled_last = refl }

pub returns-clause-there : goal.returns-clause-there
returns-clause-there c = λ h. let is : Some (codes "h") ≡ None = h.missing in cc

pub returns-clause-filled : goal.returns-clause-filled
returns-clause-filled c = λ h. not_nil (Append (codes "o.part") (codes "h") (Ok tt)) [] h.filled_last
