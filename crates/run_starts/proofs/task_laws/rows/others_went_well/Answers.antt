use Rattle.std.proofs.Common.{[]}
use Rattle.std.specs.Fmt.{digits}
use Rattle.run_starts.proofs.task_laws.rows.others_went_well.Goals as goal
use Rattle.ann_key.proofs.Lists.{not_nil}

pub returns-clause-other_length : goal.returns-clause-other_length
unfolding digits
returns-clause-other_length c = λ well. not_nil 2 [] well.desk.found.lengths
