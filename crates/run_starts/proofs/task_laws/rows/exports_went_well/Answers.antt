use Rattle.std.proofs.Common.{[]}
use Rattle.std.specs.Fmt.{digits}
use Rattle.run_starts.proofs.task_laws.rows.exports_went_well.Goals as goal
use Rattle.ann_key.proofs.Lists.{not_nil}

pub returns-clause-short : goal.returns-clause-short
unfolding digits
returns-clause-short c = λ well. not_nil 2 [] well.desk.found.lengths
