use Rattle.run_children.proofs.OneNumber.{one_number}
use Rattle.run_children.proofs.rows.one_number.Goals as goal

pub returns : goal.returns
returns c = one_number
