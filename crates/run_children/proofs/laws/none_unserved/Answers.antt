use Rattle.run_children.proofs.NoneUnserved.{none_unserved}
use Rattle.run_children.proofs.laws.none_unserved.Goals as goal

pub returns : goal.returns
returns c = none_unserved
