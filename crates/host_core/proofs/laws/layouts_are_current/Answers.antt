use Rattle.host_core.proofs.Noting.{layouts_current_at}
use Rattle.host_core.proofs.laws.layouts_are_current.Goals as goal

pub returns : goal.returns
returns c = layouts_current_at
