use Rattle.std.proofs.Common.{◌≡◌, sym}
use Rattle.host_core.proofs.Pushing.{free_first}
use Rattle.host_core.proofs.machine.take_memory.Goals as goal

pub returns-clause-free : goal.returns-clause-free
returns-clause-free c = λ none. c.keep_group.ensures.free (free_first c.args.step.now.what c.args.step.now.due none)
