use Rattle.kit_async.proofs.Speaking.{words_are_said}
use Rattle.kit_async.proofs.laws.words_are_said.Goals as goal

pub returns : goal.returns
returns c = words_are_said
