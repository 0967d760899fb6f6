use Rattle.task_text.proofs.LayoutsLemmas.Joined.{ranges_are_the_whole}
use Rattle.task_text.proofs.layouts.laws.ranges_are_the_whole.Goals as goal

pub returns : goal.returns
returns c = ranges_are_the_whole
