use Rattle.std.proofs.Common.{sym, ◌∙◌, arith}
use Rattle.task_text.proofs.LayoutsLemmas.Counted.{held_all, held_some}
use Rattle.task_text.proofs.layouts.plan.held.Goals as goal

pub returns-then-size-part : goal.returns-then-size-part
returns-then-size-part c = c.count.ensures ∙ sym (held_all c.args.size c.args.chunk c.args.part c.requires (omega arith) (omega arith))

pub returns-else-size-part : goal.returns-else-size-part
returns-else-size-part c = sym (held_some c.args.size c.args.chunk c.args.part c.requires (omega arith))
