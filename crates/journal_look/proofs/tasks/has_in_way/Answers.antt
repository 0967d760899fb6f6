use Rattle.std.proofs.Common.{◌∙◌}
use Rattle.journal_look.proofs.InWay.{in_way}
use Rattle.journal_look.proofs.tasks.has_in_way.Goals as goal

pub returns-in-Some : goal.returns-in-Some
returns-in-Some c = c.is_held_in_way.ensures ∙ in_way c.args.opening.now c.args.journal.now.entries c.in-Some.held.now c.args.task c.in-Some.ensures
