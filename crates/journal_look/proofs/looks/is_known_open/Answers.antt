use Rattle.std.proofs.Common.{◌∙◌, sym}
use Rattle.journal_look.proofs.Opening.{open_none}
use Rattle.journal_look.proofs.looks.is_known_open.Goals as goal

pub returns-in-Some : goal.returns-in-Some
returns-in-Some c is = open_none c.args.journal.now.entries c.args.child c.args.job (sym (c.is_open.ensures c.args.journal.now.entries c.in-Some.ensures) ∙ is)
