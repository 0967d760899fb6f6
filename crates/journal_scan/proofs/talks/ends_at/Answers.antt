use Rattle.std.proofs.Common.{◌∙◌}
use Rattle.journal_scan.specs.Shown.{entry_shown}
use Rattle.journal_scan.proofs.Firsts.{first_ends, none_ends}
use Rattle.journal_scan.proofs.talks.ends_at.Goals as goal

pub returns-in-Some : goal.returns-in-Some
returns-in-Some c = c.is_end_at.ensures c.in-Some.first.by ∙ first_ends c.args.c c.args.at c.args.rest.now (entry_shown c.in-Some.first) c.in-Some.ensures

pub returns-in-None : goal.returns-in-None
returns-in-None c = none_ends c.args.c c.args.at c.args.rest.now c.in-None.ensures
