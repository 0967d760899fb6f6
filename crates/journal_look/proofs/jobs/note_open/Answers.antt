use Rattle.std.proofs.Common.{◌∙◌, sym}
use Rattle.journal_scan.specs.Shown.{what_shown}
use Rattle.journal_look.proofs.Opening.{open_after}
use Rattle.journal_look.proofs.jobs.note_open.Goals as goal

pub returns-then-keeps_numbers : goal.returns-then-keeps_numbers
returns-then-keeps_numbers c done past e is at asked are = open_after past e (what_shown c.args.what) c.args.asked c.args.at c.args.jobs.now.items c.change.new.jobs.items is at asked (sym c.keeps_numbers.ensures ∙ c.if-keeps_numbers.true) (c.change.ensures done) are
