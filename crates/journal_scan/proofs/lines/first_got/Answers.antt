use Rattle.std.proofs.Common.{rules, tests}
use Rattle.std.proofs.lemmas.Iterator.Consumers.{YieldsList-from_first}
use Rattle.std.proofs.lemmas.Iterator.Search.{find_from_yields_List}
use Rattle.journal_model.specs.declared.entry.Entry.{Entry}
use Rattle.journal_model.specs.Journal.{got_from}
use Rattle.journal_scan.specs.Shown.{entry_shown}
use Rattle.journal_scan.proofs.lines.first_got.Goals as goal

pub returns : goal.returns
returns c =
    find_from_yields_List (λ (e : Entry). got_from c.args.child e.what) _ _ _ c.find.ensures.ran (YieldsList-from_first entry_shown (λ rest. rest) c.args.entries.now cc) (λ x b q k. search (rules, tests))
