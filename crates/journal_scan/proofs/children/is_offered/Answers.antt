use Rattle.std.proofs.Common.{rules, tests}
use Rattle.std.proofs.lemmas.Iterator.Consumers.{YieldsList-from_first}
use Rattle.std.proofs.lemmas.Iterator.Search.{any_from_yields_List}
use Rattle.journal_model.specs.declared.entry.Entry.{Entry}
use Rattle.journal_model.specs.Journal.{offers}
use Rattle.journal_scan.specs.Shown.{entry_shown}
use Rattle.journal_scan.proofs.children.is_offered.Goals as goal

pub returns : goal.returns
returns c =
    any_from_yields_List (λ (e : Entry). offers c.args.child e.what) _ _ _ c.any.ensures.ran (YieldsList-from_first entry_shown (λ rest. rest) c.args.entries.now cc) (λ x b q k. search (rules, tests))
