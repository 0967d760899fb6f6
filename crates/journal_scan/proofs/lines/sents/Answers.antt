use Rattle.std.proofs.Common.{rules, tests}
use Rattle.std.proofs.lemmas.Iterator.Consumers.{YieldsList-from_filter, YieldsList-from_first, count_from_yields_List}
use Rattle.journal_scan.specs.Shown.{entry_shown}
use Rattle.journal_scan.proofs.lines.sents.Goals as goal

pub returns : goal.returns
returns c =
    count_from_yields_List c.filter.result c.count.result c.count.ensures.ran (YieldsList-from_filter _ _ (YieldsList-from_first entry_shown (λ rest. rest) c.args.entries.now cc) c.filter.ensures.closure (λ x r q k. search (rules, tests)))
