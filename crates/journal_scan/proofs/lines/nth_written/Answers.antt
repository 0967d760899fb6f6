use Rattle.std.proofs.Common.{rules, tests}
use Rattle.std.proofs.lemmas.Iterator.Consumers.{nth_from_yields_List, YieldsList-from_filter, YieldsList-from_first}
use Rattle.journal_scan.specs.Shown.{entry_shown}
use Rattle.journal_scan.proofs.lines.nth_written.Goals as goal

pub returns : goal.returns
returns c =
    nth_from_yields_List c.nth.result _ c.args.n c.nth.ensures.ran
    (YieldsList-from_filter _ _ (YieldsList-from_first entry_shown (λ rest. rest) c.args.entries.now cc) c.filter.ensures.closure (λ x r q k. search (rules, tests)))
