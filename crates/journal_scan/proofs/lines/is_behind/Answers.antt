use Rattle.std.proofs.Common.{rules, tests}
use Rattle.std.proofs.lemmas.Iterator.Adapters.{YieldsList-from_skip}
use Rattle.std.proofs.lemmas.Iterator.Consumers.{YieldsList-at, YieldsList-from_filter_map, YieldsList-from_first}
use Rattle.std.proofs.lemmas.Iterator.Search.{any_from_yields_List}
use Rattle.journal_model.specs.declared.entry.Entry.{Entry}
use Rattle.journal_model.specs.Journal.{is_job}
use Rattle.journal_scan.specs.Looks.{written_to}
use Rattle.journal_scan.specs.Shown.{entry_shown}
use Rattle.journal_scan.proofs.lines.is_behind.Goals as goal

pub returns : goal.returns
returns c =
    any_from_yields_List (is_job c.args.job) _ _ _ c.any.ensures.ran
    (YieldsList-from_skip c.args.sents
    (YieldsList-at c.skip.ensures.source (YieldsList-from_filter_map _ (λ (e : Entry). written_to c.args.child e.what) (YieldsList-from_first entry_shown (λ rest. rest) c.args.entries.now cc) c.filter_map.ensures.closure (λ x r q k. search (rules, tests))))
    cc)
    (λ x b q k. search (rules, tests))
