use Rattle.std.proofs.Common.{rules, tests}
use Rattle.std.proofs.lemmas.Iterator.Consumers.{YieldsList-from_filter_map, YieldsList-from_first}
use Rattle.std.proofs.lemmas.Iterator.Search.{any_from_yields_List}
use Rattle.std.specs.Prelude.{ℕ, ◌==◌}
use Rattle.journal_model.specs.declared.entry.Entry.{Entry}
use Rattle.journal_model.specs.Journal.{asks}
use Rattle.journal_scan.specs.Shown.{entry_shown}
use Rattle.journal_scan.proofs.children.is_asked.Goals as goal

pub returns : goal.returns
returns c =
    any_from_yields_List (λ (k : ℕ). k == c.args.job) _ _ _ c.any.ensures.ran
    (YieldsList-from_filter_map _ (λ (e : Entry). asks c.args.child e.what) (YieldsList-from_first entry_shown (λ rest. rest) c.args.entries.now cc) c.filter_map.ensures.closure (λ x r q k. search (rules, tests)))
    (λ x b q k. search (rules, tests))
