use Rattle.std.proofs.Common.{rules, tests}
use Rattle.std.proofs.lemmas.Iterator.Consumers.{YieldsList-at, YieldsList-from_filter, YieldsList-from_filter_map, YieldsList-from_first}
use Rattle.std.proofs.lemmas.Iterator.Search.{any_from_yields_List}
use Rattle.std.specs.Prelude.{ℕ, ◌==◌, not}
use Rattle.journal_model.specs.declared.entry.Entry.{Entry}
use Rattle.journal_model.specs.Journal.{asks, is_settled}
use Rattle.journal_scan.specs.Shown.{entry_shown}
use Rattle.journal_scan.proofs.children.is_open.Goals as goal

pub returns : goal.returns
returns c =
    any_from_yields_List (λ (k : ℕ). k == c.args.job) _ _ _ c.any.ensures.ran
    (YieldsList-from_filter _ (λ (k : ℕ). not (is_settled c.args.entries.now c.args.child k))
    (YieldsList-at c.filter.ensures.source (YieldsList-from_filter_map _ (λ (e : Entry). asks c.args.child e.what) (YieldsList-from_first entry_shown (λ rest. rest) c.args.entries.now cc) c.filter_map.ensures.closure (λ x r q k. search (rules, tests))))
    c.filter.ensures.closure (λ x r q k. search (rules, tests)))
    (λ x b q k. search (rules, tests))
