use Rattle.std.proofs.Common.{rules, tests, ◌∙◌, ℕ, sym}
use Rattle.std.proofs.lemmas.Iterator.Adapters.{option_map_id}
use Rattle.std.proofs.lemmas.Iterator.Consumers.{YieldsList-from_filter_map, YieldsList-from_first}
use Rattle.std.proofs.lemmas.Iterator.Search.{find_from_yields_List}
use Rattle.journal_model.specs.declared.entry.Entry.{Entry}
use Rattle.journal_model.specs.Legality.{claimed_for, may_work}
use Rattle.journal_scan.specs.Shown.{entry_shown}
use Rattle.journal_look.proofs.tasks.first_work.Goals as goal

pub returns : goal.returns
returns c =
    sym (option_map_id c.find.result)
    ∙ find_from_yields_List (λ (t : ℕ). may_work c.args.journal.now.entries c.args.by t c.args.child) _ _ _ c.find.ensures.ran
    (YieldsList-from_filter_map _ (λ (e : Entry). claimed_for c.args.child e.what) (YieldsList-from_first entry_shown (λ rest. rest) c.args.journal.now.entries cc) c.filter_map.ensures.closure (λ x r q k. search (rules, tests)))
    (λ x b q k. search (rules, tests))
