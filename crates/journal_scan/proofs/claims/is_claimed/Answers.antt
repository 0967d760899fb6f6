use Rattle.std.proofs.Common.{rules, tests}
use Rattle.std.proofs.lemmas.Iterator.Consumers.{YieldsList-from_first, fold_from_yields_List}
use Rattle.std.specs.Prelude.{Bool, false}
use Rattle.journal_model.specs.declared.entry.Entry.{Entry}
use Rattle.journal_model.specs.Legality.{claimed_on}
use Rattle.journal_scan.specs.Shown.{entry_shown}
use Rattle.journal_scan.proofs.claims.is_claimed.Goals as goal

pub returns : goal.returns
returns c =
    fold_from_yields_List _ (λ (b : Bool) (e : Entry). claimed_on c.args.task b e) false _ c.fold.ensures.ran (YieldsList-from_first entry_shown (λ rest. rest) c.args.entries.now cc) (λ a x r q k. search (rules, tests))
