use Rattle.std.proofs.Common.{rules, tests, ◌∙◌, Bool, not}
use Rattle.std.proofs.lemmas.Iterator.Consumers.{YieldsList-from_first, count_from_yields_List}
use Rattle.std.proofs.lemmas.Iterator.Search.{YieldsList-from_take_while}
use Rattle.std.proofs.lemmas.List.Folds.{length-prefix_len}
use Rattle.journal_model.specs.declared.entry.Entry.{Entry}
use Rattle.journal_model.specs.Journal.{settles}
use Rattle.journal_scan.specs.Shown.{entry_shown}
use Rattle.journal_scan.proofs.spans.before_verdict.Goals as goal

pub returns : goal.returns
returns c =
    let before : Entry → Bool = λ e. not (settles c.args.child c.args.job e.what) in
    count_from_yields_List c.take_while.result c.count.result c.count.ensures.ran
    (YieldsList-from_take_while _ before (YieldsList-from_first entry_shown (λ rest. rest) c.args.entries.now (cc)) c.take_while.ensures.closure c.take_while.ensures.done (λ x r q k. search (rules, tests)))
    ∙ length-prefix_len before c.args.entries.now
