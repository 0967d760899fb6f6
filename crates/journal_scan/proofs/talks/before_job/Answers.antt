use Rattle.std.proofs.Common.{rules, tests, ◌∙◌, ◌≡◌, ◌≤◌, ℕ, Bool, not, length, subst, sym}
use Rattle.std.proofs.lemmas.Iterator.Consumers.{YieldsList-from_first, count_from_yields_List}
use Rattle.std.proofs.lemmas.Iterator.Search.{YieldsList-from_take_while}
use Rattle.std.proofs.lemmas.List.Folds.{length-prefix_len}
use Rattle.std.proofs.lemmas.List.Sums.{prefix_len-le-length}
use Rattle.std.specs.List.{prefix_len}
use Rattle.journal_model.specs.declared.entry.Entry.{Entry}
use Rattle.journal_scan.specs.Looks.{is_hosts}
use Rattle.journal_scan.specs.Shown.{entry_shown}
use Rattle.journal_scan.proofs.talks.before_job.Goals as goal

pub returns : goal.returns
returns c =
    let before : Entry → Bool = λ e. not (is_hosts c.args.child c.args.job e.what) in
    let past = c.args.entries.now in
    let value : c.count.result ≡ prefix_len before past =
    count_from_yields_List c.take_while.result c.count.result c.count.ensures.ran
    (YieldsList-from_take_while _ before (YieldsList-from_first entry_shown (λ rest. rest) past (cc)) c.take_while.ensures.closure c.take_while.ensures.done (λ x r q k. search (rules, tests)))
    ∙ length-prefix_len before past in
    record { value = value; bound = subst (λ (n : ℕ). n ≤ length past) (sym value) (prefix_len-le-length before past) }
