use Rattle.std.proofs.Common.{◌∙◌, sym}
use Rattle.std.specs.Prelude.{not}
use Rattle.journal_model.specs.Journal.{asked_jobs, is_settled}
use Rattle.journal_scan.proofs.Firsts.{first_filter}
use Rattle.journal_scan.proofs.children.first_open.Goals as goal

pub returns : goal.returns
returns c =
    let past = c.args.entries.now in
    let child = c.args.child in
    c.find_open.ensures ∙ sym (first_filter (λ j. not (is_settled past child j)) (asked_jobs past child))
