use Rattle.std.proofs.Common.{◌∙◌, ap, List, ℕ, Some, None}
use Rattle.journal_scan.specs.Shown.{entry_shown}
use Rattle.journal_scan.proofs.Written.{next_found}
use Rattle.journal_scan.proofs.lines.first_unsent.Goals as goal

pub returns-in-Some : goal.returns-in-Some
returns-in-Some c =
    ap (λ (l : List ℕ). Some l) c.hosts_line.ensures
    ∙ next_found c.args.entries.now c.args.child c.sents.result (Some (entry_shown c.in-Some.e)) c.sents.ensures c.in-Some.ensures

pub returns-in-None : goal.returns-in-None
returns-in-None c = next_found c.args.entries.now c.args.child c.sents.result None c.sents.ensures c.in-None.ensures
