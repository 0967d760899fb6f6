use Rattle.std.proofs.Common.{◌∙◌, ap, List, ℕ, Some, None}
use Rattle.journal_scan.specs.Shown.{entry_shown}
use Rattle.journal_scan.proofs.Written.{next_found}
use Rattle.journal_look.proofs.cursors.unsent_from.Goals as goal

pub returns-in-Some : goal.returns-in-Some
returns-in-Some c =
    ap (λ (l : List ℕ). Some l) c.hosts_line.ensures
    ∙ next_found c.args.entries.now c.args.child c.args.sent (Some (entry_shown c.in-Some.e)) c.requires.sent c.in-Some.ensures

pub returns-in-None : goal.returns-in-None
returns-in-None c = next_found c.args.entries.now c.args.child c.args.sent None c.requires.sent c.in-None.ensures
