use Rattle.std.proofs.Common.{◌∙◌, ap, List, ℕ}
use Rattle.annex_model.specs.Messages.{remote_reading}
use Rattle.journal_model.specs.Due.{is_version_one}
use Rattle.journal_scan.specs.Shown.{entry_shown}
use Rattle.journal_scan.proofs.Written.{said_found, said_nothing}
use Rattle.journal_scan.proofs.lines.said_version.Goals as goal

pub returns-in-Some : goal.returns-in-Some
returns-in-Some c =
    c.is_version_one.ensures
    ∙ ap (λ (l : List ℕ). is_version_one (remote_reading l)) c.got_line.ensures
    ∙ said_found c.args.entries.now c.args.child (entry_shown c.in-Some.e) c.in-Some.ensures

pub returns-in-None : goal.returns-in-None
returns-in-None c = said_nothing c.args.entries.now c.args.child c.in-None.ensures
