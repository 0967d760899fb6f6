use Rattle.std.proofs.Common.{◌∙◌, ap, ℕ, drop}
use Rattle.std.specs.List.{list_any}
use Rattle.journal_model.specs.Journal.{each_of, is_job}
use Rattle.journal_scan.specs.Looks.{written_to}
use Rattle.journal_scan.proofs.Written.{unsent_by_jobs}
use Rattle.journal_scan.proofs.lines.is_unsent.Goals as goal

pub returns : goal.returns
returns c =
    c.is_behind.ensures
    ∙ ap (λ (n : ℕ). list_any (is_job c.args.job) (drop n (each_of (written_to c.args.child) c.args.entries.now))) c.sents.ensures
    ∙ unsent_by_jobs c.args.entries.now c.args.child c.args.job
