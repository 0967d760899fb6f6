use Rattle.std.proofs.Common.{◌≡◌, ◌∙◌, List, sym, ap, Some}
use Rattle.std.specs.Prelude.{slice_get}
use Rattle.journal_model.specs.declared.entry.Entry.{Entry}
use Rattle.journal_scan.specs.Shown.{entry_shown}
use Rattle.journal_look.proofs.Settling.{asked_at}
use Rattle.journal_look.proofs.dues.job_at.Goals as goal

pub due_job-requires-clause-asked : goal.due_job-requires-clause-asked
due_job-requires-clause-asked c = λ j asks_j.
    let there : slice_get c.args.journal.now.entries c.args.at ≡ Some (entry_shown c.in-Some.e) =
    ap (λ (es : List Entry). slice_get es c.args.at) (sym c.entries.ensures) ∙ sym c.in-Some.ensures in
    asked_at c.args.journal.now.entries c.args.at c.args.child j (entry_shown c.in-Some.e) there asks_j
