use Rattle.std.proofs.Common.{◌∙◌, ℕ, ap, sym}
use Rattle.std.specs.Prelude.{is_some}
use Rattle.journal_model.specs.Legality.{is_greeted}
use Rattle.journal_scan.proofs.Firsts.{some_verdict}
use Rattle.journal_look.proofs.looks.is_greeted.Goals as goal

pub returns-in-1 : goal.returns-in-1
returns-in-1 c =
    c.is_some.ensures
    ∙ ap is_some c.verdict_of.ensures
    ∙ some_verdict c.args.journal.now.entries c.args.child 0
    ∙ ap (λ (job : ℕ). is_greeted c.args.journal.now.entries c.args.child job) (sym c.in-1.is)
