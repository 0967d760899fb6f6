use Rattle.std.proofs.Common.{◌∙◌, sym}
use Rattle.cli_words.proofs.Refusing.{not_refused, task_key}
use Rattle.cli_words.proofs.refusals.refusal.Goals as goal

pub returns-clause-fit : goal.returns-clause-fit
returns-clause-fit c =
    (λ h. task_key c.args.key.now (sym c.first_reason.ensures ∙ h), λ k. c.first_reason.ensures ∙ not_refused c.args.key.now k)
