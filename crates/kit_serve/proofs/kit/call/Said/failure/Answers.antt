use Rattle.std.proofs.Common.{◌∙◌, not, List, ℕ, ap}
use Rattle.annex_model.specs.Lines.{has_newline}
use Rattle.kit_serve.proofs.KitLemmas.FirstLines.{before_whole}
use Rattle.kit_serve.proofs.kit.call.Said.failure.Goals as goal

pub returns-clause-line : goal.returns-clause-line
returns-clause-line c =
    ap (λ (text : List ℕ). not (has_newline text)) (c.in_ok-text.ensures ∙ c.first_line.ensures) ∙ ap not (before_whole c.args.text.now)
