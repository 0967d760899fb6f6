use Rattle.std.proofs.Common.{ap, ◌∙◌, [], List, ℕ, Option, unwrap_or}
use Rattle.std.proofs.lemmas.Option.{unwrap_or-slice_get}
use Rattle.journal_scan.proofs.record.line_lent.Goals as goal

pub returns-in-None : goal.returns-in-None
returns-in-None c = ap (λ (o : Option (List ℕ)). unwrap_or o []) c.in-None.ensures ∙ unwrap_or-slice_get c.args.lines.now.lines c.args.n []
