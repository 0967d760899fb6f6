use Rattle.std.proofs.Common.{◌∙◌, ap}
use Rattle.std.specs.Prelude.{option_map}
use Rattle.journal_look.specs.declared.jobs.Open.{Open}
use Rattle.journal_look.proofs.Opening.{first_open_here}
use Rattle.journal_look.proofs.jobs.first_open.Goals as goal

pub returns-in-Some : goal.returns-in-Some
returns-in-Some c past are = ap (option_map (λ (x : Open). x.job)) c.in-Some.ensures ∙ first_open_here past c.args.jobs.now c.args.child are

pub returns-in-None : goal.returns-in-None
returns-in-None c past are = ap (option_map (λ (x : Open). x.job)) c.in-None.ensures ∙ first_open_here past c.args.jobs.now c.args.child are
