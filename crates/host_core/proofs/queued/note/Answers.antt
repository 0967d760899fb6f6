use Rattle.std.proofs.Common.{Option, subst}
use Rattle.journal_model.specs.declared.entry.What.{What}
use Rattle.host_core.specs.Queued.{IsTurnedIn}
use Rattle.host_core.proofs.queued.note.Goals as goal

pub returns-in-Some : goal.returns-in-Some
returns-in-Some c = λ o past after turned are.
    c.note.ensures o past after (subst (λ (what : Option What). IsTurnedIn past what after) c.in-Some.is turned) are
