use Rattle.std.proofs.Common.{subst, List}
use Rattle.journal_model.specs.declared.entry.Entry.{Entry}
use Rattle.journal_audit.specs.Replays.{MayBeNext}
use Rattle.journal_audit.proofs.Suiting.{suits_lost}
use Rattle.journal_audit.proofs.events.lost_event.Goals as goal

pub returns : goal.returns
returns c = λ by.
    suits_lost c.args.core.now.opening c.args.core.now.journal by c.args.child c.args.task c.in_ok-request.request
    (subst (λ (p : List Entry). MayBeNext p c.args.child c.in_ok-request.request) c.journal.ensures c.in_ok-request.ensures)
