use Rattle.std.proofs.Common.{refl}
use Rattle.rehearse_command.proofs.WalkLemmas.Walked.{has_walked}
use Rattle.rehearse_command.proofs.walk.walking.finish.Goals as goal

pub returns-in-Ok : goal.returns-in-Ok
returns-in-Ok c =
    has_walked c.args.seed c.args.tasks c.args.walked _ _ _ c.in-Ok.found c.requires c.journal_of-journal.ensures c.in-Ok.ensures.answers refl c.in-Ok.ensures.audit
