use Rattle.std.proofs.Common.{subst}
use Rattle.journal_audit.specs.Audits.{ReplaysTo}
use Rattle.journal_audit.specs.declared.replay.Replayed.{Replayed}
use Rattle.audit_command.proofs.Recovering.{run_answered}
use Rattle.audit_command.proofs.recover.recovering.from_run.Goals as goal

pub returns-in-Ok-Whole-clause-ends : goal.returns-in-Ok-Whole-clause-ends
returns-in-Ok-Whole-clause-ends g c =
    let replays = subst (λ (r : Replayed). ReplaysTo c.args.opening c.args.journal.entries r) c.in-Ok-Whole.field-0-is c.in-Ok-Whole.ensures.replayed in
    run_answered c.args.kept_name.now (g.D.Desk.told c.args.desk.now).files (g.D.Desk.told c.answered.new.desk) c.args.opening c.args.journal.entries c.answered.result.journal.entries c.in-Ok-Whole.core
    c.answered.result.end replays.0 replays.1 c.answered.ensures.ends
