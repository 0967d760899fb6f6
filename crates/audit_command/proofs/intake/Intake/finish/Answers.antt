use Rattle.audit_command.proofs.Taking.{ends_past, ends_within}
use Rattle.audit_command.proofs.intake.Intake.finish.Goals as goal

pub returns-then-self : goal.returns-then-self
returns-then-self c = λ limits bytes more t e. ends_past limits bytes more c.args.self _ c.if-self.true t c.finish.ensures.bad

pub returns : goal.returns
returns c = λ limits bytes more t e.
    ends_within limits bytes more c.args.self c.end_input.new.self _ c.if-self.false t c.in_ok-end_input.ensures c.finish-2.ensures.ends (e c.if-self.false)
