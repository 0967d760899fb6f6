use Rattle.info_and_init.proofs.info.telling.InfoText.push_message.Goals as goal

pub returns-in-Availability-clause-printed : goal.returns-in-Availability-clause-printed
returns-in-Availability-clause-printed c = rw (c.in-Availability.is, ← c.scope_name.ensures) c.push_line.ensures.printed

pub returns-in-WhereisFailure-clause-printed : goal.returns-in-WhereisFailure-clause-printed
returns-in-WhereisFailure-clause-printed c = rw c.in-WhereisFailure.is c.push_line-in-WhereisFailure.ensures.printed
