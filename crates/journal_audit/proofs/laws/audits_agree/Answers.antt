use Rattle.journal_audit.proofs.Auditing.{one_audit}
use Rattle.journal_audit.proofs.laws.audits_agree.Goals as goal

pub returns : goal.returns
returns c = λ o journal a b g h. one_audit o journal a b g h
