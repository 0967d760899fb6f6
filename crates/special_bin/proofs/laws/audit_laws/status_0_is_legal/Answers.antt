use Rattle.special_bin.proofs.LawsLemmas.AtZero.{legal_at_zero}
use Rattle.special_bin.proofs.laws.audit_laws.status_0_is_legal.Goals as goal

pub returns : goal.returns
returns c before input out err left (outcome, audit, idle, told) = legal_at_zero input out err left outcome audit told
