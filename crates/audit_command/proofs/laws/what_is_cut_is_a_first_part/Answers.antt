use Rattle.audit_command.proofs.CutAnywhere.{cut_text}
use Rattle.audit_command.proofs.laws.what_is_cut_is_a_first_part.Goals as goal

pub returns : goal.returns
returns c = λ t bytes more lines class all ended. cut_text t class bytes more lines all ended
