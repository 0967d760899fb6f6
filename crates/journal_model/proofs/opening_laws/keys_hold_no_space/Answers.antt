use Rattle.journal_model.proofs.Beginning.{key_spaceless}
use Rattle.journal_model.proofs.opening_laws.keys_hold_no_space.Goals as goal

pub returns : goal.returns
returns c = key_spaceless
