use Rattle.journal_model.proofs.Versions.{spoke_version}
use Rattle.journal_model.proofs.half_laws.speaking_begins_with_the_version.Goals as goal

pub returns : goal.returns
returns c = spoke_version
