use Rattle.journal_reader.proofs.Continuing.{refused_is_in_none}
use Rattle.journal_reader.proofs.laws.what_is_refused_is_in_no_text.Goals as goal

pub returns : goal.returns
returns c = refused_is_in_none
