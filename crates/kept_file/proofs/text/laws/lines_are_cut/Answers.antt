use Rattle.kept_file.proofs.TextLemmas.WrittenLines.{lines_back, unended_last}
use Rattle.kept_file.proofs.text.laws.lines_are_cut.Goals as goal

pub returns-clause-ended : goal.returns-clause-ended
returns-clause-ended c = lines_back

pub returns-clause-unended : goal.returns-clause-unended
returns-clause-unended c = unended_last
