use Rattle.kept_file.proofs.TextLemmas.Spelled.{read_of_spelled, spelled_of_read}
use Rattle.kept_file.proofs.text.laws.reading_is_spelling.Goals as goal

pub returns : goal.returns
returns c = λ k line. (spelled_of_read k line, read_of_spelled k line)
