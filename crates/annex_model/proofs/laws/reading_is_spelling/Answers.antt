use Rattle.annex_model.proofs.Readings.{read_of_spelled, spelled_of_read, host_of_spelled, spelled_of_host}
use Rattle.annex_model.proofs.laws.reading_is_spelling.Goals as goal

pub returns-clause-remote : goal.returns-clause-remote
returns-clause-remote c = λ m line. (spelled_of_read m line, read_of_spelled m line)

pub returns-clause-host : goal.returns-clause-host
returns-clause-host c = λ m line. (spelled_of_host m line, host_of_spelled m line)
