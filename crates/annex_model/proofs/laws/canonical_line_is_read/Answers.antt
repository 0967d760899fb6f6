use Rattle.annex_model.proofs.Readings.{canonical_read, canonical_remote_read}
use Rattle.annex_model.proofs.laws.canonical_line_is_read.Goals as goal

pub returns-clause-host : goal.returns-clause-host
returns-clause-host c = λ m h. canonical_read m h

pub returns-clause-remote : goal.returns-clause-remote
returns-clause-remote c = λ m h. canonical_remote_read m h
