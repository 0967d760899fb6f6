use Rattle.annex_model.proofs.Readings.{sayable_of_spelled}
use Rattle.journal_model.proofs.FieldLines.{spelled_fields}
use Rattle.journal_model.proofs.register_laws.said_fields_fit.Goals as goal

pub returns-clause-class : goal.returns-clause-class
returns-clause-class c = sayable_of_spelled

pub returns-clause-lines : goal.returns-clause-lines
returns-clause-lines c = spelled_fields
