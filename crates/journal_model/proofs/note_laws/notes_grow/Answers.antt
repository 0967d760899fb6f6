use Rattle.journal_model.proofs.Growing.{group_follows}
use Rattle.journal_model.proofs.Noting.{notes_grow, group_notes}
use Rattle.journal_model.proofs.note_laws.notes_grow.Goals as goal

pub returns-clause-grow : goal.returns-clause-grow
returns-clause-grow c = λ o past more. notes_grow o past more

pub returns-clause-group : goal.returns-clause-group
returns-clause-group c = λ o past e rest g. group_notes o past e rest (group_follows o past e rest g).1
