use Rattle.journal_model.proofs.Registering.{settings-append, settings_from-none}
use Rattle.journal_model.proofs.register_laws.settings_grow.Goals as goal

pub returns-clause-grow : goal.returns-clause-grow
returns-clause-grow c = settings-append

pub returns-clause-none : goal.returns-clause-none
returns-clause-none c = settings_from-none
