use Rattle.host_core.proofs.Stepping.{step_comes, Legal-step}
use Rattle.host_core.proofs.Choosing.{chosen, appended}
use Rattle.host_core.proofs.laws.events_keep_legal.Goals as goal

pub returns-clause-group : goal.returns-clause-group
returns-clause-group c = λ o past by event few. step_comes o past by event few

pub returns-clause-legal : goal.returns-clause-legal
returns-clause-legal c = λ o past by event few legal. Legal-step o past by event few legal

pub returns-clause-exact : goal.returns-clause-exact
returns-clause-exact c = λ o past by w few. (chosen o past by w, appended o past by w few)
