use Rattle.journal_model.proofs.Growing.{group_keeps, group_follows, follows_group}
use Rattle.journal_model.proofs.laws.group_keeps_legal.Goals as goal

pub returns-clause-legal : goal.returns-clause-legal
returns-clause-legal c = λ o past group legal g. group_keeps o past group legal g

pub returns-clause-first : goal.returns-clause-first
returns-clause-first c = λ o past e rest.
    (λ g. group_follows o past e rest g, λ h. follows_group o past e rest h.0 h.1)
