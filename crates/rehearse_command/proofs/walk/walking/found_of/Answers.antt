use Rattle.std.proofs.Common.{◌∙◌, List, sym, subst}
use Rattle.journal_model.specs.Beginnings.{MayBegin}
use Rattle.journal_model.specs.declared.entry.Entry.{Entry}
use Rattle.journal_model.specs.declared.opening.Opening.{Opening}
use Rattle.journal_audit.specs.Audits.{IsAudit}
use Rattle.rehearse_command.proofs.walk.walking.found_of.Goals as goal

pub audit-requires : goal.audit-requires
audit-requires c = record { begins = subst MayBegin (sym (c.opening.ensures ∙ c.core-core.ensures.opening)) c.requires.in_step.begins }

pub returns-clause-audit : goal.returns-clause-audit
returns-clause-audit c =
    subst (λ (o : Opening). IsAudit o c.args.world.now.journal c.in_ok-found.found) (c.opening.ensures ∙ c.core-core.ensures.opening)
    (subst (λ (j : List Entry). IsAudit c.opening.result.now j c.in_ok-found.found) (c.journal.ensures ∙ c.core-core.ensures.journal) c.in_ok-found.ensures.audit)
