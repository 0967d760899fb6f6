use Rattle.std.proofs.Common.{◌≡◌, ◌++◌, Option, subst, sym, append-nil, ap, ◌∙◌}
use Rattle.host_core.specs.declared.event.Event.{Event}
use Rattle.journal_audit.specs.Replays.{group_by}
use Rattle.journal_audit.proofs.replay.step.Goals as goal

pub returns-in_ok-_reply-in-Some-clause-made : goal.returns-in_ok-_reply-in-Some-clause-made
returns-in_ok-_reply-in-Some-clause-made c =
    subst (λ (x : Option Event). c.step.new.self.journal ≡ c.args.core.now.journal ++ group_by c.args.core.now.opening c.args.core.now.journal c.args.by x) (sym c.in-Some.is) c.in_ok-_reply-in-Some.ensures.journal

pub returns-in-None-clause-made : goal.returns-in-None-clause-made
returns-in-None-clause-made c =
    subst (λ (x : Option Event). c.args.core.now.journal ≡ c.args.core.now.journal ++ group_by c.args.core.now.opening c.args.core.now.journal c.args.by x) (sym c.in-None.is) (sym (append-nil c.args.core.now.journal))
