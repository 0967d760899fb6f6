use Rattle.std.specs.Prelude.{option_map}
use Rattle.journal_scan.specs.Shown.{what_shown}
use Rattle.journal_audit.proofs.Replaying.{on_ok, told_plain}
use Rattle.journal_audit.proofs.replay.tell_plain.Goals as goal

pub returns-clause-told : goal.returns-clause-told
returns-clause-told c =
    on_ok c.step.result c.step.ensures.made (λ made plain next.
    told_plain c.args.core.now.opening c.args.core.now.journal record { by = c.args.by; what = what_shown c.args.what } next c.in_ok-event.event c.step.new.core.journal c.requires plain
    (c.in_ok-event.ensures c.args.by plain) made)
