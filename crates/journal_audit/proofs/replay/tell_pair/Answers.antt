use Rattle.std.proofs.Common.{ap, length, ◌∙◌}
use Rattle.std.specs.Prelude.{option_map}
use Rattle.journal_scan.specs.Shown.{entry_shown}
use Rattle.journal_audit.specs.Replays.{group_by}
use Rattle.journal_audit.proofs.Replaying.{pair_told, pair_untold, made_same}
use Rattle.journal_audit.proofs.replay.tell_pair.Goals as goal

pub returns-else-len-before-clause-told : goal.returns-else-len-before-clause-told
returns-else-len-before-clause-told c = λ same job line reads.
    pair_told c.args.core.now.opening c.args.core.now.journal c.args.by c.args.child job line (option_map entry_shown c.args.next) c.in_ok-event.event (c.in_ok-event.ensures c.args.by job line reads)
    c.step.new.core.journal c.len-before.result c.len.result c.requires c.in_ok-step.ensures.made (c.len-before.ensures ∙ ap length c.journal.ensures) (c.len.ensures ∙ ap length c.journal-2.ensures) c.if-len-before.false

pub returns-then-len-before-clause-untold : goal.returns-then-len-before-clause-untold
returns-then-len-before-clause-untold c = λ same. (
  made_same c.args.core.now.journal (group_by c.args.core.now.opening c.args.core.now.journal c.args.by c.in_ok-event.event) c.step.new.core.journal c.len-before.result c.len.result
      c.in_ok-step.ensures.made (c.len-before.ensures ∙ ap length c.journal.ensures) (c.len.ensures ∙ ap length c.journal-2.ensures) c.if-len-before.true,
  λ job line reads.
      pair_untold c.args.core.now.opening c.args.core.now.journal c.args.by c.args.child job line (option_map entry_shown c.args.next) c.in_ok-event.event (c.in_ok-event.ensures c.args.by job line reads)
      c.step.new.core.journal c.len-before.result c.len.result c.in_ok-step.ensures.made (c.len-before.ensures ∙ ap length c.journal.ensures) (c.len.ensures ∙ ap length c.journal-2.ensures) c.if-len-before.true,
)
