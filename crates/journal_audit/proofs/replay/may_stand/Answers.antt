use Rattle.std.proofs.Common.{◌≡◌, length, ◌∙◌, sym, ap, subst, List, Some, slice_get}
use Rattle.std.specs.Prelude.{IsTrue, ◌↔◌, option_map}
use Rattle.host_core.specs.CoreValue.{CoreValue}
use Rattle.journal_model.specs.declared.entry.Entry.{Entry}
use Rattle.journal_scan.specs.Shown.{entry_shown}
use Rattle.journal_audit.specs.Replays.{IsTold}
use Rattle.journal_audit.proofs.Replaying.{next_entry}
use Rattle.journal_audit.proofs.replay.may_stand.Goals as goal
use Rattle.journal_audit.proofs.replay.may_stand.Goals.{then-len-at+in_ok-tell, else-len-at}

pub returns-clause-next : goal.returns-clause-next
returns-clause-next c =
    let long : c.len.result ≡ length c.args.core.now.journal = c.len.ensures ∙ ap length c.journal.ensures in
    λ past count replayed.
    next_entry c.args.core.now.opening past (entry_shown c.args.entry) (option_map entry_shown c.args.next) c.args.at c.args.core.now.journal c.if-len-at.core.journal c.is_at.result count replayed
    (λ level. elim c.if-len-at.branch [
      | then-len-at+in_ok-tell w ↦ subst (λ (h : CoreValue). IsTold c.args.core.now.opening c.args.core.now.journal (entry_shown c.args.entry) (option_map entry_shown c.args.next) h.journal) (sym w.core-is) w.in_ok-tell.ensures.told
      | else-len-at w ↦ absurd (w.if-len-at.false (long ∙ level))
    ])
    (λ longer. elim c.if-len-at.branch [
      | then-len-at+in_ok-tell w ↦ absurd (longer (sym long ∙ w.if-len-at.true))
      | else-len-at w ↦ ap (λ (h : CoreValue). h.journal) w.core-is
    ])
    (subst (λ (made : List Entry). IsTrue c.is_at.result ↔ (slice_get made c.args.at ≡ Some (entry_shown c.args.entry))) c.journal-2.ensures c.is_at.ensures)
