use Rattle.std.proofs.Common.{◌≡◌, ◌∙◌, List, sym, ap, Bool, not, drop}
use Rattle.journal_model.specs.declared.entry.Entry.{Entry}
use Rattle.journal_model.specs.Journal.{is_settled}
use Rattle.journal_look.proofs.Settling.{settled_before}
use Rattle.journal_look.proofs.dues.is_settled_by.Goals as goal

pub returns-else-is_settled : goal.returns-else-is_settled
returns-else-is_settled c =
    let xs : List Entry = c.args.journal.now.entries in
    let after = c.behind.ensures ∙ ap (drop c.args.n) c.entries-entries.ensures in
    let none = sym (c.is_settled.ensures ∙ ap (λ (es : List Entry). is_settled es c.args.child c.args.job) after) ∙ c.if-is_settled.false in
    ap not c.is_open.ensures ∙ sym (settled_before xs c.args.n c.args.child c.args.job c.requires.asked none)
