use Rattle.std.proofs.Common.{◌≡◌, [], Option, sym, subst, ◌∙◌}
use Rattle.std.specs.Iterator.{YieldsFirstBy}
use Rattle.journal_scan.specs.declared.entry.EntryRef.{EntryRef}
use Rattle.journal_scan.specs.Shown.{entry_shown}
use Rattle.journal_scan.proofs.Parts.{none_first}
use Rattle.journal_scan.proofs.entries.IterIterator.next.Goals as goal

pub returns-in_err-entry-clause-steps : goal.returns-in_err-entry-clause-steps
returns-in_err-entry-clause-steps c =
    let none : c.args.self.now ≡ [] = sym c.self.view_is ∙ none_first c.self.inside.rest c.in_err-entry.ensures in
    subst (λ (r : Option EntryRef). YieldsFirstBy entry_shown (λ rest. rest) c.args.self.now r c.args.self.now) (sym c.from_residual.ensures) (none, none)
