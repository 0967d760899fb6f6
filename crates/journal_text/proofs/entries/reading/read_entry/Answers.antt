use Rattle.std.proofs.Common.{◌≡◌, Some, Option, true, false, sym, ap, ◌∙◌}
use Rattle.std.specs.Prelude.{bytes_eq}
use Rattle.std.proofs.lemmas.Slice.Eq.{bytes_eq-Decides}
use Rattle.journal_model.specs.declared.entry.Entry.{Entry}
use Rattle.journal_text.specs.Entries.Entries.{entry_at, entry_line}
use Rattle.journal_text.proofs.EntriesLemmas.EntryBack.{entry_back}
use Rattle.journal_text.proofs.entries.reading.read_entry.Goals as goal

pub returns-in_default-clause-found : goal.returns-in_default-clause-found
returns-in_default-clause-found c = λ entry is line. sym c.in_default.is ∙ c.in_ok-entry.ensures ∙ ap entry_at line ∙ entry_back entry is

pub returns-then-eq-clause-found : goal.returns-then-eq-clause-found
returns-then-eq-clause-found c = λ entry is line. sym c.in-Some.is ∙ c.in_ok-entry.ensures ∙ ap entry_at line ∙ entry_back entry is

pub returns-else-eq-clause-found : goal.returns-else-eq-clause-found
returns-else-eq-clause-found c = λ entry is line.
    let read : ◌≡◌ {A = Option Entry} (Some c.in-Some.entry) (Some entry) = sym c.in-Some.is ∙ c.in_ok-entry.ensures ∙ ap entry_at line ∙ entry_back entry is in
    let same : c.in-Some.entry ≡ entry = cc in
    let again : c.view.result.now ≡ c.args.line.now = c.view.ensures ∙ c.in_ok-written.ensures ∙ ap entry_line same ∙ sym line in
    let yes : bytes_eq c.view.result.now c.args.line.now ≡ true = (bytes_eq-Decides c.view.result.now c.args.line.now).1 again in
    let no : bytes_eq c.view.result.now c.args.line.now ≡ false = sym c.eq.ensures ∙ c.if-eq.false in
    absurd cc
