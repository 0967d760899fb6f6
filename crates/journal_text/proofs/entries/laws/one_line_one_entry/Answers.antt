use Rattle.std.proofs.Common.{◌≡◌, Some, Option, sym, ap, ◌∙◌}
use Rattle.journal_model.specs.declared.entry.Entry.{Entry}
use Rattle.journal_text.specs.Entries.Entries.{entry_at}
use Rattle.journal_text.proofs.EntriesLemmas.EntryBack.{entry_back}
use Rattle.journal_text.proofs.entries.laws.one_line_one_entry.Goals as goal

pub returns : goal.returns
returns c = λ a b is_a is_b same.
    let read : ◌≡◌ {A = Option Entry} (Some a) (Some b) = sym (entry_back a is_a) ∙ ap entry_at same ∙ entry_back b is_b in
    cc
