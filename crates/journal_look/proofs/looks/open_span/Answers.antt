use Rattle.std.proofs.Common.{◌∙◌, ap, sym, length, List}
use Rattle.journal_model.specs.declared.entry.Entry.{Entry}
use Rattle.journal_look.proofs.looks.open_span.Goals as goal

pub returns-in-Some : goal.returns-in-Some
returns-in-Some c = c.span_of.ensures c.args.journal.now.entries (sym (c.len.ensures ∙ ap (λ (es : List Entry). length es) c.entries.ensures)) c.in-Some.ensures (sym c.is_offered.ensures ∙ c.if-is_offered.false)
