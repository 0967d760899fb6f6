use Rattle.std.proofs.Common.{◌∙◌, ap, drop, List}
use Rattle.std.proofs.lemmas.List.{drop-drop}
use Rattle.journal_model.specs.declared.entry.Entry.{Entry}
use Rattle.journal_scan.specs.Shown.{entry_shown}
use Rattle.journal_scan.specs.Spans.{line_within}
use Rattle.journal_scan.proofs.Spanning.{said_within_is}
use Rattle.journal_scan.proofs.spans.said_within.Goals as goal

pub returns-in-Some : goal.returns-in-Some
returns-in-Some c =
    let past = c.args.entries.now in
    let at = c.args.at in
    let e : Entry = entry_shown c.in-Some.e in
    c.line_within.ensures
    ∙ ap (λ (es : List Entry). line_within c.args.span c.args.child at e.what es) (c.behind-in-Some.ensures ∙ ap (λ (es : List Entry). drop 1 es) c.behind.ensures ∙ drop-drop 1 at past)
    ∙ said_within_is past c.args.child c.args.job c.args.span at e c.requires c.in-Some.ensures
