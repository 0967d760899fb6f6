use Rattle.std.proofs.Common.{◌∙◌, ◌+◌, ap, drop, take, List, Option}
use Rattle.std.proofs.lemmas.List.{drop-drop}
use Rattle.std.specs.Prelude.{option_and_then}
use Rattle.journal_model.specs.declared.entry.Entry.{Entry}
use Rattle.journal_model.specs.Parts.{item_of}
use Rattle.journal_scan.specs.Shown.{entry_shown}
use Rattle.journal_scan.specs.Looks.{remote_text}
use Rattle.journal_scan.proofs.talks.said_at.Goals as goal

pub returns-in-Some : goal.returns-in-Some
returns-in-Some c =
    let past = c.args.entries.now in
    let at = c.args.at in
    let e : Entry = entry_shown c.in-Some.e in
    c.said_in.ensures
    ∙ ap (λ (es : List Entry). remote_text (item_of c.args.child c.args.job es e.what c.behind-in-Some.result)) c.front.ensures
    ∙ ap (λ (es : List Entry). remote_text (item_of c.args.child c.args.job (take at past) e.what es)) (c.behind-in-Some.ensures ∙ ap (λ (es : List Entry). drop 1 es) c.behind.ensures ∙ drop-drop 1 at past)
    ∙ ap (λ (o : Option Entry). remote_text (option_and_then (λ d. item_of c.args.child c.args.job (take at past) d.what (drop (at + 1) past)) o)) c.in-Some.ensures
