use Rattle.std.proofs.Common.{◌∙◌, ap, Some, List, ℕ, take, Option}
use Rattle.std.specs.Prelude.{slice_get}
use Rattle.journal_model.specs.declared.entry.Entry.{Entry}
use Rattle.journal_model.specs.Journal.{addressed, any, offers}
use Rattle.journal_scan.specs.Shown.{entry_shown}
use Rattle.journal_scan.specs.Looks.{hosts_line, text_after}
use Rattle.journal_scan.proofs.NoneBefore.{none_before}
use Rattle.journal_scan.proofs.talks.request_text.Goals as goal

pub returns-in-Some : goal.returns-in-Some
returns-in-Some c =
    let past = c.args.entries.now in
    let n = c.place-at.result in
    ap (λ (l : List ℕ). Some l) c.text_of.ensures
    ∙ ap (λ (l : List ℕ). Some (addressed c.front.result c.args.child l).1) c.hosts_line.ensures
    ∙ ap (λ (es : List Entry). Some (addressed es c.args.child (hosts_line (entry_shown c.in-Some.e).what)).1) c.front.ensures
    ∙ ap (λ (o : Option Entry). text_after (take n past) c.args.child o) c.in-Some.ensures
    ∙ ap (λ (k : ℕ). text_after (take k past) c.args.child (slice_get past k)) c.place-at.ensures.value

pub returns-in-None : goal.returns-in-None
returns-in-None c =
    let past = c.args.entries.now in
    let n = c.place-at.result in
    ap (λ (o : Option Entry). text_after (take n past) c.args.child o) c.in-None.ensures
    ∙ ap (λ (k : ℕ). text_after (take k past) c.args.child (slice_get past k)) c.place-at.ensures.value

pub text_of-requires : goal.text_of-requires
text_of-requires c plain =
    ap (λ (es : List Entry). any (offers c.args.child) es) c.front.ensures ∙ none_before c.args.child c.place-at.result c.args.entries.now (c.requires.plain plain)
