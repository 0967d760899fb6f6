use Rattle.std.proofs.Common.{◌∙◌, sym, ap}
use Rattle.std.specs.Prelude.{option_and_then, Option}
use Rattle.journal_model.specs.declared.entry.Entry.{Entry}
use Rattle.journal_model.specs.Journal.{verdict_in}
use Rattle.journal_scan.proofs.Firsts.{verdict_by_find}
use Rattle.journal_scan.proofs.children.verdict_of.Goals as goal

pub returns-in-Some : goal.returns-in-Some
returns-in-Some c =
    let found = λ (o : Option Entry). option_and_then (λ e. verdict_in c.args.child c.args.job e.what) o in
    c.verdict_in.ensures ∙ ap found c.in-Some.ensures ∙ sym (verdict_by_find c.args.entries.now c.args.child c.args.job)

pub returns-in-None : goal.returns-in-None
returns-in-None c =
    let found = λ (o : Option Entry). option_and_then (λ e. verdict_in c.args.child c.args.job e.what) o in
    ap found c.in-None.ensures ∙ sym (verdict_by_find c.args.entries.now c.args.child c.args.job)
