use Rattle.std.proofs.Common.{◌∙◌, ap, sym, ◌++◌, ◌∷◌, []}
use Rattle.journal_scan.specs.Shown.{what_shown}
use Rattle.journal_look.proofs.Opening.{told_more, told_now}
use Rattle.journal_look.proofs.jobs.tell.Goals as goal

pub returns-then-has : goal.returns-then-has
returns-then-has c past e w are told =
    c.keep.ensures (past ++ e ∷ [])
    (told_more past e c.args.told.now.items told)
    (told_now past c.args.jobs.now e c.in-Verdict.child c.in-Verdict.job c.in-Verdict.verdict are (sym c.has.ensures ∙ c.if-has.true) (w ∙ ap what_shown c.in-Verdict.is))
