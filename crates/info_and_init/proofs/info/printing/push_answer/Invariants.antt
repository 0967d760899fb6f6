use Rattle.std.proofs.Common.{◌≡◌, ◌++◌, None}
use Rattle.annex_model.specs.Lines.{text}
use Rattle.annex_model.specs.Talks.{said}
use Rattle.wire_msg.specs.Shown.{host_shown}
use Rattle.journal_model.specs.Parts.{part}
use Rattle.info_and_init.specs.Info.Infos.{lines_from}
use Rattle.info_and_init.proofs.InfoLemmas.Places.{said_from}
use Rattle.info_and_init.proofs.info.printing.push_answer.Given as goal

abbrev pub invariant-loop-at : goal.invariant-loop-at
invariant-loop-at l =
    let q = host_shown l.question in
    l.fn.told.printed.items ++ text (lines_from q None (said (part l.journal.entries l.child l.job)))
    ≡ l.told.printed.items ++ text (lines_from q l.told.field (said_from l.journal.entries l.child l.job l.at))
