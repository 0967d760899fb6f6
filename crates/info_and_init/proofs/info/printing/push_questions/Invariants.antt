use Rattle.std.proofs.Common.{◌≡◌, ◌++◌, ◌+◌, map, drop}
use Rattle.annex_model.specs.Lines.{text}
use Rattle.wire_msg.specs.Shown.{host_shown}
use Rattle.info_and_init.specs.Info.Infos.{questions_from}
use Rattle.info_and_init.proofs.info.printing.push_questions.Given as goal

abbrev pub invariant-loop-n : goal.invariant-loop-n
invariant-loop-n l =
    l.fn.told.printed.items ++ text (questions_from l.journal.entries l.child (map host_shown l.questions) 2)
    ≡ l.told.printed.items ++ text (questions_from l.journal.entries l.child (map host_shown (drop l.n l.questions)) (l.n + 2))
