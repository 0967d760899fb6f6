use Rattle.std.proofs.Common.{sym}
use Rattle.journal_model.specs.Legality.{may_work}
use Rattle.journal_look.specs.declared.held.Held.{Held}
use Rattle.journal_look.proofs.Working.{none_found}
use Rattle.journal_look.proofs.tasks.held_work.Goals as goal
use Rattle.ann_key.proofs.Lists.{found_so}

pub returns-in-Some-clause-some : goal.returns-in-Some-clause-some
returns-in-Some-clause-some c =
    found_so (λ (h : Held). may_work c.args.journal.now.entries c.args.by h.task c.args.child) c.args.held.now c.in-Some.h.now (sym c.in-Some.ensures)

pub returns-in-None-clause-none : goal.returns-in-None-clause-none
returns-in-None-clause-none c = λ nothing.
    none_found (λ (h : Held). may_work c.args.journal.now.entries c.args.by h.task c.args.child) c.args.held.now (sym c.in-None.ensures)
