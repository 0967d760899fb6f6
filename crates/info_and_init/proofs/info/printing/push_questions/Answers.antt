use Rattle.std.proofs.Common.{◌≡◌, false, arith}
use Rattle.info_and_init.proofs.InfoLemmas.Told.{last_told}
use Rattle.info_and_init.proofs.info.printing.push_questions.Goals as goal

pub returns-then-not-branch : goal.returns-then-not-branch
returns-then-not-branch c =
    let over : c.in_ok-push_job.field-0 ≡ false = cc in
    last_told c.args.journal.now.entries c.args.child c.args.questions.now c.loop-n.n c.index-questions-n.result _ c.loop-n.told.printed.items c.push_job.new.told.printed.items c.in_ok-push_job.field-0
    (omega arith) c.index-questions-n.is over c.loop-n.invariant c.in_ok-push_job.ensures
