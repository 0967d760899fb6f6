use Rattle.desk_tests.proofs.TasksLemmas.Scripting.{asked_more}
use Rattle.desk_tests.proofs.tasks.script.DoneAskerAsker.ask.Goals as goal

pub returns-clause-pairs : goal.returns-clause-pairs
returns-clause-pairs c =
    rw (c.push_reserved.ensures.items, c.reserve.ensures.items, c.in_ok-request.ensures) (asked_more c.args.self.now.asked.items c.args.request.now c.verdict_of-verdict.result)
