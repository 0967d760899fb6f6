use Rattle.std.proofs.Common.{◌∙◌, sym}
use Rattle.host_core.proofs.Running.{claimed_step}
use Rattle.host_core.proofs.moves.least.Goals as goal

pub returns-in-Some-clause-step : goal.returns-in-Some-clause-step
returns-in-Some-clause-step c =
    let o = c.args.opening.now in
    let past = c.args.journal.now.entries in
    claimed_step o past c.args.by c.args.child c.in-Some.task c.turn_of_task-turn.result c.append.result
    (sym c.requires.free ∙ c.in-Some.is)
    (c.turn_of_task-turn.ensures o past c.requires.runs)
    c.append.ensures
