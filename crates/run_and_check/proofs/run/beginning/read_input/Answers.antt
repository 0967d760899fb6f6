use Rattle.std.proofs.Common.{Err, ap}
use Rattle.cli_words.specs.declared.task_input.error.InputError.TheVariants.{Refused}
use Rattle.run_and_check.proofs.RunLemmas.Begun.{taken_as}
use Rattle.run_and_check.proofs.run.beginning.read_input.Goals as goal

pub returns-in-Err-Refused : goal.returns-in-Err-Refused
returns-in-Err-Refused g c =
    let old = c.args.input.now in
    let new = c.read_tasks.new.source in
    taken_as (g.I.Source.told old).given (g.I.Source.told new).given (g.I.Source.told old).left (g.I.Source.told new).left (g.I.Source.told old).faults (g.I.Source.told new).faults (Err c.in-Err-Refused.field-0) (Err (Refused c.in-Err-Refused.line c.in-Err-Refused.reason))
    (ap Err c.in-Err-Refused.field-0-is) c.in-Err-Refused.ensures.input c.in-Err-Refused.ensures.told c.in-Err-Refused.ensures.faults
