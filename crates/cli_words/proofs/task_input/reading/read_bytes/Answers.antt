use Rattle.std.proofs.Common.{◌++◌}
use Rattle.std.proofs.lemmas.Result.{err_from_is_err_and}
use Rattle.cli_words.proofs.TaskInputLemmas.Given.{given_both, step_fails}
use Rattle.cli_words.proofs.task_input.reading.read_bytes.Goals as goal

pub returns-in_err-read_step-clause-given : goal.returns-in_err-read_step-clause-given
returns-in_err-read_step-clause-given g c =
    let step = c.in_err-read_step.ensures.given in
    let p = err_from_is_err_and c.from_residual.result c.from_residual.ensures.1 in (
      c.loop-source.bytes.items ++ step.0,
      given_both _ _ _ _ _ _ c.loop-source.bytes.items step.0 c.loop-source.invariant.given step.1,
      rw (p.1, p.2) (step_fails c.loop-source.bytes.items c.read_step.new.bytes.items step.0 (c.loop-source.bytes.items ++ step.0) (g.S.Source.told c.read_step.new.source).left c.args.limit c.in_err-read_step.field-0.0 step.2),
    )
