use Rattle.std.proofs.Common.{◌≡◌, ◌+◌, ◌≤◌, ◌∷◌, true, length, arith, sym, subst, ◌∙◌}
use Rattle.std.proofs.lemmas.Result.{err_from_is_err_and}
use Rattle.cli_words.specs.TaskInput.InputLines.{has_line, lines_of}
use Rattle.cli_words.proofs.TaskInputLemmas.Lined.{first_line, no_line, shorter}
use Rattle.cli_words.proofs.TaskInputLemmas.Taking.{Taking, taking_end, taking_more, taking_refused}
use Rattle.cli_words.proofs.task_input.lines.take_lines.Goals as goal

pub loop-rest-preserved : goal.loop-rest-preserved
loop-rest-preserved c =
    let rest = c.loop-rest.rest.now in
    let has : has_line c.args.last rest ≡ true = sym c.has_line.ensures ∙ c.loop-rest-test.true in
    let first : lines_of c.args.last rest ≡ c.cut_at.result.0.now ∷ lines_of c.args.last c.cut_at.result.1.now =
    rw (c.cut_at.ensures.before, c.cut_at.ensures.after) (first_line c.args.last rest has) in
    let less : length c.cut_at.result.1.now + 1 ≤ length rest = rw c.cut_at.ensures.after (shorter c.args.last rest has) in
    let line = c.in_ok-task_at.ensures.line in (
      subst (λ tasks. Taking c.args.limits.now (lines_of c.args.last c.args.text.now) tasks (c.loop-rest.number + 1) (lines_of c.args.last c.cut_at.result.1.now)) (sym c.in_ok-push.ensures.items)
          (taking_more c.args.limits.now (lines_of c.args.last c.args.text.now) c.loop-rest.list.items c.loop-rest.number (lines_of c.args.last rest) c.loop-rest.invariant.0
          c.cut_at.result.0.now (lines_of c.args.last c.cut_at.result.1.now) c.in_ok-task_at.field-0 first line.0 line.1),
      omega arith,
    )

pub returns-in_err-task_at-clause-lines : goal.returns-in_err-task_at-clause-lines
returns-in_err-task_at-clause-lines c =
    let rest = c.loop-rest.rest.now in
    let has : has_line c.args.last rest ≡ true = sym c.has_line.ensures ∙ c.loop-rest-test.true in
    let first : lines_of c.args.last rest ≡ c.cut_at.result.0.now ∷ lines_of c.args.last c.cut_at.result.1.now =
    rw (c.cut_at.ensures.before, c.cut_at.ensures.after) (first_line c.args.last rest has) in
    let p = err_from_is_err_and c.from_residual.result c.from_residual.ensures.1 in
    let fault = taking_refused c.args.limits.now (lines_of c.args.last c.args.text.now) c.loop-rest.list.items c.loop-rest.number (lines_of c.args.last rest) c.loop-rest.invariant.0
    c.cut_at.result.0.now (lines_of c.args.last c.cut_at.result.1.now) c.in_err-task_at.field-0.0 first c.in_err-task_at.ensures.line in
    rw (p.1, p.2) fault

pub returns-clause-lines : goal.returns-clause-lines
returns-clause-lines c =
    let rest = c.loop-rest.rest.now in
    taking_end c.args.limits.now (lines_of c.args.last c.args.text.now) c.loop-rest.list.items c.loop-rest.number (lines_of c.args.last rest) c.loop-rest.invariant.0
    (no_line c.args.last rest (sym c.has_line.ensures ∙ c.loop-rest-test.false))
