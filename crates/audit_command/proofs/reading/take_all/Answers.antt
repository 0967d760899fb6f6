use Rattle.std.proofs.Common.{Bool, true, false, [], ◌++◌, Ok, refl, subst, ◌∙◌}
use Rattle.std.proofs.lemmas.Result.{err_from_is_err_and}
use Rattle.cli_words.proofs.TaskInputLemmas.Given.{given_both, given_none}
use Rattle.audit_command.specs.Steps.{IsStep}
use Rattle.audit_command.proofs.Pieces.{step_fails, took_end_of, less_still}
use Rattle.audit_command.proofs.reading.take_all.Goals as goal

pub returns-in_err-read_step-clause-given : goal.returns-in_err-read_step-clause-given
returns-in_err-read_step-clause-given g c =
    let was = c.loop-intake.invariant.bytes in
    let step = c.in_err-read_step.ensures.given in
    let p = err_from_is_err_and c.from_residual.result c.from_residual.ensures.1 in (
      was.0 ++ step.0,
      given_both _ _ _ _ _ _ was.0 step.0 was.1 step.1,
      rw (p.1, p.2) (step_fails c.args.limits.now c.loop-intake.intake c.read_step.new.intake step.0 (was.0 ++ step.0) (g.S.Source.told c.read_step.new.source).left c.in_err-read_step.field-0.0 step.2),
    )

pub returns-then-not-branch-clause-given : goal.returns-then-not-branch-clause-given
returns-then-not-branch-clause-given g c =
    let was = c.loop-intake.invariant.bytes in
    let step = c.in_ok-read_step.ensures.given in
    let P : Bool → Type 0 = λ b. IsStep c.args.limits.now c.loop-intake.intake c.read_step.new.intake step.0 (g.S.Source.told c.read_step.new.source).left (Ok b) in
    let s : P false = subst P c.if-not-branch.true step.2 in (
      was.0 ++ step.0,
      given_both _ _ _ _ _ _ was.0 step.0 was.1 step.1,
      (took_end_of c.args.limits.now was.0 step.0 c.loop-intake.intake c.read_step.new.intake was.2 s.0 s.1, λ _. s.2),
    )

pub loop-intake-smaller : goal.loop-intake-smaller
loop-intake-smaller g c =
    let was = c.loop-intake.invariant.bytes in
    let step = c.in_ok-read_step.ensures.given in
    let P : Bool → Type 0 = λ b. IsStep c.args.limits.now c.loop-intake.intake c.read_step.new.intake step.0 (g.S.Source.told c.read_step.new.source).left (Ok b) in
    let s : P true = subst P c.if-not-branch.false step.2 in
    less_still c.args.limits.now was.0 step.0 c.loop-intake.intake c.read_step.new.intake was.2 c.loop-intake-test.true (s.1 was.0 was.2) s.0

pub loop-intake-preserved : goal.loop-intake-preserved
loop-intake-preserved g c =
    let was = c.loop-intake.invariant in
    let now = c.in_ok-read_step.ensures in
    let step = now.given in
    let P : Bool → Type 0 = λ b. IsStep c.args.limits.now c.loop-intake.intake c.read_step.new.intake step.0 (g.S.Source.told c.read_step.new.source).left (Ok b) in
    let s : P true = subst P c.if-not-branch.false step.2 in record {
      bytes = (was.bytes.0 ++ step.0, given_both _ _ _ _ _ _ was.bytes.0 step.0 was.bytes.1 step.1, s.1 was.bytes.0 was.bytes.2);
      silent = (λ e. now.silent.0 (was.silent.0 e), λ e. now.silent.1 (was.silent.1 e));
      faults = now.faults ∙ was.faults;
      opened = now.open;
      number = now.number ∙ was.number;
    }

pub loop-intake-init : goal.loop-intake-init
loop-intake-init g c = record {
  bytes = ([], given_none (g.S.Source.told c.args.source.now).given (g.S.Source.told c.args.source.now).left, c.new-intake.ensures c.args.limits.now);
  silent = (λ e. e, λ e. e);
  faults = refl;
  opened = c.requires;
  number = refl;
}
