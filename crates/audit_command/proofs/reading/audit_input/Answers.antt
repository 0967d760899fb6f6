use Rattle.std.proofs.Common.{[], ◌++◌, refl}
use Rattle.std.proofs.lemmas.Result.{err_from_is_err_and}
use Rattle.journal_audit.specs.declared.found.Audit.{Audit}
use Rattle.audit_command.proofs.Fitting.{may_begin}
use Rattle.audit_command.proofs.Pieces.{fault_read, fault_told, counted_end, found_read, found_told}
use Rattle.audit_command.proofs.reading.audit_input.Goals as goal

pub returns-in_err-opening-clause-input : goal.returns-in_err-opening-clause-input
returns-in_err-opening-clause-input g c =
    let taken = c.in_ok-intake.ensures.given in
    let limits = c.args.limits.now in
    let p = err_from_is_err_and c.from_residual-in_err-opening.result c.from_residual-in_err-opening.ensures.1 in (
      taken.0,
      taken.1,
      rw (p.1, p.2)
          (fault_read limits taken.0 (g.S.Source.told c.args.source.now).left (g.S.Source.told c.take_all.new.source).left c.in_ok-intake.intake taken.2.0 taken.2.1 c.in_err-opening.field-0.0 (λ more m. c.in_err-opening.ensures limits taken.0 more taken.2.0 m)),
    )

pub returns-in_err-opening-clause-told : goal.returns-in_err-opening-clause-told
returns-in_err-opening-clause-told g c =
    let taken = c.in_ok-intake.ensures.given in
    let limits = c.args.limits.now in
    let p = err_from_is_err_and c.from_residual-in_err-opening.result c.from_residual-in_err-opening.ensures.1 in
    rw (p.1, p.2)
    (fault_told limits taken.0 (g.S.Source.told c.args.source.now).left (g.S.Source.told c.take_all.new.source).left c.in_ok-intake.intake taken.2.0 taken.2.1 c.in_err-opening.field-0.0 taken.1.left_on
    (λ more m. c.in_err-opening.ensures limits taken.0 more taken.2.0 m))

pub returns-in_err-opening-clause-faults : goal.returns-in_err-opening-clause-faults
returns-in_err-opening-clause-faults g c =
    let taken = c.in_ok-intake.ensures.given in
    let limits = c.args.limits.now in
    let p = err_from_is_err_and c.from_residual-in_err-opening.result c.from_residual-in_err-opening.ensures.1 in
    rw (p.1, p.2) (counted_end Audit (g.S.Source.told c.args.source.now).faults (g.S.Source.told c.take_all.new.source).faults limits (taken.0 ++ []) c.in_err-opening.field-0.0 (c.in_err-opening.ensures limits taken.0 [] taken.2.0 (λ _. refl)) c.in_ok-intake.ensures.faults)

pub audit_all-requires : goal.audit_all-requires
audit_all-requires g c =
    let taken = c.in_ok-intake.ensures.given in
    let text = c.in_ok-opening.ensures c.args.limits.now taken.0 [] taken.2.0 (λ _. refl) in
    record { begins = may_begin c.in_ok-opening.opening c.in_ok-opening.journal.entries _ text.1 }

pub returns-clause-input : goal.returns-clause-input
returns-clause-input g c =
    let taken = c.in_ok-intake.ensures.given in
    let limits = c.args.limits.now in
    let comes = c.in_ok-opening.ensures in (
      taken.0,
      taken.1,
      found_read limits taken.0 (g.S.Source.told c.args.source.now).left (g.S.Source.told c.take_all.new.source).left c.in_ok-intake.intake taken.2.0 taken.2.1 c.in_ok-opening.opening c.in_ok-opening.journal c.in_ok-found.found (λ more m. comes limits taken.0 more taken.2.0 m)
          c.in_ok-found.ensures.audit,
    )

pub returns-clause-told : goal.returns-clause-told
returns-clause-told g c =
    let taken = c.in_ok-intake.ensures.given in
    let limits = c.args.limits.now in
    let comes = c.in_ok-opening.ensures in
    found_told limits taken.0 (g.S.Source.told c.args.source.now).left (g.S.Source.told c.take_all.new.source).left c.in_ok-intake.intake taken.2.0 taken.2.1 c.in_ok-opening.opening c.in_ok-opening.journal c.in_ok-found.found
    (λ more m. comes limits taken.0 more taken.2.0 m) c.in_ok-found.ensures.audit taken.1.left_on
