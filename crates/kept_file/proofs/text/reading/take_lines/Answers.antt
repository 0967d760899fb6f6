use Rattle.std.proofs.Common.{◌≡◌, ◌==◌, ◌+◌, ◌≤◌, ◌∷◌, false, length, arith, not, refl, ap, ◌∙◌}
use Rattle.std.proofs.lemmas.Bool.Decides.{nat_tests}
use Rattle.std.proofs.lemmas.Result.{err_from_is_err_and}
use Rattle.annex_model.specs.Lines.{has_newline}
use Rattle.kept_file.specs.Text.KeptFiles.{lines_in, IsFirstFault}
use Rattle.kept_file.proofs.TextLemmas.Cutting.{first_line, no_end, shorter}
use Rattle.kept_file.proofs.TextLemmas.Taking.{taking_more, taking_fault}
use Rattle.kept_file.proofs.text.reading.take_lines.Goals as goal

pub take_line-requires : goal.take_line-requires
take_line-requires c = ap (λ l. not (has_newline l)) c.cut_at.ensures.before ∙ no_end c.loop-rest.rest.now

pub returns-in_err-take_line-clause-fault : goal.returns-in_err-take_line-clause-fault
returns-in_err-take_line-clause-fault c =
    let some : (length c.loop-rest.rest.now == 0) ≡ false = grind (arith, nat_tests) in
    let first : lines_in c.loop-rest.rest.now ≡ c.cut_at.result.0.now ∷ lines_in c.cut_at.result.1.now = rw (c.cut_at.ensures.before, c.cut_at.ensures.after) (first_line c.loop-rest.rest.now some) in
    let fault : IsFirstFault (lines_in c.args.text.now) c.in_err-take_line.field-0.0 =
    taking_fault c.args.registers.now c.args.notes.now (lines_in c.args.text.now) c.loop-rest.registers c.loop-rest.notes c.loop-rest.number (lines_in c.loop-rest.rest.now) c.loop-rest.invariant.0
    c.cut_at.result.0.now (lines_in c.cut_at.result.1.now) first c.in_err-take_line.field-0.0 (c.loop-rest.number + 1) refl c.in_err-take_line.ensures.fault in
    let p = err_from_is_err_and c.from_residual.result c.from_residual.ensures.1 in
    rw (p.1, p.2) fault

pub loop-rest-preserved : goal.loop-rest-preserved
loop-rest-preserved c =
    let some : (length c.loop-rest.rest.now == 0) ≡ false = grind (arith, nat_tests) in
    let first : lines_in c.loop-rest.rest.now ≡ c.cut_at.result.0.now ∷ lines_in c.cut_at.result.1.now = rw (c.cut_at.ensures.before, c.cut_at.ensures.after) (first_line c.loop-rest.rest.now some) in
    let less : length c.cut_at.result.1.now + 1 ≤ length c.loop-rest.rest.now = rw c.cut_at.ensures.after (shorter c.loop-rest.rest.now some) in (
      taking_more _ _ _ c.loop-rest.registers c.loop-rest.notes c.loop-rest.number (lines_in c.loop-rest.rest.now) c.loop-rest.invariant.0 c.cut_at.result.0.now (lines_in c.cut_at.result.1.now) first
          c.take_line.new.registers c.take_line.new.notes (c.loop-rest.number + 1) refl c.in_ok-take_line.ensures.right c.in_ok-take_line.ensures.registers c.in_ok-take_line.ensures.notes,
      omega arith,
    )
