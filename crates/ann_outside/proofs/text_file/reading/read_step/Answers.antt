use Rattle.std.proofs.Common.{◌≡◌, length, arith}
use Rattle.std.proofs.lemmas.Result.{err_from_is_err_and}
use Rattle.ann_outside.proofs.TextFileLemmas.Logs.{if_told}
use Rattle.ann_outside.proofs.TextFileLemmas.ReadLaws.{end_met, piece_met, step_refused, step_unkept}
use Rattle.ann_outside.proofs.text_file.reading.read_step.Goals as goal

pub returns-then-n-eq0-clause-told : goal.returns-then-n-eq0-clause-told
returns-then-n-eq0-clause-told g c =
    let at : c.len.result ≡ length c.args.bytes.now.items = omega (arith, c.len.ensures, c.args.bytes.now.ok.0) in
    if_told (g.D.Desk.told c.args.desk.now).files (λ files h. end_met c.args.name.now c.args.bytes.now.items c.args.bytes.now.items c.read_at.new.buf _ _ files at c.if-n-eq0.true h) c.in_ok-n.ensures.told

pub returns-in-Ok-clause-told : goal.returns-in-Ok-clause-told
returns-in-Ok-clause-told g c =
    let at : c.len.result ≡ length c.args.bytes.now.items = omega (arith, c.len.ensures, c.args.bytes.now.ok.0) in
    if_told (g.D.Desk.told c.args.desk.now).files (λ files h. piece_met c.args.name.now c.args.bytes.now.items _ _ _ _ files at c.in_ok-n.ensures.bound.0 c.in-Ok.ensures.items h) c.in_ok-n.ensures.told

pub returns-in-Err-clause-step : goal.returns-in-Err-clause-step
returns-in-Err-clause-step g c =
    let at : c.len.result ≡ length c.args.bytes.now.items = omega (arith, c.len.ensures, c.args.bytes.now.ok.0) in
    step_unkept _ _ c.args.name.now c.args.bytes.now.items c.args.bytes.now.items _ _ at c.in_ok-n.ensures.log

pub returns-in_err-n-clause-step : goal.returns-in_err-n-clause-step
returns-in_err-n-clause-step g c =
    let at : c.len.result ≡ length c.args.bytes.now.items = omega (arith, c.len.ensures, c.args.bytes.now.ok.0) in
    let p = err_from_is_err_and c.from_residual.result c.from_residual.ensures.1 in
    rw (p.1, p.2) (step_refused _ _ c.args.name.now c.args.bytes.now.items c.args.bytes.now.items _ _ at c.in_err-n.ensures.log)
