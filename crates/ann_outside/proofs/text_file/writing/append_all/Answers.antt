use Rattle.std.proofs.Common.{◌≡◌, ◌∙◌, ◌≤◌, ◌+◌, ◌-◌, Ok, [], take, drop, refl, arith}
use Rattle.std.proofs.lemmas.Result.{err_from_is_err_and}
use Rattle.ann_outside.specs.Files.{AppendDoes}
use Rattle.ann_outside.specs.TextFile.Writes.{HasGrown}
use Rattle.ann_outside.proofs.TextFileLemmas.WriteLaws.{appending_nothing, appending_more, appends_refused, grows_nothing, grows_more}
use Rattle.ann_outside.proofs.text_file.writing.append_all.Goals as goal
use Rattle.ann_outside.proofs.Across.{told_refl as where_same, where_then}

pub loop-at-init : goal.loop-at-init
loop-at-init g c = record {
  appending = appending_nothing _ _ _ refl;
  files = where_same (HasGrown c.args.name.now []) (g.D.Desk.told c.args.desk.now).files (λ files. grows_nothing c.args.name.now [] files refl);
  quiet = refl;
  most = omega arith;
}

pub loop-at-preserved : goal.loop-at-preserved
loop-at-preserved g c =
    let i = c.loop-at.invariant in
    let name = c.args.name.now in
    let text = c.args.text.now in
    let at = c.loop-at.at in
    let end = c.loop-at.at + c.min.result in
    let low : c.loop-at.at ≤ c.loop-at.at + c.min.result = omega arith in
    record {
      appending = appending_more _ _ _ c.args.name.now c.args.text.now c.loop-at.at (c.loop-at.at + c.min.result) low i.appending c.in_ok-append.ensures.log;
      files = where_then (HasGrown name (take at text)) (AppendDoes name (take (end - at) (drop at text)) (Ok tt)) (HasGrown name (take end text)) _ _ _
          (λ x y z p q. grows_more name text at end low x y z p q) i.files c.in_ok-append.ensures.files;
      quiet = c.in_ok-append.ensures.causes.done ∙ i.quiet;
      most = omega (arith, c.min.ensures, i.most);
    }

pub returns-in_err-append-clause-calls : goal.returns-in_err-append-clause-calls
returns-in_err-append-clause-calls g c =
    let p = err_from_is_err_and c.from_residual.result c.from_residual.ensures.1 in
    rw (p.1, p.2) (appends_refused _ _ _ c.args.name.now c.args.text.now c.loop-at.at (c.loop-at.at + c.min.result - c.loop-at.at) _ c.loop-at.invariant.appending c.in_err-append.ensures.log)
