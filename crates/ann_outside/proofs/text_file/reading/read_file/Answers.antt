use Rattle.std.proofs.Common.{◌∙◌, ◌<◌, ◌≤◌, Ok, Err, length, refl, arith}
use Rattle.ann_outside.specs.TextFile.Reads.{IsStepOf}
use Rattle.ann_outside.proofs.TextFileLemmas.Logs.{all_told, both_told, told_as, if_told}
use Rattle.ann_outside.proofs.TextFileLemmas.ReadLaws.{reading_nothing, reading_nothing_of, reading_more, reading_more_of, read_whole, read_whole_of, step_same, read_past, read_past_of, read_refused, read_refused_of, read_nothing, causes_quiet, causes_refused}
use Rattle.ann_outside.proofs.text_file.reading.read_file.Goals as goal

pub loop-desk-init : goal.loop-desk-init
loop-desk-init g c = record {
  reading = reading_nothing _ _ _ c.new-bytes.ensures.items;
  told = all_told (g.D.Desk.told c.args.desk.now).files (λ files. reading_nothing_of _ _ files c.new-bytes.ensures.items);
  files = refl;
  quiet = refl;
  buffer = c.in-Ok.ensures;
}

pub loop-desk-preserved : goal.loop-desk-preserved
loop-desk-preserved g c =
    let i = c.loop-desk.invariant in
    let h = c.in-Ok-true.ensures in
    record {
      reading = reading_more _ _ _ _ _ _ _ c.in-Ok-true.field-0-test i.reading h.step;
      told = both_told (g.D.Desk.told c.args.desk.now).files
          (λ files r s. reading_more_of c.args.name.now c.loop-desk.bytes.items c.read_step.new.bytes.items files c.in-Ok-true.field-0 c.in-Ok-true.field-0-test r s)
          i.told
          (told_as (λ files. IsStepOf c.args.name.now c.loop-desk.bytes.items c.read_step.new.bytes.items files (Ok c.in-Ok-true.field-0)) _ _ i.files h.told);
      files = h.files ∙ i.files;
      quiet = h.causes.done ∙ i.quiet;
      buffer = i.buffer;
    }

pub returns-in-Ok-false-clause-read : goal.returns-in-Ok-false-clause-read
returns-in-Ok-false-clause-read g c =
    let low : length c.loop-desk.bytes.items ≤ c.args.limit = omega (arith, c.len.ensures, c.loop-desk.bytes.ok.0) in
    read_whole _ _ _ _ _ c.read_step.new.bytes.items _ _ c.in-Ok-false.field-0 c.in-Ok-false.field-0-test c.loop-desk.invariant.reading c.in-Ok-false.ensures.step c.from_vec.ensures low

pub returns-in-Ok-false-clause-told : goal.returns-in-Ok-false-clause-told
returns-in-Ok-false-clause-told g c =
    let same = step_same _ _ c.args.name.now c.loop-desk.bytes.items c.read_step.new.bytes.items c.in-Ok-false.field-0 c.in-Ok-false.field-0-test c.in-Ok-false.ensures.step in
    both_told (g.D.Desk.told c.args.desk.now).files
    (λ files r s. read_whole_of c.args.name.now c.loop-desk.bytes.items c.read_step.new.bytes.items c.from_vec.result c.args.limit files c.in-Ok-false.field-0 c.in-Ok-false.field-0-test same c.from_vec.ensures r s)
    c.loop-desk.invariant.told
    (told_as (λ files. IsStepOf c.args.name.now c.loop-desk.bytes.items c.read_step.new.bytes.items files (Ok c.in-Ok-false.field-0)) _ _ c.loop-desk.invariant.files c.in-Ok-false.ensures.told)

pub returns-in-Ok-false-clause-causes : goal.returns-in-Ok-false-clause-causes
returns-in-Ok-false-clause-causes g c = causes_quiet _ _ _ refl (c.in-Ok-false.ensures.causes.done ∙ c.loop-desk.invariant.quiet)

pub returns-in-Err-clause-read : goal.returns-in-Err-clause-read
returns-in-Err-clause-read g c =
    rw c.refused.ensures (read_refused _ _ _ c.args.name.now c.loop-desk.bytes.items c.read_step.new.bytes.items c.args.limit c.in-Err.error c.loop-desk.invariant.reading c.in-Err.ensures.step)

pub returns-in-Err-clause-told : goal.returns-in-Err-clause-told
returns-in-Err-clause-told g c =
    rw c.refused.ensures (if_told (g.D.Desk.told c.args.desk.now).files
    (λ files s. read_refused_of c.args.name.now c.loop-desk.bytes.items c.read_step.new.bytes.items c.args.limit files c.in-Err.error s)
    (told_as (λ files. IsStepOf c.args.name.now c.loop-desk.bytes.items c.read_step.new.bytes.items files (Err c.in-Err.error)) _ _ c.loop-desk.invariant.files c.in-Err.ensures.told))

pub returns-in-Err-clause-causes : goal.returns-in-Err-clause-causes
returns-in-Err-clause-causes g c = rw c.refused.ensures (causes_refused _ _ _ _ c.in-Err.error refl c.loop-desk.invariant.quiet c.in-Err.ensures.causes)

pub returns-clause-read : goal.returns-clause-read
returns-clause-read g c =
    let high : c.args.limit < length c.loop-desk.bytes.items = omega (arith, c.len.ensures, c.loop-desk.bytes.ok.0) in
    read_past _ _ _ _ _ c.loop-desk.invariant.reading high

pub returns-clause-told : goal.returns-clause-told
returns-clause-told g c =
    let high : c.args.limit < length c.loop-desk.bytes.items = omega (arith, c.len.ensures, c.loop-desk.bytes.ok.0) in
    if_told (g.D.Desk.told c.args.desk.now).files (λ files r. read_past_of c.args.name.now c.loop-desk.bytes.items c.args.limit files r high) c.loop-desk.invariant.told

pub returns-clause-causes : goal.returns-clause-causes
returns-clause-causes g c = causes_quiet _ _ _ refl c.loop-desk.invariant.quiet

pub returns-in_default-clause-read : goal.returns-in_default-clause-read
returns-in_default-clause-read g c = read_nothing _ _ _ _

pub returns-in_default-clause-told : goal.returns-in_default-clause-told
returns-in_default-clause-told g c = all_told (g.D.Desk.told c.args.desk.now).files (λ files. tt)

pub returns-in_default-clause-causes : goal.returns-in_default-clause-causes
returns-in_default-clause-causes g c = causes_quiet _ _ _ refl refl
