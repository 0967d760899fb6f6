use Rattle.std.proofs.Common.{◌∙◌, sym}
use Rattle.std.proofs.lemmas.Option.{slice_get_read}
use Rattle.std.proofs.lemmas.Slice.Eq.{bytes_eq-Decides}
use Rattle.ann_outside.proofs.mem.files.position.Goals as goal

pub returns-then-eq : goal.returns-then-eq
returns-then-eq c = record {
  file = c.file-item.result;
  at_place = rw c.loop-file.invariant.place (search (slice_get_read, c.file-item.is));
  name_is = sym c.view.ensures ∙ (bytes_eq-Decides c.view.result.now c.args.name.now).0 (sym c.eq.ensures ∙ c.if-eq.true);
}
