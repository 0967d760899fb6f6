use Rattle.std.proofs.Common.{◌∙◌, [], ◌∷◌, ◌++◌, map, ap, inr}
use Rattle.ann_outside.proofs.TextFileLemmas.Naming.{names_all}
use Rattle.info_and_init.proofs.init.doing.at_desk.Goals as goal

pub returns : goal.returns
returns g c = inr record {
  told = (g.K.Desk.Desk.told c.in-Ok.desk).files;
  table = g.K.Desk.Desk.told c.from_kept-done.new.desk;
  tables = ap (map (g.K.Desk.Desk.told)) (c.push_reserved.ensures.items ∙ ap (λ xs. xs ++ c.from_kept-done.new.desk ∷ []) c.requires.room.2);
  made = c.in-Ok.ensures.made;
  ends = c.from_kept-done.ensures.ends;
  named = names_all c.in-Ok.ensures.fresh.1 c.from_kept-done.ensures.calls;
  objects = c.from_kept-done.ensures.leaves;
}
