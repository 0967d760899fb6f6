use Rattle.std.proofs.Common.{◌∙◌, [], ◌∷◌, ◌++◌, map, ap, inr}
use Rattle.ann_outside.proofs.TextFileLemmas.Naming.{names_all}
use Rattle.audit_command.proofs.recover.recovering.recover.Goals as goal

pub returns : goal.returns
returns g c =
    let keeper = c.from_text-done.new.keeper in
    let reader = c.from_text-done.new.reader in
    inr (inr record {
      d = record {
        read = (g.K.Desk.Desk.told c.in-Ok-desk-2.reader).files;
        reader = g.K.Desk.Desk.told reader;
        told = (g.K.Desk.Desk.told c.in-Ok-desk.keeper).files;
        keeper = g.K.Desk.Desk.told keeper;
      };
      tables =
          ap (map (g.K.Desk.Desk.told))
          (c.push_reserved-3.ensures.items ∙ ap (λ xs. xs ++ reader ∷ []) (c.push_reserved-2.ensures.items ∙ ap (λ xs. xs ++ keeper ∷ []) c.in-Ok.ensures.0));
      between = g.K.Desks.made c.desk.new.self;
      first = c.in-Ok-desk.ensures.made;
      second = c.in-Ok-desk-2.ensures.made;
      ends = c.from_text-done.ensures.ends;
      kept = names_all c.in-Ok-desk.ensures.fresh.1 c.from_text-done.ensures.kept;
      named = names_all c.in-Ok-desk-2.ensures.fresh.1 c.from_text-done.ensures.named;
      same = c.from_text-done.ensures.same;
    })
