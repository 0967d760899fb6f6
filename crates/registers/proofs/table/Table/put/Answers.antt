use Rattle.std.proofs.Common.{ap, ◌∙◌}
use Rattle.registers.specs.Tables.{put, texts_of}
use Rattle.registers.proofs.Tables.{put-texts_of, Rises-texts_of}
use Rattle.registers.proofs.table.Table.put.Goals as goal

pub returns-clause-ok : goal.returns-clause-ok
returns-clause-ok c =
    ap texts_of c.in_ok-insert.ensures.entries
    ∙ put-texts_of c.self.inside.entries.entries c.in_ok-name.name c.in_ok-value.value
    ∙ (λ i. put (c.self.view_is i) (c.in_ok-name.ensures.items i) (c.in_ok-value.ensures.items i))

pub invariant_of-self-2 : goal.invariant_of-self-2
invariant_of-self-2 c = Rises-texts_of _ c.in_ok-insert.ensures.ordered
