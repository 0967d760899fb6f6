use Rattle.std.proofs.Common.{ap, ◌∙◌}
use Rattle.registers.specs.Tables.{without, texts_of}
use Rattle.registers.proofs.Tables.{without-texts_of, Rises-texts_of}
use Rattle.registers.proofs.table.Table.remove.Goals as goal

pub invariant_of-self : goal.invariant_of-self
invariant_of-self c = Rises-texts_of _ c.remove.ensures.ordered

pub returns : goal.returns
returns c =
    ap texts_of c.remove.ensures.entries
    ∙ without-texts_of c.self.inside.entries.entries c.args.name.now c.self.invariant
    ∙ ap (λ t. without t c.args.name.now) c.self.view_is
