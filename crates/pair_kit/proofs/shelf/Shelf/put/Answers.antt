use Rattle.std.proofs.Common.{ap, ◌∙◌}
use Rattle.registers.specs.Tables.{put, texts_of}
use Rattle.registers.proofs.Tables.{put-texts_of, Rises-texts_of}
use Rattle.pair_kit.proofs.shelf.Shelf.put.Goals as goal

pub returns : goal.returns
returns c =
    ap texts_of c.in_ok-insert.ensures.entries
    ∙ put-texts_of c.self.inside.entries.entries c.into_vec-name.result c.into_vec-bytes.result
    ∙ (λ i. put (c.self.view_is i) (c.into_vec-name.ensures i) (c.into_vec-bytes.ensures i))

pub invariant_of-self-2 : goal.invariant_of-self-2
invariant_of-self-2 c = Rises-texts_of _ c.in_ok-insert.ensures.ordered
