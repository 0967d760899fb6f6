use Rattle.std.proofs.Common.{sym, subst}
use Rattle.registers.specs.Registers.{IsKept}
use Rattle.journal_model.specs.declared.opening.Opening.{Opening}
use Rattle.journal_model.specs.Beginnings.{MayBegin}
use Rattle.pair_world.proofs.Standing.{stands_empty}
use Rattle.pair_world.proofs.world.World.new.Goals as goal

pub returns-clause-stands : goal.returns-clause-stands
returns-clause-stands c =
    let same = sym c.in_ok-core.ensures.opening in
    stands_empty _ (subst MayBegin same c.requires) (subst (λ (o : Opening). IsKept o.registers) same c.wanted-kept.ensures.kept) c.in_ok-core.ensures.empty
    c.new-3.ensures.items c.new-2.ensures c.new-4.ensures.items
