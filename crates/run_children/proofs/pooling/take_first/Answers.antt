use Rattle.std.proofs.Common.{arith}
use Rattle.run_children.proofs.PoolLinks.{taken_all}
use Rattle.run_children.proofs.pooling.take_first.Goals as goal

pub returns-clause-taken : goal.returns-clause-taken
returns-clause-taken g c = (
  taken_all c.args.desks.now.items c.reverse.new.self.items c.desks.desks.items c.desks.used.items c.reverse.ensures.items c.desks.invariant.items,
  (let many = c.desks.invariant.many.0 in let over = c.desks-test.false in let end = c.desks.auto.taken-end in omega (arith, many, over, end)),
)
