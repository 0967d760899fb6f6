use Rattle.std.proofs.Common.{◌∙◌, arith}
use Rattle.threads.proofs.RolesLemmas.Dealing.{all_pushed, dealt}
use Rattle.crew_rounds.specs.Pool.Sites.{IsAt}
use Rattle.crew_rounds.proofs.pool.dealt.deal.Goals as goal

pub deals-preserved : goal.deals-preserved
deals-preserved g c =
    let i = c.deals.invariant in
    let p = c.push_reserved.ensures in
    record {
      passes = dealt _ _ c.deals.passes.items c.pop-in-Some.new.self.items c.in-Some-pop.pass c.deals.workers.items c.push_reserved.new.self.items c.worker_at.result c.worker_at.ensures.dealt.0 c.in-Some-pop.ensures.items i.passes p.items;
      links = dealt _ _ c.deals.links.items c.pop-in-Some-2.new.self.items c.in-Some-pop-2.link c.deals.workers.items c.push_reserved.new.self.items c.worker_at.result c.worker_at.ensures.dealt.1 c.in-Some-pop-2.ensures.items i.links p.items;
      desks = dealt _ _ c.deals.desks.items c.pop.new.self.items c.in-Some.desk c.deals.workers.items c.push_reserved.new.self.items c.worker_at.result c.worker_at.ensures.dealt.2 c.in-Some.ensures.items i.desks p.items;
      count = omega (arith, c.in-Some.ensures.len, p.len, i.count);
      many = (omega (arith, c.in-Some.ensures.len, c.in-Some-pop-2.ensures.len, i.many.0), omega (arith, c.in-Some.ensures.len, c.in-Some-pop.ensures.len, i.many.1));
      room = omega (arith, c.in-Some.ensures.len, p.len, p.capacity, i.room);
      rooms = (c.in-Some-pop.ensures.capacity ∙ i.rooms.0, c.in-Some-pop-2.ensures.capacity ∙ i.rooms.1, c.in-Some.ensures.capacity ∙ i.rooms.2);
      placed = all_pushed c.deals.workers.items c.push_reserved.new.self.items c.worker_at.result p.items (IsAt c.args.site.now) i.placed c.worker_at.ensures.placed;
    }
