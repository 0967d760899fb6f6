use Rattle.std.proofs.Common.{◌∙◌, arith}
use Rattle.threads.proofs.RolesLemmas.Dealing.{all_pushed, dealt}
use Rattle.crew_rounds.specs.Tagged.Sites.{IsAt}
use Rattle.crew_rounds.proofs.tagged.dealt.deal.Goals as goal

pub deals-preserved : goal.deals-preserved
deals-preserved g c =
    let i = c.deals.invariant in
    let p = c.push_reserved.ensures in
    record {
      passes = dealt _ _ c.deals.passes.items c.pop-in-Some.new.self.items c.in-Some-pop.pass c.deals.workers.items c.push_reserved.new.self.items c.worker_at.result c.worker_at.ensures.dealt.0 c.in-Some-pop.ensures.items i.passes p.items;
      desks = dealt _ _ c.deals.desks.items c.pop.new.self.items c.in-Some.desk c.deals.workers.items c.push_reserved.new.self.items c.worker_at.result c.worker_at.ensures.dealt.1 c.in-Some.ensures.items i.desks p.items;
      count = omega (arith, c.in-Some.ensures.len, p.len, i.count);
      many = omega (arith, c.in-Some.ensures.len, c.in-Some-pop.ensures.len, i.many);
      room = omega (arith, c.in-Some.ensures.len, p.len, p.capacity, i.room);
      rooms = (c.in-Some.ensures.capacity ∙ i.rooms.0, c.in-Some-pop.ensures.capacity ∙ i.rooms.1);
      placed = all_pushed c.deals.workers.items c.push_reserved.new.self.items c.worker_at.result p.items (IsAt c.args.site.now) i.placed c.worker_at.ensures.placed;
    }
