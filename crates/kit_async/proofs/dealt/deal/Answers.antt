use Rattle.std.proofs.Common.{◌≡◌, ◌∙◌, arith}
use Rattle.threads.proofs.RolesLemmas.Dealing.{all_pushed, dealt}
use Rattle.kit_async.proofs.Playing.{numbered_more}
use Rattle.kit_async.proofs.dealt.deal.Goals as goal

pub deals-preserved : goal.deals-preserved
deals-preserved g c =
    let i = c.deals.invariant in
    let p = c.push_reserved.ensures in
    record {
      passes = dealt _ _ c.deals.passes.items c.pop-in-Some.new.self.items c.in-Some-pop.pass c.deals.workers.items c.push_reserved.new.self.items c.worker_at.result c.worker_at.ensures.dealt.0 c.in-Some-pop.ensures.items i.passes p.items;
      remotes = dealt _ _ c.deals.remotes.items c.pop.new.self.items c.in-Some.remote c.deals.workers.items c.push_reserved.new.self.items c.worker_at.result c.worker_at.ensures.dealt.1 c.in-Some.ensures.items i.remotes p.items;
      count = omega (arith, c.in-Some.ensures.len, p.len, i.count);
      many = omega (arith, c.in-Some.ensures.len, c.in-Some-pop.ensures.len, i.many);
      few = omega (arith, c.in-Some.ensures.len, i.few);
      room = omega (arith, c.in-Some.ensures.len, p.len, p.capacity, i.room);
      rooms = (c.in-Some.ensures.capacity ∙ i.rooms.0, c.in-Some-pop.ensures.capacity ∙ i.rooms.1);
      numbers = numbered_more (λ w. w.number) c.deals.workers.items c.push_reserved.new.self.items c.worker_at.result _ _ p.items (omega (arith, c.worker_at.ensures.placed.1)) (omega (arith, c.in-Some.ensures.len)) i.numbers;
      placed = all_pushed c.deals.workers.items c.push_reserved.new.self.items c.worker_at.result p.items (λ w. w.hall.now ≡ c.args.site.now.hall.now) i.placed c.worker_at.ensures.placed.0;
    }
