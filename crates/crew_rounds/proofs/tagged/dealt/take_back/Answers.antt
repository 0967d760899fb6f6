use Rattle.std.proofs.Common.{arith}
use Rattle.crew_rounds.proofs.TaggedLemmas.Dealing.{taken_back}
use Rattle.crew_rounds.proofs.tagged.dealt.take_back.Goals as goal

pub backs-preserved : goal.backs-preserved
backs-preserved g c =
    let i = c.backs.invariant in
    let p = c.push_reserved.ensures in
    let d = c.push_reserved-in-Some.ensures in
    record {
      passes = taken_back (λ w. w.pass) c.backs.workers.items c.pop.new.self.items c.in-Some.back c.role-pass.result c.backs.passes.items c.push_reserved.new.self.items _ c.in-Some.ensures.items c.role-pass.ensures p.items i.passes;
      desks = taken_back (λ w. w.desk) c.backs.workers.items c.pop.new.self.items c.in-Some.back c.role-pass.result c.backs.desks.items c.push_reserved-in-Some.new.self.items _ c.in-Some.ensures.items c.role-pass.ensures d.items i.desks;
      rooms = (omega (arith, c.in-Some.ensures.len, p.len, p.capacity, i.rooms.0), omega (arith, c.in-Some.ensures.len, d.len, d.capacity, i.rooms.1));
    }
