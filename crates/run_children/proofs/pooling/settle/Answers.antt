use Rattle.std.proofs.Common.{◌∙◌, sym, ap, arith, refl}
use Rattle.crew_rounds.specs.Tagged.Tagged.{link_of}
use Rattle.run_children.specs.PoolChildren.Pools.{seat_value}
use Rattle.run_children.proofs.PoolLinks.{laying_begins, laying_ends, laying_over, laying_served, stays_same}
use Rattle.run_children.proofs.pooling.settle.Goals as goal
use Rattle.ann_outside.proofs.Across.{stays_both}

pub seats-init : goal.seats-init
seats-init g c = record {
  laying = laying_begins seat_value (λ x. link_of x.ear x.mouth) c.args.seats.items c.reverse-2.new.self.items c.args.links.items c.reverse.new.self.items c.args.wires.now.items c.reverse-2.ensures.items c.reverse.ensures.items
      (c.requires.fits ∙ c.args.links.ok.0);
  room = (refl, refl);
  starts = stays_same (g.P.Programs.told c.args.programs.now).starts;
  later = omega arith;
}

pub seats-preserved-in-Over : goal.seats-preserved-in-Over
seats-preserved-in-Over g c = record {
  laying = laying_over seat_value (λ x. link_of x.ear x.mouth) c.reverse-2.new.self.items c.seats.seats.items c.pop.new.self.items c.reverse.new.self.items c.seats.links.items c.args.wires.now.items c.seats.wires.items c.push_reserved.new.self.items c.in-Some.seat
      c.in-Some.ensures.items c.seats.invariant.laying c.in-Over.wire (ap seat_value c.in-Over.is) c.push_reserved.ensures.items;
  room = (
    (let was = c.seats.invariant.room.0 in let popped = c.in-Some.ensures.len in let pushed = c.push_reserved.ensures.len in omega (arith, was, popped, pushed)),
    c.push_reserved.ensures.capacity ∙ c.seats.invariant.room.1,
  );
  starts = c.seats.invariant.starts;
  later = c.seats.invariant.later;
}

pub seats-preserved : goal.seats-preserved
seats-preserved g c = record {
  laying = laying_served seat_value (λ x. link_of x.ear x.mouth) c.reverse-2.new.self.items c.seats.seats.items c.pop.new.self.items c.reverse.new.self.items c.seats.links.items c.args.wires.now.items c.seats.wires.items c.finish.new.wires.items c.in-Some.seat
      c.in-Some.ensures.items c.seats.invariant.laying c.pop-in-Serving.new.self.items c.in-Some-pop.link (ap seat_value c.in-Serving.is) c.in-Some-pop.ensures.items c.finish.ensures.laid;
  room = (
    (let was = c.seats.invariant.room.0 in let popped = c.in-Some.ensures.len in let pushed = c.finish.ensures.room.0 in omega (arith, was, popped, pushed)),
    c.finish.ensures.room.1 ∙ c.seats.invariant.room.1,
  );
  starts = stays_both (g.P.Programs.told c.args.programs.now).starts (g.P.Programs.told c.seats.programs).starts (g.P.Programs.told c.finish.new.programs).starts c.seats.invariant.starts c.finish.ensures.starts;
  later = (let was = c.seats.invariant.later in let now = c.finish.ensures.later in omega (arith, was, now));
}

pub returns-clause-laid : goal.returns-clause-laid
returns-clause-laid g c =
    laying_ends seat_value (λ x. link_of x.ear x.mouth) c.args.seats.items c.reverse-2.new.self.items c.seats.seats.items c.args.links.items c.reverse.new.self.items c.seats.links.items c.args.wires.now.items c.seats.wires.items c.reverse-2.ensures.items c.reverse.ensures.items
    (sym c.seats.seats.ok.0 ∙ c.in_default.ensures.cases.0) c.seats.invariant.laying
