use Rattle.std.proofs.Common.{sym, ap, ◌∙◌, ℕ}
use Rattle.child_link.proofs.Roles.{moved_then, same_both, started_on}
use Rattle.journal_model.specs.Shares.{is_of_child, by_link}
use Rattle.journal_model.specs.Journal.{is_started, verdict_of}
use Rattle.child_link.proofs.Asking.{asked_moved}
use Rattle.child_link.proofs.Settling.{heard_then}
use Rattle.child_link.proofs.lone.Lone.settle.Goals as goal

pub returns-in-Settled-clause-moved : goal.returns-in-Settled-clause-moved
returns-in-Settled-clause-moved g c = moved_then by_link is_of_child c.loop.invariant.door.number c.loop.invariant.door.alone c.loop.invariant.same.0.0 c.loop.invariant.moved c.settle_next.ensures.moved

pub returns-in-Settled-clause-heard : goal.returns-in-Settled-clause-heard
returns-in-Settled-clause-heard g c = heard_then c.args.self.now.ear.child c.loop.self.ear.child c.args.job c.loop.invariant.door.number c.loop.invariant.door.alone c.loop.invariant.same.0.0 c.loop.invariant.heard c.settle_next.ensures.heard

pub returns-in-Settled-clause-door : goal.returns-in-Settled-clause-door
returns-in-Settled-clause-door g c = same_both c.loop.invariant.door c.settle_next.ensures.door

pub settled-requires-clause-asked : goal.settled-requires-clause-asked
settled-requires-clause-asked g c = asked_moved c.loop.self.ear.child c.settle_next.new.self.ear.child c.args.job c.settle_next.ensures.same.0.0 c.settle_next.ensures.moved c.loop.invariant.asked

pub settled-requires-clause-settled : goal.settled-requires-clause-settled
settled-requires-clause-settled g c = λ none. c.in-Over.ensures.settling (ap (λ (k : ℕ). verdict_of (g.D.Door.view c.settle_next.new.door).seen k c.args.job) (sym c.settle_next.ensures.same.0.0) ∙ none)

pub returns-in-Over-clause-moved : goal.returns-in-Over-clause-moved
returns-in-Over-clause-moved g c = moved_then by_link is_of_child (c.settle_next.ensures.door.number ∙ c.loop.invariant.door.number) (c.settle_next.ensures.door.alone ∙ c.loop.invariant.door.alone) (c.settle_next.ensures.same.0.0 ∙ c.loop.invariant.same.0.0) (moved_then by_link is_of_child c.loop.invariant.door.number c.loop.invariant.door.alone c.loop.invariant.same.0.0 c.loop.invariant.moved c.settle_next.ensures.moved) c.settled.ensures.moved

pub returns-in-Over-clause-heard : goal.returns-in-Over-clause-heard
returns-in-Over-clause-heard g c = heard_then c.args.self.now.ear.child c.settle_next.new.self.ear.child c.args.job (c.settle_next.ensures.door.number ∙ c.loop.invariant.door.number) (c.settle_next.ensures.door.alone ∙ c.loop.invariant.door.alone) (c.settle_next.ensures.same.0.0 ∙ c.loop.invariant.same.0.0) (heard_then c.args.self.now.ear.child c.loop.self.ear.child c.args.job c.loop.invariant.door.number c.loop.invariant.door.alone c.loop.invariant.same.0.0 c.loop.invariant.heard c.settle_next.ensures.heard) c.settled.ensures.heard

pub returns-in-Over-clause-door : goal.returns-in-Over-clause-door
returns-in-Over-clause-door g c = same_both (same_both c.loop.invariant.door c.settle_next.ensures.door) c.settled.ensures.door

pub returns-clause-moved : goal.returns-clause-moved
returns-clause-moved g c = moved_then by_link is_of_child c.loop.invariant.door.number c.loop.invariant.door.alone c.loop.invariant.same.0.0 c.loop.invariant.moved c.settle_last.ensures.moved

pub returns-clause-heard : goal.returns-clause-heard
returns-clause-heard g c = heard_then c.args.self.now.ear.child c.loop.self.ear.child c.args.job c.loop.invariant.door.number c.loop.invariant.door.alone c.loop.invariant.same.0.0 c.loop.invariant.heard c.settle_last.ensures.heard

pub returns-clause-door : goal.returns-clause-door
returns-clause-door g c = same_both c.loop.invariant.door c.settle_last.ensures.door

pub loop-preserved : goal.loop-preserved
loop-preserved g c = record {
  started = ap (is_started (g.D.Door.view c.settle_next.new.door).seen) c.settle_next.ensures.same.0.0 ∙ started_on c.loop.self.ear.child c.settle_next.ensures.moved c.loop.invariant.started;
  moved = moved_then by_link is_of_child c.loop.invariant.door.number c.loop.invariant.door.alone c.loop.invariant.same.0.0 c.loop.invariant.moved c.settle_next.ensures.moved;
  heard = heard_then c.args.self.now.ear.child c.loop.self.ear.child c.args.job c.loop.invariant.door.number c.loop.invariant.door.alone c.loop.invariant.same.0.0 c.loop.invariant.heard c.settle_next.ensures.heard;
  same = ((c.settle_next.ensures.same.0.0 ∙ c.loop.invariant.same.0.0, c.settle_next.ensures.same.0.1 ∙ c.loop.invariant.same.0.1), (c.settle_next.ensures.same.1.0 ∙ c.loop.invariant.same.1.0, c.settle_next.ensures.same.1.1 ∙ c.loop.invariant.same.1.1));
  door = same_both c.loop.invariant.door c.settle_next.ensures.door;
  asked = asked_moved c.loop.self.ear.child c.settle_next.new.self.ear.child c.args.job c.settle_next.ensures.same.0.0 c.settle_next.ensures.moved c.loop.invariant.asked;
}
