use Rattle.std.proofs.Common.{refl, subst}
use Rattle.journal_model.specs.declared.opening.Opening.{Opening}
use Rattle.journal_model.specs.Legality.{Legal}
use Rattle.child_life.specs.declared.start.greeting.Mode.TheVariants.{Serve}
use Rattle.child_life.specs.declared.start.greeting.Came.TheVariants.{Ready}
use Rattle.child_life.specs.Start.Greetings.{CameTo}
use Rattle.child_life.proofs.StartLemmas.Across.{unready_undone}
use Rattle.run_children.proofs.PoolChildrenLemmas.Arms.{fault_seats, greeted_closes, over_seats, ready_seats}
use Rattle.run_children.proofs.pool_children.starting.seat_one.Goals as goal

pub seat_over-requires-clause-idle : goal.seat_over-requires-clause-idle
seat_over-requires-clause-idle g c κs within =
    greeted_closes c.args.core.now.journal c.greet.new.core.journal c.args.slot c.in-Child.link.ear.child c.in-Child.ensures.tells.0 c.requires.calm

pub returns-in-Ready-clause-seats : goal.returns-in-Ready-clause-seats
returns-in-Ready-clause-seats g c =
    let o = c.args.core.now.opening in
    let ready : CameTo Serve c.greet.new.core.journal c.in-Child.link.ear.child (Ready c.in-Ready.tagged) =
    subst (CameTo Serve c.greet.new.core.journal c.in-Child.link.ear.child) c.in-Ready.is c.in-Child.ensures.tells.1 in
    ready_seats o c.args.program.now c.args.slot c.args.core.now.journal c.greet.new.core.journal (g.P.Programs.told c.args.programs.now) (g.P.Programs.told c.greet.new.programs)
    c.in-Child.link.ear c.in-Child.link.mouth _ _ _ _ c.in-Child.ensures.tells.0 c.in-Child.link.one_child c.in-Child.ensures.numbers c.in-Child.ensures.starts c.in-Child.ensures.later
    c.requires.legal (subst (λ (w : Opening). Legal w c.greet.new.core.journal) c.greet.ensures.core.opening (c.greet.ensures.core.legal c.requires.legal)) c.requires.book ready.0 c.in-Child.ensures.wired
    c.seat_serving.ensures.seats c.seat_serving.ensures.links

pub returns-in_default-clause-seats : goal.returns-in_default-clause-seats
returns-in_default-clause-seats g c =
    over_seats c.args.core.now.opening c.args.program.now c.args.slot c.args.core.now.journal c.greet.new.core.journal (g.P.Programs.told c.args.programs.now) (g.P.Programs.told c.greet.new.programs)
    c.in-Child.link.ear c.in-Child.link.mouth _ _ _ _ c.in-Child.ensures.tells.0 c.in-Child.link.one_child c.in-Child.ensures.numbers c.in-Child.ensures.starts c.in-Child.ensures.later
    c.seat_over.new.core.journal (g.P.Programs.told c.seat_over.new.programs)
    (unready_undone Serve c.greet.new.core.journal c.in-Child.link.ear.child c.in-Child.came c.in_default.not-Ready c.in-Child.ensures.tells.1)
    c.seat_over.ensures.closes c.seat_over.ensures.wired c.seat_over.ensures.over

pub returns-in-StartFault-clause-seats : goal.returns-in-StartFault-clause-seats
returns-in-StartFault-clause-seats g c =
    fault_seats c.args.core.now.opening c.args.program.now c.args.slot c.args.core.now.journal c.greet.new.core.journal (g.P.Programs.told c.args.programs.now) (g.P.Programs.told c.greet.new.programs)
    _ _ c.in-StartFault.ensures.tells c.requires.calm c.in-StartFault.ensures.starts (c.in-StartFault.ensures.fault refl) c.in-StartFault.ensures.later
