use Rattle.ann_outside.specs.Told.{ProgramsTold}
use Rattle.std.proofs.Common.{◌∙◌, List, ap, length, refl, arith}
use Rattle.std.proofs.lemmas.Result.{err_from_is_err_and}
use Rattle.mirror_children.specs.Children.{ChildValue}
use Rattle.mirror_remote.proofs.StartsLemmas.InTurn.{all_begun, begun_until, joined_length, none_begun, one_begun}
use Rattle.mirror_remote.proofs.starts.beginning.begin_all.Goals as goal

pub loop-plan-init : goal.loop-plan-init
loop-plan-init g c = record {
  begun = none_begun (g.P.Programs.told c.args.programs.now) c.args.children.now.items c.requires.none;
  later = omega arith;
  many = c.args.children.now.ok.0 ∙ ap (λ (cs : List ChildValue). length cs) c.requires.none;
  room = refl;
}

pub loop-plan-preserved : goal.loop-plan-preserved
loop-plan-preserved g c =
    let a = c.loop-plan.invariant in
    let b = c.in_ok-begin.ensures.begins in
    let before : ProgramsTold = g.P.Programs.told c.args.programs.now in
    let mid : ProgramsTold = g.P.Programs.told c.loop-plan.programs in
    let after : ProgramsTold = g.P.Programs.told c.begin.new.programs in
    record {
      begun = one_begun c.args.plans.now c.loop-plan.plan-index c.plan-item.result c.loop-plan.children.items c.begin.new.children.items before mid after a.begun (omega arith) c.plan-item.is b.0 b.1 b.2;
      later = (let was = a.later in let now = c.begin.ensures.later in omega (arith, was, now));
      many =
          (let was = a.many in
          let more = joined_length c.loop-plan.children.items c.begin.new.children.items b.0.child b.0.are in
          omega (arith, was, more, c.loop-plan.children.ok.0, c.begin.new.children.ok.0));
      room = c.begin.ensures.capacity ∙ a.room;
    }

pub returns-in_err-begin-clause-begins : goal.returns-in_err-begin-clause-begins
returns-in_err-begin-clause-begins g c =
    let a = c.loop-plan.invariant in
    let before : ProgramsTold = g.P.Programs.told c.args.programs.now in
    let mid : ProgramsTold = g.P.Programs.told c.loop-plan.programs in
    let after : ProgramsTold = g.P.Programs.told c.begin.new.programs in
    let p = err_from_is_err_and c.from_residual.result c.from_residual.ensures.1 in
    rw (p.1, p.2)
    (begun_until c.args.plans.now c.loop-plan.plan-index c.plan-item.result c.loop-plan.children.items c.begin.new.children.items before mid after a.begun (omega arith) c.plan-item.is _ a.later c.in_err-begin.ensures.begins)

pub returns-clause-begins : goal.returns-clause-begins
returns-clause-begins g c = all_begun c.args.plans.now c.loop-plan.plan-index c.loop-plan.children.items (g.P.Programs.told c.args.programs.now) (g.P.Programs.told c.loop-plan.programs) (omega arith) c.loop-plan.invariant.begun
