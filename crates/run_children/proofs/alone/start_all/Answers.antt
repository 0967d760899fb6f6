use Rattle.ann_outside.specs.Told.{DeskTold, ProgramsTold}
use Rattle.std.proofs.Common.{[], ◌∷◌, arith, inl, inr, subst, sym, ap, refl, ◌∙◌, List, length, true}
use Rattle.std.proofs.lemmas.Result.{err_from_is_err_and}
use Rattle.journal_model.specs.declared.opening.Opening.{Opening}
use Rattle.journal_model.specs.Legality.{Legal}
use Rattle.host_core.specs.Steps.{are_all_claimed}
use Rattle.child_link.specs.Wires.{WireValue}
use Rattle.run_starts.proofs.Ending.{cores_both, kept_begin, left_nothing, left_some}
use Rattle.run_children.proofs.Between.{at_rest, jobs_begin}
use Rattle.run_children.specs.Runs.{IsHanded}
use Rattle.run_children.proofs.Objects.{wires_many}
use Rattle.run_children.proofs.Steps.{broken_kept, broken_started, next_job_start}
use Rattle.run_children.proofs.alone.start_all.Goals as goal

pub children-init : goal.children-init
children-init g c = record {
  between = jobs_begin c.args.core.now.opening c.args.setting.now.plan.now.setup c.args.setting.now.plan.now.offers c.args.setting.now.plan.now.starts c.args.core.now.journal (g.K.Desk.told c.args.desk.now ∷ []) true c.requires.may.empty;
  kept = kept_begin c.args.setting.now.plan.now.program c.args.core.now.journal (g.P.Programs.told c.args.programs.now) c.args.wires.now.items c.requires.may.empty c.requires.may.none;
  core = record { opening = refl; legal = λ h. h };
  room = ((let none = c.args.wires.now.ok.0 ∙ ap (λ (xs : List _). length xs) c.requires.may.none in omega (arith, none)), refl);
}

pub returns-then-unclaimed-eq0-clause-started : goal.returns-then-unclaimed-eq0-clause-started
returns-then-unclaimed-eq0-clause-started g c =
    let same_opening = c.children.invariant.core.opening in (
      c.children.made,
      c.children.offer,
      true,
      c.children.invariant.between,
      (let below = c.children-test.true in let end = c.children.auto.made-end in omega (arith, below, end)),
      (refl, inr (ap (λ (w : Opening). are_all_claimed w c.children.core.journal) (sym same_opening) ∙ left_nothing c.children.core.opening c.children.core.journal c.unclaimed.result c.unclaimed.ensures c.if-unclaimed-eq0.true)),
    )

pub returns-then-unclaimed-eq0-clause-kept : goal.returns-then-unclaimed-eq0-clause-kept
returns-then-unclaimed-eq0-clause-kept g c = c.children.invariant.kept

pub returns-then-unclaimed-eq0-clause-core : goal.returns-then-unclaimed-eq0-clause-core
returns-then-unclaimed-eq0-clause-core g c = c.children.invariant.core

pub start_one-requires-clause-handed : goal.start_one-requires-clause-handed
start_one-requires-clause-handed g c = λ κs fresh.
    subst (λ (w : Opening). IsHanded w c.args.setting.now.tasks.now c.args.setting.now.plan.now.setup) (sym c.children.invariant.core.opening) c.requires.handed

pub start_one-requires-clause-may : goal.start_one-requires-clause-may
start_one-requires-clause-may g c = λ κs fresh. record {
  legal = subst (λ (w : Opening). Legal w c.children.core.journal) (sym c.children.invariant.core.opening) c.children.invariant.between.legal;
  calm = at_rest c.children.invariant.between;
  few =
      let many = wires_many c.children.invariant.kept ∙ sym c.children.wires.ok.0 in
      let used = c.children.invariant.room.0 in
      let below = c.children-test.true in
      let end = c.children.auto.made-end in
      let starts = c.requires.may.starts.1 in
      omega (arith, many, used, below, end, starts);
  left = left_some c.children.core.opening c.children.core.journal c.unclaimed.result c.unclaimed.ensures c.if-unclaimed-eq0.false;
}

pub start_one-requires-clause-room : goal.start_one-requires-clause-room
start_one-requires-clause-room g c = λ κs fresh. (
    let below = c.children-test.true in
    let end = c.children.auto.made-end in
    let used = c.children.invariant.room.0 in
    let room = c.children.invariant.room.1 in
    let all = c.requires.may.room in
    omega (arith, below, end, used, room, all))

pub returns-in_err-offer-clause-started : goal.returns-in_err-offer-clause-started
returns-in_err-offer-clause-started g c =
    let o = c.args.core.now.opening in
    let p = c.children.core.opening in
    let cur = c.children.core.journal in
    let new = c.start_one.new.core.journal in
    let same_opening = c.children.invariant.core.opening in
    let legal : Legal o new = subst (λ (w : Opening). Legal w new) (c.start_one.ensures.core.opening ∙ same_opening) (c.start_one.ensures.core.legal (subst (λ (w : Opening). Legal w cur) (sym same_opening) c.children.invariant.between.legal)) in
    let desks0 : List DeskTold = (g.K.Desk.told c.args.desk.now ∷ []) in
    let desks : List DeskTold = (g.K.Desk.told c.children.desk ∷ []) in
    let desks' : List DeskTold = (g.K.Desk.told c.start_one.new.desk ∷ []) in
    let start : ProgramsTold = (g.P.Programs.told c.args.programs.now) in
    let before : ProgramsTold = (g.P.Programs.told c.children.programs) in
    let after : ProgramsTold = (g.P.Programs.told c.start_one.new.programs) in
    let wires : List WireValue = c.children.wires.items in
    let wires' : List WireValue = c.start_one.new.wires.items in
    let q = err_from_is_err_and c.from_residual.result c.from_residual.ensures.1 in
    rw q.1 (broken_started o p c.args.setting.now.plan.now.setup c.args.setting.now.plan.now.offers c.args.setting.now.plan.now.starts c.children.made c.children.offer c.args.setting.now.plan.now.program cur new desks0 desks desks' before after wires wires' same_opening c.children.invariant.between
    c.in_err-offer.ensures.starts legal
    (let below = c.children-test.true in let end = c.children.auto.made-end in omega (arith, below, end)))

pub returns-in_err-offer-clause-kept : goal.returns-in_err-offer-clause-kept
returns-in_err-offer-clause-kept g c =
    let o = c.args.core.now.opening in
    let p = c.children.core.opening in
    let cur = c.children.core.journal in
    let new = c.start_one.new.core.journal in
    let same_opening = c.children.invariant.core.opening in
    let legal : Legal o new = subst (λ (w : Opening). Legal w new) (c.start_one.ensures.core.opening ∙ same_opening) (c.start_one.ensures.core.legal (subst (λ (w : Opening). Legal w cur) (sym same_opening) c.children.invariant.between.legal)) in
    let desks0 : List DeskTold = (g.K.Desk.told c.args.desk.now ∷ []) in
    let desks : List DeskTold = (g.K.Desk.told c.children.desk ∷ []) in
    let desks' : List DeskTold = (g.K.Desk.told c.start_one.new.desk ∷ []) in
    let start : ProgramsTold = (g.P.Programs.told c.args.programs.now) in
    let before : ProgramsTold = (g.P.Programs.told c.children.programs) in
    let after : ProgramsTold = (g.P.Programs.told c.start_one.new.programs) in
    let wires : List WireValue = c.children.wires.items in
    let wires' : List WireValue = c.start_one.new.wires.items in
    let q = err_from_is_err_and c.from_residual.result c.from_residual.ensures.1 in
    rw q.1 (broken_kept o p c.args.setting.now.plan.now.setup c.args.setting.now.plan.now.offers c.args.setting.now.plan.now.starts c.children.made c.children.offer c.args.setting.now.plan.now.program cur new desks0 desks desks' start before after wires wires' same_opening c.children.invariant.between c.children.invariant.kept
    c.in_err-offer.ensures.starts)

pub returns-in_err-offer-clause-core : goal.returns-in_err-offer-clause-core
returns-in_err-offer-clause-core g c = cores_both c.children.invariant.core c.start_one.ensures.core

pub children-preserved : goal.children-preserved
children-preserved g c =
    let o = c.args.core.now.opening in
    let p = c.children.core.opening in
    let cur = c.children.core.journal in
    let new = c.start_one.new.core.journal in
    let same_opening = c.children.invariant.core.opening in
    let legal : Legal o new = subst (λ (w : Opening). Legal w new) (c.start_one.ensures.core.opening ∙ same_opening) (c.start_one.ensures.core.legal (subst (λ (w : Opening). Legal w cur) (sym same_opening) c.children.invariant.between.legal)) in
    let desks0 : List DeskTold = (g.K.Desk.told c.args.desk.now ∷ []) in
    let desks : List DeskTold = (g.K.Desk.told c.children.desk ∷ []) in
    let desks' : List DeskTold = (g.K.Desk.told c.start_one.new.desk ∷ []) in
    let start : ProgramsTold = (g.P.Programs.told c.args.programs.now) in
    let before : ProgramsTold = (g.P.Programs.told c.children.programs) in
    let after : ProgramsTold = (g.P.Programs.told c.start_one.new.programs) in
    let wires : List WireValue = c.children.wires.items in
    let wires' : List WireValue = c.start_one.new.wires.items in
    let after_one = next_job_start o p c.args.setting.now.plan.now.setup c.args.setting.now.plan.now.offers c.args.setting.now.plan.now.starts c.children.made c.children.offer _ true c.args.setting.now.plan.now.program cur new desks0 desks desks' start before after wires wires'
    same_opening c.children.invariant.between c.children.invariant.kept c.in_ok-offer.ensures.starts legal in
    record {
      between = after_one.0;
      kept = after_one.1;
      core = cores_both c.children.invariant.core c.start_one.ensures.core;
      room = (
        (let was = c.children.invariant.room.0 in let now = c.start_one.ensures.room.0 in omega (arith, was, now)),
        c.start_one.ensures.room.1 ∙ c.children.invariant.room.1,
      );
    }

pub returns-clause-started : goal.returns-clause-started
returns-clause-started g c = (
  c.children.made,
  c.children.offer,
  true,
  c.children.invariant.between,
  (let end = c.children.auto.made-end in omega (arith, end)),
  (refl, inl (let over = c.children-test.false in let end = c.children.auto.made-end in omega (arith, over, end))),
)

pub returns-clause-kept : goal.returns-clause-kept
returns-clause-kept g c = c.children.invariant.kept

pub returns-clause-core : goal.returns-clause-core
returns-clause-core g c = c.children.invariant.core
