use Rattle.std.proofs.Common.{◌≡◌, ◌∙◌, ◌+◌, ◌++◌, sym, ap, List, ℕ, drop, get_or}
use Rattle.mirror_children.specs.Plan.Settings.{bad_from, plans_from}
use Rattle.mirror_children.specs.declared.plan.plan.Plan.{Plan}
use Rattle.mirror_children.proofs.PlanLemmas.Reading.{bad_found, empty_next, plan_next, nil_by}
use Rattle.mirror_children.proofs.plan.plan.read_plans.Goals.{then-not-is_empty+in_ok-plan+in-Some+in_ok-push, else-not-is_empty}
use Rattle.mirror_children.proofs.plan.plan.read_plans.Goals as goal

pub returns-in_default : goal.returns-in_default
returns-in_default c =
    let values = c.first_values-values.result.now in
    let v = c.view-value.result.now in
    let here : v ≡ get_or values c.loop-at.at v = c.view-value.ensures ∙ c.index-values-at.is ∙ ap (λ (x : List ℕ). get_or values c.loop-at.at x) (sym c.view-value.ensures) in
    ap (bad_from 1) (sym c.first_values-values.ensures)
    ∙ bad_found values c.loop-at.at v c.loop-at-test.true here c.loop-at.invariant.good (nil_by v c.is_empty.result c.is_empty.ensures ∙ c.if-not-is_empty.true) (sym c.in_default.is ∙ c.in_ok-plan.ensures)

pub loop-at-preserved : goal.loop-at-preserved
loop-at-preserved c =
    let values = c.first_values-values.result.now in
    let i = c.loop-at.at in
    let v = c.view-value.result.now in
    let good = c.loop-at.invariant.good in
    let made = c.loop-at.plans.items in
    let here : v ≡ get_or values i v = c.view-value.ensures ∙ c.index-values-at.is ∙ ap (λ (x : List ℕ). get_or values i x) (sym c.view-value.ensures) in
    elim c.if-not-is_empty.branch [
      | then-not-is_empty+in_ok-plan+in-Some+in_ok-push w ↦
          let next = plan_next values i v c.loop-at-test.true here good made c.loop-at.invariant.plans (nil_by v c.is_empty.result c.is_empty.ensures ∙ w.if-not-is_empty.true) w.in-Some.plan (sym w.in-Some.is ∙ w.in_ok-plan.ensures) in
          record { good = next.0; plans = next.1 ∙ ap (λ (ps : List Plan). ps ++ plans_from (i + 1 + 1) (drop (i + 1) values)) (sym w.in_ok-push.ensures.items ∙ ap (λ ps. ps.items) (sym w.plans-is)) }
      | else-not-is_empty w ↦
          let next = empty_next values i v c.loop-at-test.true here good made c.loop-at.invariant.plans (nil_by v c.is_empty.result c.is_empty.ensures ∙ w.if-not-is_empty.false) in
          record { good = next.0; plans = next.1 ∙ ap (λ (ps : List Plan). ps ++ plans_from (i + 1 + 1) (drop (i + 1) values)) (ap (λ ps. ps.items) (sym w.plans-is)) }
    ]
