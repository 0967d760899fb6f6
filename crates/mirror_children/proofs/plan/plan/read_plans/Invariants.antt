use Rattle.std.proofs.Common.{◌≡◌, ◌+◌, ◌++◌, drop}
use Rattle.mirror_children.specs.Plan.Settings.{bad_from, plans_from}
use Rattle.mirror_children.proofs.plan.plan.read_plans.Given as goal

-- no value so far is bad, and these are their plans
abbrev pub invariant-loop-at : goal.invariant-loop-at
invariant-loop-at l = record {
  good : bad_from 1 l.values ≡ bad_from (l.at + 1) (drop l.at l.values);
  plans : plans_from 1 l.values ≡ l.plans.items ++ plans_from (l.at + 1) (drop l.at l.values);
}
