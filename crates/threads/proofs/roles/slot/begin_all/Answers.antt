use Rattle.std.proofs.Common.{rules, ◌++◌, ◌∷◌, [], ◌∙◌, ap, sym, subst}
use Rattle.threads.specs.Roles.Slots.{SlotOf, SlotsOf}
use Rattle.threads.proofs.RolesLemmas.Pairs.{pairwise-snoc}
use Rattle.threads.proofs.roles.slot.begin_all.Goals as goal
use Rattle.ann_key.proofs.Lists.{next_passed}

pub loop-role-preserved : goal.loop-role-preserved
loop-role-preserved g c =
    let inv = c.loop-role.invariant in let pushed = c.push_reserved.ensures in (
      search rules,
      search rules,
      search rules,
      next_passed c.loop-role.yielded c.in-Some.role _ _ _ inv.3 c.in-Some.ensures.steps.0,
      rw pushed.items (pairwise-snoc (SlotOf g.E.Role.ran) _ _ c.begin.result c.in-Some.role inv.4 c.begin.ensures),
    )
