use Rattle.std.proofs.Common.{rules, ◌++◌, ◌∷◌, [], ◌∙◌, ap, sym, subst}
use Rattle.threads.specs.Roles.Slots.{SlotOf, SlotsOf, AllCameBack}
use Rattle.threads.specs.Roles.Back.{CameBack}
use Rattle.threads.proofs.RolesLemmas.Pairs.{pairwise-snoc, pairwise-last}
use Rattle.threads.proofs.roles.slot.end_all.Goals as goal
use Rattle.ann_key.proofs.Lists.{all_passed, next_passed}

pub loop-slot-preserved : goal.loop-slot-preserved
loop-slot-preserved g c =
    let inv = c.loop-slot.invariant in let pushed = c.push_reserved.ensures in (
      search rules,
      search rules,
      next_passed c.loop-slot.yielded c.in-Some.slot _ _ _ inv.2 c.in-Some.ensures.steps.0,
      (λ roles all. let (front, last, is, some, one) = pairwise-last (SlotOf g.E.Role.ran) _ c.in-Some.slot roles all in
          rw (is, pushed.items) (pairwise-snoc (CameBack g.E.Role.ran) _ _ last c.end.result (inv.3 front some) (c.end.ensures last one))),
    )

pub returns : goal.returns
returns g c roles all =
    let inv = c.loop-slot.invariant in
    inv.3 roles (rw (all_passed c.loop-slot.yielded c.args.slots.items _ inv.2 (sym c.loop-slot.slot-iterator.rest.ok.0 ∙ c.in-None.ensures.steps.0)) all)
