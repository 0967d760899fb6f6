use Rattle.std.proofs.Common.{rules, ◌++◌, ◌∷◌, [], ◌∙◌, ap, map, sym}
use Rattle.std.proofs.lemmas.List.{map-append}
use Rattle.threads.specs.Roles.BackRole.{role_of}
use Rattle.kit_async.proofs.played.workers_of.Goals as goal
use Rattle.ann_key.proofs.Lists.{all_passed, next_passed}

pub loop-back-preserved : goal.loop-back-preserved
loop-back-preserved g c =
    let inv = c.loop-back.invariant in (
      search rules,
      search rules,
      next_passed c.loop-back.yielded c.in-Some.back _ _ _ inv.2 c.in-Some.ensures.steps.0,
      c.push_reserved.ensures.items ∙ ap (λ ws. ws ++ c.role.result ∷ []) inv.3 ∙ ap (λ w. map role_of c.loop-back.yielded ++ w ∷ []) c.role.ensures
          ∙ sym (map-append role_of c.loop-back.yielded (c.in-Some.back ∷ [])),
    )

pub returns : goal.returns
returns g c =
    let inv = c.loop-back.invariant in
    inv.3 ∙ ap (map role_of) (all_passed c.loop-back.yielded c.args.backs.items _ inv.2 (sym c.loop-back.back-iterator.rest.ok.0 ∙ c.in-None.ensures.steps.0))
