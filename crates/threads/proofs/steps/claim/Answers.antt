use Rattle.std.proofs.Common.{rules, ◌≡◌, ℕ, [], ◌∷◌, Some, sym, ap, ◌∙◌, subst, arith}
use Rattle.threads.specs.Log.{Allowed, part, seen}
use Rattle.threads.specs.Resting.{IsResting}
use Rattle.threads.proofs.Keeps.{takes_turn}
use Rattle.threads.proofs.steps.claim.Goals as goal

pub compare_exchange-found-requires : goal.compare_exchange-found-requires
compare_exchange-found-requires g c =
    let same = c.loop.invariant.2 ∙ c.read.ensures.2 in
    let new : c.from.result ≡ c.args.number = search rules in
    let rests = subst (IsResting c.args.number) (sym same) c.requires.rests in
    let pos = rests.3 in (
      search rules,
      search rules,
      takes_turn g.V.Held.history g.V.Held.fixed (Allowed g.V.Held.made_by g.V.Held.may) c.args.board.now.key.value.value c.args.board.now.key.seats _ c.loop.seat.id c.loop.seat.me c.from.result (seen c.loop.seat.me.0.parts)
          rests.0 (rests.1 ∙ ap (λ (n : ℕ). part n (seen c.loop.seat.me.0.parts) ∷ []) (sym new)) (omega arith),
    )

pub exchange-requires : goal.exchange-requires
exchange-requires g c =
    let play = c.compare_exchange-found.ensures.2.0 (search rules) in (
      search rules,
      (Some play.1, ap (λ m. m.1) play.2.0 ∙ ap (λ r. (0, Some play.1) ∷ r) (sym (ap (λ m. Rattle.atomic_table.specs.Table.rest m.1) play.2.0))),
    )
