use Rattle.std.proofs.Common.{rules, ◌≡◌, ℕ, List, [], ◌∷◌, length, ap, ◌∙◌, sym, subst, Some, Option}
use Rattle.atomic_table.specs.Table.{opening}
use Rattle.threads.specs.Log.{Allowed}
use Rattle.threads.specs.Rule.{Kept, first_view}
use Rattle.threads.proofs.Keeps.{begins}
use Rattle.threads.proofs.hall.Hall.begin.Goals as goal

pub new-requires : goal.new-requires
new-requires g c =
    let o = c.of.result.value in
    let is : o ≡ c.args.value = c.of.ensures in
    let items = ap (λ (v : g.row.V.Denot). Some v ∷ []) is ∙ sym c.in_ok-slots.ensures.ok in
    let words = c.first_words.ensures in
    let bells : List ℕ = words.0 in
    subst (λ (z : List ℕ × List (Option g.row.V.Denot)). Kept g.V.Held.history g.V.Held.fixed (Allowed g.V.Held.made_by g.V.Held.may) o c.args.seats (opening z.0 z.1 (first_view c.args.seats (g.V.Held.history o) (g.V.Held.fixed o)))) (λ i. (sym words.1 i, items i))
    (begins g.V.Held.history g.V.Held.fixed (Allowed g.V.Held.made_by g.V.Held.may) o c.args.seats c.len-amount.result bells (c.len-amount.ensures ∙ ap (λ (v : g.row.V.Denot). length (g.V.Held.history v)) (sym is)) c.requires.0)
