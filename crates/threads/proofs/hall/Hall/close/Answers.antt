use Rattle.std.proofs.Common.{List, ◌≡◌, length, ap, ◌∙◌, sym, subst}
use Rattle.std.proofs.lemmas.List.{length-map}
use Rattle.std.proofs.lemmas.Option.{same_Some}
use mathlib.Core.Option.{some-injective}
use Rattle.threads.specs.Log.{Allowed}
use Rattle.threads.specs.Passes.{HallValue, HasClosed}
use Rattle.threads.specs.declared.view.Part.{Part}
use Rattle.threads.specs.Rule.{Ended}
use Rattle.threads.proofs.Keeps.{ends}
use Rattle.threads.proofs.Closing.{closed}
use Rattle.threads.proofs.hall.Hall.close.Goals as goal

pub unreachable-requires : goal.unreachable-requires
unreachable-requires g c =
    let seat = c.gather-seat.result in
    let key = c.self.inside.table.shared.key in
    let all : length seat.me.0.parts ≡ key.seats = ap length c.gather-seat.ensures.2 ∙ (length-map _ _ ∙ (c.requires.all ∙ sym (ap (λ (h : HallValue g.row.V-Entry.Denot g.row.V-Fixed.Denot). h.seats) c.self.view_is))) in
    let e = ends g.V.Held.history g.V.Held.fixed (Allowed g.V.Held.made_by g.V.Held.may) key.value.value key.seats _ seat.me.0 _ _ c.gather-seat.ensures.1 all c.close_with-closed.ensures.values.2 in
    c.in_default.not-Some e.0 (some-injective _ _ (sym c.take.ensures.value ∙ e.1))

pub returns : goal.returns
returns g c =
    let seat = c.gather-seat.result in
    let key = c.self.inside.table.shared.key in
    let view = c.self.view_is in
    let all : length seat.me.0.parts ≡ key.seats = ap length c.gather-seat.ensures.2 ∙ (length-map _ _ ∙ (c.requires.all ∙ sym (ap (λ (h : HallValue g.row.V-Entry.Denot g.row.V-Fixed.Denot). h.seats) view))) in
    let e = ends g.V.Held.history g.V.Held.fixed (Allowed g.V.Held.made_by g.V.Held.may) key.value.value key.seats _ seat.me.0 _ _ c.gather-seat.ensures.1 all c.close_with-closed.ensures.values.2 in
    let is : e.0 ≡ c.in-Some.value = same_Some _ _ (some-injective _ _ (sym e.1 ∙ c.take.ensures.value) ∙ c.in-Some.is) in
    let end = subst (λ (z : g.row.V.Denot × List (Part g.row.V-Entry.Denot)). Ended g.V.Held.history g.V.Held.fixed (Allowed g.V.Held.made_by g.V.Held.may) key.value.value z.0 z.1) (λ i. (is i, c.gather-seat.ensures.2 i)) e.2 in
    subst (λ (h : HallValue g.row.V-Entry.Denot g.row.V-Fixed.Denot). HasClosed g.V.Held.made_by g.V.Held.may h c.args.passes.items (g.V.Held.history c.in-Some.value) (g.V.Held.fixed c.in-Some.value)) view
    (closed g.V.Held.made_by g.V.Held.may _ c.args.passes.items _ _ end.0 end.1 end.2 end.3 end.4 end.5)
