use Rattle.std.proofs.Common.{rules, ◌≡◌, [], length, ap, ◌∙◌, refl, arith}
use Rattle.threads.specs.Log.{Allowed, seen}
use Rattle.threads.specs.Rule.{made_one, next_one}
use Rattle.threads.proofs.Keeps.{deals}
use Rattle.threads.proofs.Logs.{each_pushed}
use Rattle.threads.proofs.hall.deal.Goals as goal

pub split_seat-next-requires : goal.split_seat-next-requires
split_seat-next-requires g c =
    let me = c.loop-number.invariant.1 in
    let made : c.loop-number.seat.me.0.made ≡ c.loop-number.number = ap (λ m. m.0.made) me in
    let seats = c.requires.seats.1 in (
      search rules,
      search rules,
      deals g.V.Held.history g.V.Held.fixed (Allowed g.V.Held.made_by g.V.Held.may) c.args.board.now.key.value.value c.args.board.now.key.seats c.loop-number.seat.id c.loop-number.seat.me.0
          (ap (λ m. m.0.stage) me) (omega arith) (omega arith),
    )

pub loop-number-preserved : goal.loop-number-preserved
loop-number-preserved g c =
    let inv = c.loop-number.invariant in
    let me = inv.1 in
    let left = c.split_seat-next.ensures.2 ∙ ap (λ m. (made_one m.0, m.1)) me in (
      search rules,
      c.split_seat-next.ensures.4 ∙ ap (λ m. (next_one m.0, [])) me,
      search rules,
      search rules,
      each_pushed _ c.loop-number.passes.items c.push_reserved.new.self.items _ (length c.loop-number.passes.items) c.push_reserved.ensures.items refl inv.4
          ((c.split_seat-next.ensures.0 ∙ inv.0, ap (λ m. m.0.seats) left, ap (λ m. m.0.start) left, ap (λ m. m.0.fixed) left), search rules, ap (λ m. seen m.0.parts) left),
    )

pub returns : goal.returns
returns g c =
    let inv = c.loop-number.invariant in
    let me = inv.1 in (
      search rules,
      each_pushed _ c.loop-number.passes.items c.push_reserved-2.new.self.items _ (length c.loop-number.passes.items) c.push_reserved-2.ensures.items refl inv.4
          ((inv.0, ap (λ m. m.0.seats) me, ap (λ m. m.0.start) me, ap (λ m. m.0.fixed) me), search rules, ap (λ m. seen m.0.parts) me),
    )
