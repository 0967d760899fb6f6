use Rattle.std.proofs.Common.{rules, ◌≡◌, ◌∷◌, [], ◌++◌, map, ap, ◌∙◌, sym, append-nil}
use Rattle.threads.specs.Log.{Allowed, part}
use Rattle.threads.specs.Passes.{PassValue}
use Rattle.threads.proofs.Keeps.{gathers}
use Rattle.threads.proofs.Logs.{map-last, get-front, get-last, get-from_all}
use Rattle.threads.proofs.hall.gather.Goals as goal

pub loop-pass-init : goal.loop-pass-init
loop-pass-init g c =
    let p = c.in-Some.pass in
    let items = c.in-Some.ensures.items in
    let rests = c.pass.invariant in
    let view = c.pass.view_is in
    let own = get-from_all (λ (q : PassValue g.row.V-Entry.Denot g.row.V-Fixed.Denot). q.table ≡ c.args.board.now.table_id) _ c.requires.own in (
      ap (λ (v : PassValue g.row.V-Entry.Denot g.row.V-Fixed.Denot). v.table) view ∙ own _ p (get-last _ p _ items),
      rests.2,
      rests.0,
      ap (λ ps. map (λ p. part p.number p.links) c.pop.new.self.items ++ ps) (sym (append-nil c.pass.inside.seat.me.0.parts))
          ∙ map-last (λ p. part p.number p.links) _ _ p c.pass.inside.seat.me.0.parts [] _ items (append-nil _) (rests.1 ∙ ap (λ (v : PassValue g.row.V-Entry.Denot g.row.V-Fixed.Denot). part v.number v.links ∷ []) view),
      λ k q h. own k q (get-front _ p _ items k q h),
    )

pub join_seat-requires : goal.join_seat-requires
join_seat-requires g c =
    let inv = c.loop-pass.invariant in
    let p = c.in-Some-pop.pass in
    let items = c.in-Some-pop.ensures.items in
    let rests = c.pass-in-Some-pop.invariant in (
      inv.0,
      ap (λ (v : PassValue g.row.V-Entry.Denot g.row.V-Fixed.Denot). v.table) c.pass-in-Some-pop.view_is ∙ inv.4 _ p (get-last _ p _ items),
      rests.2,
      search rules,
      gathers g.V.Held.history g.V.Held.fixed (Allowed g.V.Held.made_by g.V.Held.may) c.args.board.now.key.value.value c.args.board.now.key.seats _ _ _ _ inv.2 rests.0,
    )

pub loop-pass-preserved : goal.loop-pass-preserved
loop-pass-preserved g c =
    let inv = c.loop-pass.invariant in
    let p = c.in-Some-pop.pass in
    let items = c.in-Some-pop.ensures.items in
    let rests = c.pass-in-Some-pop.invariant in
    let view = c.pass-in-Some-pop.view_is in
    let me = c.join_seat.ensures.2 in (
      c.join_seat.ensures.0 ∙ inv.0,
      ap (λ m. m.1) me ∙ inv.1,
      ap (λ m. m.0.stage) me ∙ inv.2,
      ap (λ m. map (λ p. part p.number p.links) c.pop-in-loop-pass.new.self.items ++ m.0.parts) me
          ∙ map-last (λ p. part p.number p.links) _ _ p c.pass-in-Some-pop.inside.seat.me.0.parts _ _ items inv.3 (rests.1 ∙ ap (λ (v : PassValue g.row.V-Entry.Denot g.row.V-Fixed.Denot). part v.number v.links ∷ []) view),
      λ k q h. inv.4 k q (get-front _ p _ items k q h),
    )
