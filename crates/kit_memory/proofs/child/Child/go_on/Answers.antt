use Rattle.std.proofs.Common.{◌≡◌, ◌+◌, Some, None, Option, ap, sym, ◌∙◌, subst}
use Rattle.kit_memory.specs.Children.{ChildValue, StandsAt, nothing_told}
use Rattle.kit_serve.specs.Voices.{Bytes}
use Rattle.kit_serve.specs.declared.end.End.{End}
use Rattle.kit_memory.proofs.Children.{at_talk, went_on}
use Rattle.kit_memory.proofs.child.Child.go_on.Goals as goal

pub invariant_of-self : goal.invariant_of-self
invariant_of-self g c =
    let v = g.V.Voice in
    let i = c.self.invariant.2 in
    let live : c.self.inside.end ≡ None = ap (λ (x : ChildValue g.row.S.Denot g.row.V.Denot). x.end) c.self.view_is ∙ c.requires in
    let told : Bytes = record { given = Some (g.S.Feed.heard c.self.inside.source); taken = Some c.self.inside.said.bytes.items } in
    let after : Bytes = record { given = Some (g.S.Feed.heard c.turn_over.new.source); taken = Some c.turn_over.new.sink.bytes.items } in
    let t = at_talk v.spoke v.is_over v.is_foul v.lacks i.begun c.self.inside.voice told c.self.inside.splitter.bytes c.self.inside.end i.stands live in (
      c.turn_over.ensures.next.1,
      c.turn_over.ensures.sink.1,
      went_on g.S.Feed.heard g.S.Feed.is_at_end v.spoke v.is_over v.is_foul v.lacks c.self.inside.source c.turn_over.new.source c.self.inside.voice c.turn_over.new.voice
          c.self.inside.splitter.bytes c.turn_over.new.splitter.bytes c.self.inside.said.bytes.items c.turn_over.new.sink.bytes.items c.self.inside.read c.self.inside.end c.self.inside.end
          i c.turn_over.ensures.sink.0
          (subst (λ (end : Option End). StandsAt v.spoke v.is_over v.is_foul v.lacks i.begun c.turn_over.new.voice after c.turn_over.new.splitter.bytes end) (sym live)
          ((t.0.0 + 1, c.in-Ok.ensures.goes i.begun nothing_told t.0.0 t.0.1), c.in-Ok.ensures.next.0))
          (λ eof. absurd cc),
    )

pub invariant_of-self-in-Err : goal.invariant_of-self-in-Err
invariant_of-self-in-Err g c =
    let v = g.V.Voice in
    let i = c.self.invariant.2 in
    let live : c.self.inside.end ≡ None = ap (λ (x : ChildValue g.row.S.Denot g.row.V.Denot). x.end) c.self.view_is ∙ c.requires in
    let told : Bytes = record { given = Some (g.S.Feed.heard c.self.inside.source); taken = Some c.self.inside.said.bytes.items } in
    let t = at_talk v.spoke v.is_over v.is_foul v.lacks i.begun c.self.inside.voice told c.self.inside.splitter.bytes c.self.inside.end i.stands live in (
      c.turn_over.ensures.next.1,
      c.turn_over.ensures.sink.1,
      went_on g.S.Feed.heard g.S.Feed.is_at_end v.spoke v.is_over v.is_foul v.lacks c.self.inside.source c.turn_over.new.source c.self.inside.voice c.turn_over.new.voice
          c.self.inside.splitter.bytes c.turn_over.new.splitter.bytes c.self.inside.said.bytes.items c.turn_over.new.sink.bytes.items c.self.inside.read c.self.inside.end (Some c.in-Err.end)
          i c.turn_over.ensures.sink.0 (c.in-Err.ensures.ended i.begun nothing_told t.0.0 t.0.1) c.in-Err.ensures.end,
    )
