use Rattle.std.proofs.Common.{◌∙◌, map, arith, rules}
use Rattle.std.specs.Prelude.{reverse}
use Rattle.std.proofs.lemmas.List.{length-map, length-reverse}
use Rattle.crew_rounds.proofs.PoolLemmas.Dealing.{first_left}
use Rattle.crew_rounds.proofs.pool.played.cast.Goals as goal

pub returns-clause-passes : goal.returns-clause-passes
returns-clause-passes g c =
    let d = c.deal-workers.ensures in
    let dealt = length-map (reverse c.deal-workers.result.items) (λ w. w.pass) ∙ length-reverse c.deal-workers.result.items in
    (first_left c.args.kit.passes.items c.deal-workers.new.passes.items c.pop.new.self.items (map (λ w. w.pass) (reverse c.deal-workers.result.items)) c.in-Some.main d.passes.items c.in-Some.ensures.items
    (omega (arith, c.args.kit.passes.ok.0, c.requires.room.2, d.count, c.deal-workers.result.ok.0, dealt))).0

pub returns-clause-rooms : goal.returns-clause-rooms
returns-clause-rooms g c =
    let d = c.deal-workers.ensures in
    let dealt = length-map (reverse c.deal-workers.result.items) (λ w. w.pass) ∙ length-reverse c.deal-workers.result.items in (
      record {
        none =
            (first_left c.args.kit.passes.items c.deal-workers.new.passes.items c.pop.new.self.items (map (λ w. w.pass) (reverse c.deal-workers.result.items)) c.in-Some.main d.passes.items c.in-Some.ensures.items
            (omega (arith, c.args.kit.passes.ok.0, c.requires.room.2, d.count, c.deal-workers.result.ok.0, dealt))).1;
        room = search rules;
      },
      record { none = d.links.none; room = search rules },
      record { none = d.desks.none; room = search rules },
    )
