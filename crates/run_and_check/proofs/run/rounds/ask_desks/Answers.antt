use Rattle.std.proofs.Common.{◌∙◌, ◌+◌, ℕ, ◌∷◌, [], map, refl, sym, ap}
use Rattle.std.proofs.lemmas.List.{length-map, map-append}
use Rattle.run_and_check.proofs.RunLemmas.Crews.{fresh_more}
use Rattle.run_and_check.proofs.RunLemmas.Leaving.{adds_worker}
use Rattle.run_and_check.proofs.run.rounds.ask_desks.Goals as goal

pub workers-preserved : goal.workers-preserved
workers-preserved g c =
    let value = g.K.Desk.Desk.told in
    let crew = c.workers.crew in
    let desk = c.in_ok-desk.desk in
    record {
      room = (c.push_reserved.ensures.len ∙ ap (λ (n : ℕ). n + 1) c.workers.invariant.room.0, c.push_reserved.ensures.capacity ∙ c.workers.invariant.room.1);
      adds =
          adds_worker c.workers.before (g.K.Desks.made c.args.desks.now) (g.K.Desks.made c.workers.desks) (g.K.Desks.made c.desk.new.self) (map value crew.items) (map value c.push_reserved.new.self.items) (value desk)
          (record { number = c.workers.before + 1; files = (g.K.Desk.Desk.told desk).files }) (length-map crew.items value ∙ sym crew.ok.0 ∙ c.workers.invariant.room.0)
          (ap (map value) c.push_reserved.ensures.items ∙ map-append value crew.items (desk ∷ [])) refl c.workers.invariant.adds c.in_ok-desk.ensures.made c.in_ok-desk.ensures.fresh.2;
      fresh =
          fresh_more g.K.Desk.Desk.told crew.items c.push_reserved.new.self.items desk c.push_reserved.ensures.items c.in_ok-desk.ensures.fresh.0 c.in_ok-desk.ensures.fresh.1 c.workers.invariant.fresh;
    }
