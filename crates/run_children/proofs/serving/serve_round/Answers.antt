use Rattle.std.proofs.Common.{◌≡◌, ◌+◌, ℕ, List, map, sym, subst, ap, ◌∙◌, length, arith, true, inl, inr}
use Rattle.std.proofs.lemmas.List.{length-map}
use Rattle.std.specs.List.{range_with_len}
use Rattle.journal_model.specs.Journal.{is_started}
use Rattle.child_link.specs.Alone.{Closes}
use Rattle.crew_work.specs.Laws.Laws.{GoesOn}
use Rattle.crew_rounds.specs.Tagged.TaggedRounds.{TaggedLeaves}
use Rattle.crew_rounds.specs.Tagged.Tagged.{link_of}
use Rattle.run_children.proofs.Ends.{alone_kept, by_done, by_kept, legal_kept, round_as_many, round_closes, round_held, round_started, starved_closes, starved_held, starved_may}
use Rattle.run_children.proofs.serving.serve_round.Goals as goal

pub close_child-requires-clause-started : goal.close_child-requires-clause-started
close_child-requires-clause-started g c =
    round_started c.args.bench.core.opening c.args.setup.now _ c.args.bench.core.journal c.round_tagged-core.result.core.journal (link_of c.round_tagged-core.result.link.ear c.round_tagged-core.result.link.mouth) _ _
    (by_done c.round_tagged-core.result.outcome c.in-Done.is c.round_tagged-core.ensures.round) c.round_tagged-core.result.link.ear.child
    (subst (λ (k : ℕ). is_started c.args.bench.core.journal k ≡ true) (sym c.round_tagged-core.ensures.same.0.0) c.requires.can.can.serves.started)

pub close_child-requires-clause-idle : goal.close_child-requires-clause-idle
close_child-requires-clause-idle g c =
    round_closes c.args.bench.core.opening c.args.setup.now _ c.args.bench.core.journal c.round_tagged-core.result.core.journal (link_of c.round_tagged-core.result.link.ear c.round_tagged-core.result.link.mouth) _ _
    (by_done c.round_tagged-core.result.outcome c.in-Done.is c.round_tagged-core.ensures.round) c.round_tagged-core.result.link.ear.child

pub returns-in-Done-clause-serves : goal.returns-in-Done-clause-serves
returns-in-Done-clause-serves g c =
    let desks = map g.K.Desk.told c.args.bench.desks.items in
    let desks' = map g.K.Desk.told c.round_tagged-core.result.desks.items in
    let old = c.args.bench.core.journal in
    let mid = c.round_tagged-core.result.core.journal in
    let link = link_of c.round_tagged-core.result.link.ear c.round_tagged-core.result.link.mouth in
    let count : length desks ≡ c.args.bench.desks.len = length-map c.args.bench.desks.items g.K.Desk.told ∙ sym c.args.bench.desks.ok.0 in
    record {
      many = λ one. (let some = c.requires.desks.0 in omega (arith, one, count, some));
      tagged = sym c.requires.can.tag;
      link = link;
      child = c.round_tagged-core.ensures.same.0.0;
      mid = mid;
      round = subst (λ (n : ℕ). GoesOn old mid (λ rest. TaggedLeaves c.args.bench.core.opening c.args.setup.now (range_with_len 1 (3 + n)) old rest link desks desks')) (sym count)
          (by_done c.round_tagged-core.result.outcome c.in-Done.is c.round_tagged-core.ensures.round);
      closes = subst (λ (k : ℕ). Closes 0 k mid c.close_child.new.core.journal) c.round_tagged-core.ensures.same.0.0 c.close_child.ensures.closes;
    }

pub returns-in-Done-clause-held : goal.returns-in-Done-clause-held
returns-in-Done-clause-held g c =
    c.close_child.ensures.held
    (round_held c.args.bench.core.opening c.args.setup.now _ c.args.bench.core.journal c.round_tagged-core.result.core.journal (link_of c.round_tagged-core.result.link.ear c.round_tagged-core.result.link.mouth) _ _
    (by_done c.round_tagged-core.result.outcome c.in-Done.is c.round_tagged-core.ensures.round) c.args.link.ear.child c.round_tagged-core.ensures.same.0.0 (sym c.requires.can.tag) c.requires.can.wired.written)

pub returns-in-Done-clause-desks : goal.returns-in-Done-clause-desks
returns-in-Done-clause-desks g c =
    c.round_tagged-core.result.desks.ok.0 ∙ sym (length-map c.round_tagged-core.result.desks.items g.K.Desk.told)
    ∙ sym (round_as_many c.args.bench.core.opening c.args.setup.now _ c.args.bench.core.journal c.round_tagged-core.result.core.journal (link_of c.round_tagged-core.result.link.ear c.round_tagged-core.result.link.mouth) _ _
    (by_done c.round_tagged-core.result.outcome c.in-Done.is c.round_tagged-core.ensures.round))
    ∙ length-map c.args.bench.desks.items g.K.Desk.told ∙ sym c.args.bench.desks.ok.0

pub close_child-requires-in-NoMemory-clause-started : goal.close_child-requires-in-NoMemory-clause-started
close_child-requires-in-NoMemory-clause-started g c =
    let kept = by_kept c.round_tagged-core.result.outcome (inl c.in-NoMemory.is) c.round_tagged-core.ensures.kept in
    (starved_may c.requires.can kept.0 kept.1.0.0).0

pub close_child-requires-in-NoMemory-clause-idle : goal.close_child-requires-in-NoMemory-clause-idle
close_child-requires-in-NoMemory-clause-idle g c =
    let kept = by_kept c.round_tagged-core.result.outcome (inl c.in-NoMemory.is) c.round_tagged-core.ensures.kept in
    (starved_may c.requires.can kept.0 kept.1.0.0).1

pub returns-in-NoMemory : goal.returns-in-NoMemory
returns-in-NoMemory g c =
    let kept = by_kept c.round_tagged-core.result.outcome (inl c.in-NoMemory.is) c.round_tagged-core.ensures.kept in
    let opening = c.round_tagged-core.ensures.opening in
    let same = c.round_tagged-core.ensures.same in
    let then = c.close_child-in-NoMemory.ensures in
    let count : length (map g.K.Desk.told c.args.bench.desks.items) ≡ c.args.bench.desks.len = length-map c.args.bench.desks.items g.K.Desk.told ∙ sym c.args.bench.desks.ok.0 in
    record {
      serves = record {
        many = λ one. (let some = c.requires.desks.0 in omega (arith, one, count, some));
        link = kept.1.0;
        desks_are = ap (map _) kept.1.1;
        closes = starved_closes kept.0 same.0.0 then.closes;
      };
      held = then.held (starved_held c.requires.can kept.0 kept.1.0);
      same = same;
      core = record {
        opening = then.core.opening ∙ opening;
        legal = λ h. then.core.legal (legal_kept c.args.bench.core.opening c.round_tagged-core.result.core.opening c.args.bench.core.journal c.round_tagged-core.result.core.journal opening kept.0 h);
      };
      desks = c.round_tagged-core.result.desks.ok.0 ∙ ap (λ (xs : List _). length xs) kept.1.1 ∙ sym c.args.bench.desks.ok.0;
    }

pub returns-in-NoThreads : goal.returns-in-NoThreads
returns-in-NoThreads g c =
    let kept = by_kept c.round_tagged-core.result.outcome (inr (c.in-NoThreads.refused, c.in-NoThreads.is)) c.round_tagged-core.ensures.kept in
    let opening = c.round_tagged-core.ensures.opening in
    let same = c.round_tagged-core.ensures.same in
    let then = c.serve_alone.ensures in
    record {
      serves = alone_kept g.K.Desk.told c.args.bench.core.opening c.round_tagged-core.result.core.opening c.args.setup.now c.args.link.ear.child c.round_tagged-core.result.link.ear.child
          c.args.bench.core.journal c.round_tagged-core.result.core.journal c.serve_alone.new.bench.core.journal c.args.bench.desks.items c.round_tagged-core.result.desks.items _ opening same.0.0 kept.0 kept.1.1 then.serves;
      held = then.held;
      same = ((then.same.0.0 ∙ same.0.0, then.same.0.1 ∙ same.0.1), (then.same.1.0 ∙ same.1.0, then.same.1.1 ∙ same.1.1));
      core = record {
        opening = then.core.opening ∙ opening;
        legal = λ h. then.core.legal (legal_kept c.args.bench.core.opening c.round_tagged-core.result.core.opening c.args.bench.core.journal c.round_tagged-core.result.core.journal opening kept.0 h);
      };
      desks = then.desks ∙ c.round_tagged-core.result.desks.ok.0 ∙ ap (λ (xs : List _). length xs) kept.1.1 ∙ sym c.args.bench.desks.ok.0;
    }
