use Rattle.std.proofs.Common.{◌≡◌, ◌∙◌, List, map, sym, subst, ap, arith, length, true, inl, inr}
use Rattle.std.specs.Prelude.{All}
use Rattle.journal_model.specs.declared.entry.Entry.{Entry}
use Rattle.journal_model.specs.declared.opening.Opening.{Opening}
use Rattle.journal_model.specs.Journal.{is_started}
use Rattle.journal_model.specs.Legality.{Legal}
use Rattle.child_life.specs.End.Wires.{IsHeld}
use Rattle.crew_rounds.specs.Tagged.Tagged.{link_of}
use Rattle.crew_work.specs.Laws.Laws.{children_of}
use Rattle.crew_work.specs.Laws.Rounds.{IsAtRest, LinkValue}
use Rattle.run_children.specs.PoolSteps.{ClosesAll}
use Rattle.run_children.proofs.Ends.{by_done, by_kept, legal_kept}
use Rattle.run_children.proofs.PoolLinks.{all_unmapped}
use Rattle.run_children.proofs.PoolServing.{can_kept, held_then, rounds_held, rounds_legal, rounds_links, rounds_started, same_links_both, serves_kept, starved_started}
use Rattle.run_children.proofs.pooling.serve_all.Goals as goal

pub close_links-requires-clause-started : goal.close_links-requires-clause-started
close_links-requires-clause-started g c =
    subst (λ xs. All (λ l. is_started c.round_links-links.result.1.core.journal l.ear.child ≡ true) xs) (sym c.deref.ensures.value)
    (all_unmapped (λ (l : LinkValue). is_started c.round_links-links.result.1.core.journal l.ear.child ≡ true) (λ l. link_of l.ear l.mouth) c.round_links-links.result.0.items
    (rounds_started c.args.bench.core.opening c.args.setup.now c.args.bench.core.journal c.round_links-links.result.1.core.journal (map (λ l. link_of l.ear l.mouth) c.args.links.items) (map (λ l. link_of l.ear l.mouth) c.round_links-links.result.0.items) _ _
    (by_done c.round_links-links.result.2 c.in-Done.is c.round_links-links.ensures.round) c.requires.can c.round_links-links.ensures.same))

pub serve_one-requires : goal.serve_one-requires
serve_one-requires g c =
    let kept = by_kept c.round_links-links.result.2 (inr (c.in-NoThreads.refused, c.in-NoThreads.is)) c.round_links-links.ensures.kept in
    record {
      some = (
        (let before = c.requires.desks.0 in let were = c.args.links.ok.0 in let are = c.round_links-links.result.0.ok.0 in let same = ap (λ (xs : List _). length xs) kept.1.0 in omega (arith, before, were, are, same)),
        (let some = c.requires.desks.0 in let fits = c.requires.desks.1 in let same = c.round_links-links.ensures.desks in omega (arith, some, fits, same)),
      );
      tasks = (ap (λ (w : Opening). w.tasks) c.round_links-links.ensures.opening ∙ c.requires.tasks.0, c.requires.tasks.1);
      folder = c.requires.folder;
      can = can_kept (λ l. link_of l.ear l.mouth) g.K.Desk.told c.args.bench.core.opening c.round_links-links.result.1.core.opening c.args.bench.core.journal c.round_links-links.result.1.core.journal
          c.args.links.items c.round_links-links.result.0.items c.args.bench.desks.items c.round_links-links.result.1.desks.items c.round_links-links.ensures.opening kept.0 kept.1.0 kept.1.1 c.requires.can;
    }

pub returns-in-Done-clause-serves : goal.returns-in-Done-clause-serves
returns-in-Done-clause-serves g c =
    rounds_links c.args.bench.core.opening c.args.setup.now c.args.bench.core.journal c.round_links-links.result.1.core.journal (map (λ l. link_of l.ear l.mouth) c.args.links.items) (map (λ l. link_of l.ear l.mouth) c.round_links-links.result.0.items) _ _
    (by_done c.round_links-links.result.2 c.in-Done.is c.round_links-links.ensures.round) c.close_links.new.core.journal c.round_links-links.ensures.same
    (subst (λ xs. ClosesAll (children_of (map (λ l. link_of l.ear l.mouth) xs)) c.round_links-links.result.1.core.journal c.close_links.new.core.journal) c.deref.ensures.value c.close_links.ensures.closes)

pub returns-in-Done-clause-held : goal.returns-in-Done-clause-held
returns-in-Done-clause-held g c =
    held_then (λ l. link_of l.ear l.mouth) (λ l. l.one_child) (children_of (map (λ l. link_of l.ear l.mouth) c.deref.result.now)) c.round_links-links.result.1.core.journal c.close_links.new.core.journal c.close_links.ensures.closes
    c.round_links-links.result.0.items
    (all_unmapped (λ (l : LinkValue). IsHeld c.round_links-links.result.1.core.journal l.ear l.mouth) (λ l. link_of l.ear l.mouth) c.round_links-links.result.0.items
    (rounds_held c.args.bench.core.opening c.args.setup.now c.args.bench.core.journal c.round_links-links.result.1.core.journal (map (λ l. link_of l.ear l.mouth) c.args.links.items) (map (λ l. link_of l.ear l.mouth) c.round_links-links.result.0.items) _ _
    (by_done c.round_links-links.result.2 c.in-Done.is c.round_links-links.ensures.round)))

pub returns-in-Done-clause-core : goal.returns-in-Done-clause-core
returns-in-Done-clause-core g c = record {
  opening = c.close_links.ensures.core.opening ∙ c.round_links-links.ensures.opening;
  legal = λ h. c.close_links.ensures.core.legal (subst (λ (w : Opening). Legal w c.round_links-links.result.1.core.journal) (sym c.round_links-links.ensures.opening)
      (rounds_legal c.args.bench.core.opening c.args.setup.now c.args.bench.core.journal c.round_links-links.result.1.core.journal (map (λ l. link_of l.ear l.mouth) c.args.links.items) (map (λ l. link_of l.ear l.mouth) c.round_links-links.result.0.items) _ _
      (by_done c.round_links-links.result.2 c.in-Done.is c.round_links-links.ensures.round)));
}

pub close_links-requires-in-NoMemory-clause-calm : goal.close_links-requires-in-NoMemory-clause-calm
close_links-requires-in-NoMemory-clause-calm g c =
    let kept = by_kept c.round_links-links.result.2 (inl c.in-NoMemory.is) c.round_links-links.ensures.kept in
    subst IsAtRest (sym kept.0) c.requires.can.calm

pub close_links-requires-in-NoMemory-clause-started : goal.close_links-requires-in-NoMemory-clause-started
close_links-requires-in-NoMemory-clause-started g c =
    let kept = by_kept c.round_links-links.result.2 (inl c.in-NoMemory.is) c.round_links-links.ensures.kept in
    subst (λ xs. All (λ l. is_started c.round_links-links.result.1.core.journal l.ear.child ≡ true) xs) (sym c.deref-in-NoMemory.ensures.value)
    (all_unmapped (λ (l : LinkValue). is_started c.round_links-links.result.1.core.journal l.ear.child ≡ true) (λ l. link_of l.ear l.mouth) c.round_links-links.result.0.items
    (starved_started (λ l. link_of l.ear l.mouth) g.K.Desk.told c.args.bench.core.opening c.round_links-links.result.1.core.opening c.args.bench.core.journal c.round_links-links.result.1.core.journal
    c.args.links.items c.round_links-links.result.0.items c.args.bench.desks.items c.round_links-links.result.1.desks.items c.round_links-links.ensures.opening kept.0 kept.1.0 kept.1.1 c.requires.can))

pub returns-in-NoMemory : goal.returns-in-NoMemory
returns-in-NoMemory g c =
    let kept = by_kept c.round_links-links.result.2 (inl c.in-NoMemory.is) c.round_links-links.ensures.kept in
    let opening = c.round_links-links.ensures.opening in
    let then = c.close_links-in-NoMemory.ensures in
    record {
      serves = record {
        links_are = ap (map _) kept.1.0;
        desks_are = ap (map _) kept.1.1;
        closes =
            subst (λ (j : List Entry). ClosesAll (children_of (map (λ l. link_of l.ear l.mouth) c.round_links-links.result.0.items)) j c.close_links-in-NoMemory.new.core.journal) kept.0
            (subst (λ xs. ClosesAll (children_of (map (λ l. link_of l.ear l.mouth) xs)) c.round_links-links.result.1.core.journal c.close_links-in-NoMemory.new.core.journal) c.deref-in-NoMemory.ensures.value then.closes);
      };
      held = tt;
      same = c.round_links-links.ensures.same;
      core = record {
        opening = then.core.opening ∙ opening;
        legal = λ h. then.core.legal (legal_kept c.args.bench.core.opening c.round_links-links.result.1.core.opening c.args.bench.core.journal c.round_links-links.result.1.core.journal opening kept.0 h);
      };
      desks = c.round_links-links.ensures.desks;
    }

pub returns-in-NoThreads : goal.returns-in-NoThreads
returns-in-NoThreads g c =
    let kept = by_kept c.round_links-links.result.2 (inr (c.in-NoThreads.refused, c.in-NoThreads.is)) c.round_links-links.ensures.kept in
    let opening = c.round_links-links.ensures.opening in
    let then = c.serve_one.ensures in
    record {
      serves = serves_kept (λ l. link_of l.ear l.mouth) g.K.Desk.told c.args.bench.core.opening c.round_links-links.result.1.core.opening c.args.bench.core.journal c.round_links-links.result.1.core.journal
          c.args.links.items c.round_links-links.result.0.items c.args.bench.desks.items c.round_links-links.result.1.desks.items opening kept.0 kept.1.0 kept.1.1 c.args.setup.now c.serve_one.new.bench.core.journal _ then.serves;
      held = then.held;
      same = same_links_both (map (λ l. link_of l.ear l.mouth) c.args.links.items) (map (λ l. link_of l.ear l.mouth) c.round_links-links.result.0.items) (map (λ l. link_of l.ear l.mouth) c.serve_one.new.links.items) c.round_links-links.ensures.same then.same;
      core = record {
        opening = then.core.opening ∙ opening;
        legal = λ h. then.core.legal (legal_kept c.args.bench.core.opening c.round_links-links.result.1.core.opening c.args.bench.core.journal c.round_links-links.result.1.core.journal opening kept.0 h);
      };
      desks = then.desks ∙ c.round_links-links.ensures.desks;
    }
