use Rattle.std.proofs.Common.{◌≡◌, map, sym, subst, true}
use Rattle.std.specs.Prelude.{All}
use Rattle.journal_model.specs.declared.opening.Opening.{Opening}
use Rattle.journal_model.specs.Journal.{is_started}
use Rattle.journal_model.specs.Legality.{Legal}
use Rattle.crew_rounds.specs.Tagged.Tagged.{link_of}
use Rattle.crew_work.specs.Laws.Laws.{children_of}
use Rattle.crew_work.specs.Laws.Rounds.{LinkValue}
use Rattle.run_children.specs.PoolSteps.{ClosesAll}
use Rattle.run_children.proofs.PoolLinks.{all_unmapped}
use Rattle.run_children.proofs.PoolServing.{alone_calm, alone_links, alone_started, held_then}
use Rattle.run_children.proofs.pooling.serve_one.Goals as goal

pub close_links-requires-clause-calm : goal.close_links-requires-clause-calm
close_links-requires-clause-calm g c =
    alone_calm c.args.bench.now.core.opening c.args.setup.now c.args.bench.now.core.journal c.serve_first.new.bench.core.journal _ _ (map (λ l. link_of l.ear l.mouth) c.args.links.now.items) c.requires.can c.serve_first.ensures.serves

pub close_links-requires-clause-started : goal.close_links-requires-clause-started
close_links-requires-clause-started g c =
    subst (λ xs. All (λ l. is_started c.serve_first.new.bench.core.journal l.ear.child ≡ true) xs) (sym c.deref.ensures.value)
    (all_unmapped (λ (l : LinkValue). is_started c.serve_first.new.bench.core.journal l.ear.child ≡ true) (λ l. link_of l.ear l.mouth) c.serve_first.new.links.items
    (alone_started c.args.bench.now.core.opening c.args.setup.now c.args.bench.now.core.journal c.serve_first.new.bench.core.journal _ _ (map (λ l. link_of l.ear l.mouth) c.args.links.now.items) (map (λ l. link_of l.ear l.mouth) c.serve_first.new.links.items)
    c.requires.can c.serve_first.ensures.serves c.serve_first.ensures.same))

pub returns-clause-serves : goal.returns-clause-serves
returns-clause-serves g c =
    alone_links c.args.bench.now.core.opening c.args.setup.now c.args.bench.now.core.journal c.serve_first.new.bench.core.journal _ _ c.close_links.new.core.journal (map (λ l. link_of l.ear l.mouth) c.args.links.now.items)
    (map (λ l. link_of l.ear l.mouth) c.serve_first.new.links.items)
    (λ h. subst (λ (w : Opening). Legal w c.serve_first.new.bench.core.journal) c.serve_first.ensures.core.opening (c.serve_first.ensures.core.legal h)) c.serve_first.ensures.serves c.serve_first.ensures.same
    (subst (λ xs. ClosesAll (children_of (map (λ l. link_of l.ear l.mouth) xs)) c.serve_first.new.bench.core.journal c.close_links.new.core.journal) c.deref.ensures.value c.close_links.ensures.closes)

pub returns-clause-held : goal.returns-clause-held
returns-clause-held g c =
    held_then (λ l. link_of l.ear l.mouth) (λ l. l.one_child) (children_of (map (λ l. link_of l.ear l.mouth) c.deref.result.now)) c.serve_first.new.bench.core.journal c.close_links.new.core.journal c.close_links.ensures.closes
    c.serve_first.new.links.items c.serve_first.ensures.held
