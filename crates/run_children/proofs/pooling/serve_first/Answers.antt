use Rattle.std.proofs.Common.{◌<◌, ℕ, subst}
use Rattle.crew_rounds.specs.Tagged.Tagged.{link_of}
use Rattle.run_children.proofs.PoolServing.{first_keeps, first_same, first_works}
use Rattle.run_children.proofs.pooling.serve_first.Goals as goal

pub serve-requires-clause-can : goal.serve-requires-clause-can
serve-requires-clause-can g c =
    first_works (λ l. link_of l.ear l.mouth) c.args.bench.now.core.opening c.args.setup.now c.args.bench.now.core.journal c.args.bench.now.core.journal c.args.links.now.items c.index_mut.result.now c.index_mut.result.now
    (subst (λ (n : ℕ). 0 < n) c.args.links.now.ok.0 c.requires.some.0) c.index_mut.ensures.value c.requires.can

pub returns-clause-held : goal.returns-clause-held
returns-clause-held g c =
    first_keeps (λ l. link_of l.ear l.mouth) c.args.bench.now.core.opening c.args.setup.now c.args.bench.now.core.journal c.serve.new.core.journal c.args.links.now.items c.index_mut.result.now c.serve.new.link
    (subst (λ (n : ℕ). 0 < n) c.args.links.now.ok.0 c.requires.some.0) c.index_mut.ensures.value c.requires.can (λ l. l.one_child) c.serve.ensures.serves c.serve.ensures.link

pub returns-clause-same : goal.returns-clause-same
returns-clause-same g c =
    first_same (λ l. link_of l.ear l.mouth) c.args.bench.now.core.opening c.args.setup.now c.args.bench.now.core.journal c.serve.new.core.journal c.args.links.now.items c.index_mut.result.now c.serve.new.link
    (subst (λ (n : ℕ). 0 < n) c.args.links.now.ok.0 c.requires.some.0) c.index_mut.ensures.value c.requires.can c.serve.ensures.link
