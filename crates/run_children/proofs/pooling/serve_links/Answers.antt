use Rattle.run_children.proofs.PoolServing.{by_either, by_one}
use Rattle.run_children.proofs.pooling.serve_links.Goals as goal

pub returns-in-Ok-clause-serves : goal.returns-in-Ok-clause-serves
returns-in-Ok-clause-serves g c = by_either c.in-Ok.field-0 _ _ _ _ _ _ _ _ (rw c.in-Ok.is at c.serve_all-links.ensures.serves)

pub returns-clause-serves : goal.returns-clause-serves
returns-clause-serves g c = by_one _ _ _ _ _ _ _ _ c.serve_one.ensures.serves
