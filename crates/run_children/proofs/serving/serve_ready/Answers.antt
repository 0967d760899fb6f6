use Rattle.run_children.proofs.Firsts.{served_plainly}
use Rattle.run_children.proofs.serving.serve_ready.Goals as goal

pub returns-then-len-gt1-clause-serves : goal.returns-then-len-gt1-clause-serves
returns-then-len-gt1-clause-serves g c = served_plainly _ _ _ _ _ _ _ _ c.serve_round-link.result.2 c.plainly.result c.plainly.ensures c.serve_round-link.ensures.serves
