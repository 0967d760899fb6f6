use Rattle.child_life.proofs.end.ending.finish.Goals as goal

pub returns-clause-laid : goal.returns-clause-laid
returns-clause-laid g c = (c.finish-wire.result, c.push_reserved.ensures.items, c.finish-wire.ensures)
