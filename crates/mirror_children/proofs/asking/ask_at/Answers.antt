use Rattle.std.proofs.Common.{sym}
use Rattle.mirror_children.proofs.Fronts.{serving_at, serving_set}
use Rattle.mirror_children.proofs.asking.ask_at.Goals as goal

pub ask-requires-clause-serving : goal.ask-requires-clause-serving
ask-requires-clause-serving g c = serving_at c.args.children.now.items c.args.at c.index_mut.result.now c.requires.serving c.requires.within (sym c.index_mut.ensures.value)

pub returns-clause-serving : goal.returns-clause-serving
returns-clause-serving g c = serving_set c.args.children.now.items c.args.at c.ask.new.self c.requires.serving c.ask.ensures.serving
