use Rattle.std.proofs.Common.{[], ◌∷◌}
use Rattle.plain_lines.proofs.CarryLemmas.Prefixes.{prefix_more}
use Rattle.plain_lines.proofs.carry.writing.write_whole.Goals as goal
use Rattle.ann_outside.proofs.Across.{prefix_longer}

pub returns-clause-prefix : goal.returns-clause-prefix
returns-clause-prefix g c =
    prefix_more (g.W.Sink.told c.args.sink.now).taken (g.W.Sink.told c.write_all.new.sink).taken (g.W.Sink.told c.write_all-2.new.sink).taken c.args.line.now (10 ∷ [])
    c.in_ok-write_all.ensures.ok c.write_all-2.ensures.prefix

pub returns-in_err-write_all-clause-prefix : goal.returns-in_err-write_all-clause-prefix
returns-in_err-write_all-clause-prefix g c =
    prefix_longer (g.W.Sink.told c.args.sink.now).taken (g.W.Sink.told c.write_all.new.sink).taken c.args.line.now (10 ∷ []) c.write_all.ensures.prefix
