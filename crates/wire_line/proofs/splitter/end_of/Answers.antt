use Rattle.std.proofs.Common.{sym}
use Rattle.wire_line.proofs.Firsts.{found_at, found_none}
use Rattle.wire_line.proofs.splitter.end_of.Goals as goal

pub returns-in-Some-clause-value : goal.returns-in-Some-clause-value
returns-in-Some-clause-value c = sym (found_at c.args.bytes.now c.in-Some.at c.in-Some.ensures).0

pub returns-in-None-clause-value : goal.returns-in-None-clause-value
returns-in-None-clause-value c = sym (found_none c.args.bytes.now c.in-None.ensures)
