use Rattle.std.proofs.Common.{sym}
use Rattle.run_starts.proofs.Scanning.{scan_found, scan_on}
use Rattle.run_starts.proofs.starved.is_starved.Goals as goal

pub returns-then-is_memory_end : goal.returns-then-is_memory_end
returns-then-is_memory_end c = sym (scan_found c.args.journal.now.entries c.entries.at c.entry.result c.entry.ensures c.is_memory_end.result c.is_memory_end.ensures c.if-is_memory_end.true)

pub entries-preserved : goal.entries-preserved
entries-preserved c = scan_on c.args.journal.now.entries c.entries.at c.entry.result c.entry.ensures c.is_memory_end.result c.is_memory_end.ensures c.if-is_memory_end.false c.entries.invariant
