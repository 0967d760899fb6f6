use Rattle.std.proofs.Common.{length, drop, ap, ◌∙◌, arith}
use Rattle.journal_scan.proofs.Parts.{behind_part, length_part}
use Rattle.journal_scan.proofs.entries.Entries.behind.Goals as goal

pub returns : goal.returns
returns c =
    let part = c.self.inside in
    let long = length_part part.records.now.entries part.from part.to c.self.invariant.0 c.self.invariant.1 in
    let same = ap length c.self.view_is in
    behind_part part.records.now.entries part.from part.to c.args.n (omega (arith, long, same)) ∙ ap (drop c.args.n) c.self.view_is
