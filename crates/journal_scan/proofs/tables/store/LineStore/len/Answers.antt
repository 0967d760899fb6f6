use Rattle.std.proofs.Common.{ap, length, arith}
use Rattle.journal_scan.proofs.TablesLemmas.Ending.{many_lines}
use Rattle.journal_scan.proofs.tables.store.LineStore.len.Goals as goal

pub returns : goal.returns
returns c =
    let many = many_lines c.self.inside.bytes.items c.self.inside.ends.items c.args.self.now.lines (ap (λ v. v.lines) c.self.view_is) in
    let same = ap length c.as_slice.ensures.value in
    omega (arith, many, same)
