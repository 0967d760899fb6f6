use Rattle.std.proofs.Common.{◌≡◌, refl, arith}
use Rattle.journal_scan.specs.Tables.Lines.{lines_from, total}
use Rattle.journal_scan.proofs.TablesLemmas.Ending.{length-lines_from, many_bytes}
use Rattle.journal_scan.proofs.tables.store.LineStore.take_room.Goals as goal

pub returns-clause-for_lines : goal.returns-clause-for_lines
returns-clause-for_lines c =
    let many = length-lines_from c.reserve-2.new.self.items 0 c.reserve.new.self.items in
    let long = c.reserve.new.self.ok.0 in
    let roomy = c.in_ok-reserve.ensures.ok in
    omega (arith, many, long, roomy)

pub returns-clause-for_bytes : goal.returns-clause-for_bytes
returns-clause-for_bytes c =
    let old = c.self.inside in
    let same : total (lines_from c.reserve-2.new.self.items 0 c.reserve.new.self.items) ≡ total (lines_from old.bytes.items 0 old.ends.items) =
    λ i. total (lines_from (c.reserve-2.ensures.items i) 0 (c.reserve.ensures.items i)) in
    let many = many_bytes old.bytes.items old.ends.items (lines_from old.bytes.items 0 old.ends.items) c.self.invariant.ended refl in
    let long = old.bytes.ok.0 in
    let roomy = c.in_ok-reserve-2.ensures.ok in
    let kept = c.reserve-2.ensures.len in
    omega (arith, same, many, long, roomy, kept)
