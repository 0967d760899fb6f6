use Rattle.std.proofs.Common.{sym}
use Rattle.ann_key.proofs.Scans.{chunk_scanned}
use Rattle.ann_key.proofs.scan.chunk_at.Goals as goal

pub returns : goal.returns
returns c =
    chunk_scanned c.args.bytes.now c.args.at c.in_ok-size.size c.in_ok-size.end c.in_ok-number.number c.in_ok-number.end (sym c.if-not-begins.ensures.value)
    c.in_ok-size.ensures c.in_ok-number.ensures
